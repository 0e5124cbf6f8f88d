-- The steps of eliminations on worked examples: each is computed.
use Rattle.std.proofs.Common.{◌≡◌, pos, negsuc, refl, [], ◌∷◌, map, true}
use Rattle.cf_num.specs.Divisors.{gcd_by, factors_by}
use Rattle.cf_num.specs.Parts.{parts_of}
use Rattle.cf_tree.specs.declared.base.Base.TheVariants.{Int}
use Rattle.cf_tree.specs.declared.base.Order.TheVariants.{Eq, Le}
use Rattle.cf_tree.specs.RelTree.{RelTree, term_lit, term_var, term_add, term_mul, rel_compare, rel_and}
use Rattle.cf_linear.specs.Cases.{disjuncts, system_of_case, first_systems, write_atom}
use Rattle.cf_linear.specs.Layout.{layout_of}
use Rattle.cf_linear.specs.Stages.{limits, clean_stage, equation_stage, bound_stage, unknown_stage, row_stage, stage}
use Rattle.cf_linear.specs.Steps.{clean, mix, factors_of, merge, merge_passes, merge_factor, last, pick, searched, dropped, searched_by, bound, bound_passes}
use Rattle.cf_linear.specs.Steps.{bound_factor}
use Rattle.cf_elim.specs.declared.act.Act.TheVariants.{Clean, Mix, Last, Search, Drop}
use Rattle.cf_elim.specs.Acts.{acts_at, acts_for, traced}

abbrev seconds : RelTree
seconds = rel_and (rel_and (rel_and (rel_and (rel_and (rel_compare Eq (term_add (term_add (term_mul (term_var 1) (term_lit (pos 3600))) (term_mul
    (term_var 2) (term_lit (pos 60)))) (term_var 3)) (term_var 0)) (rel_compare Le (term_lit (pos 0)) (term_var 1))) (rel_compare Le (term_lit (pos 0))
    (term_var 2))) (rel_compare Le (term_var 2) (term_lit (pos 59)))) (rel_compare Le (term_lit (pos 0)) (term_var 3))) (rel_compare Le (term_var 3)
    (term_lit (pos 59)))

-- two Merges and the end of an equation, and two drops without a search
pub seconds-traced : map (traced limits) (first_systems (layout_of (Int ∷ []) (Int ∷ Int ∷ Int ∷ []) seconds) seconds) ≡
    (Clean ∷ Mix 2 3 (pos 0) (negsuc 0) (pos 1) (pos 60) ∷ Mix 5 4 (pos 0) (negsuc 0) (pos 1)
    (pos 60) ∷ Last 0 ∷ Clean ∷ Drop 8 ∷ Clean ∷ Drop 6 ∷ Clean ∷ []) ∷ []
unfolding first_systems disjuncts system_of_case write_atom stage clean_stage equation_stage bound_stage unknown_stage row_stage clean mix factors_of merge merge_passes merge_factor last pick searched dropped searched_by bound bound_passes bound_factor gcd_by factors_by parts_of acts_at acts_for traced
seconds-traced = refl

abbrev remainders : RelTree
remainders = rel_and (rel_and (rel_and (rel_compare Le (term_var 0) (term_add (term_mul (term_lit (pos 3)) (term_var 1)) (term_mul (term_lit (pos 5))
    (term_var 2)))) (rel_compare Le (term_add (term_mul (term_lit (pos 3)) (term_var 1)) (term_mul (term_lit (pos 5)) (term_var 2))) (term_var 0)))
    (rel_compare Le (term_lit (pos 0)) (term_var 2))) (rel_compare Le (term_var 2) (term_lit (pos 1)))

-- a drop behind its search
pub remainders-traced : map (traced limits) (first_systems (layout_of (Int ∷ []) (Int ∷ Int ∷ []) remainders) remainders) ≡
    (Clean ∷ Search 2 true ∷ Drop 2 ∷ Clean ∷ Mix 3 5 (pos 1) (pos 3) (negsuc 1) (negsuc 4) ∷ Last 0 ∷ Clean ∷ Drop 7 ∷ Clean ∷ []) ∷ []
unfolding first_systems disjuncts system_of_case write_atom stage clean_stage equation_stage bound_stage unknown_stage row_stage clean mix factors_of merge merge_passes merge_factor last pick searched dropped searched_by bound bound_passes bound_factor gcd_by factors_by parts_of acts_at acts_for traced
remainders-traced = refl
