-- Which outcomes of a choose without an upper bound are near.
use Rattle.std.proofs.Common.{◌≡◌, ◌≤◌, ℕ, pos, List, [], ◌∷◌, refl, subst, sym, arith}
use Rattle.std.proofs.lemmas.Int.{ints}
use Rattle.cf_num.specs.Divisors.{gcd_by, factors_by}
use Rattle.cf_num.specs.Parts.{parts_of}
use Rattle.cf_tree.specs.declared.base.Base.TheVariants.{Int}
use Rattle.cf_tree.specs.declared.base.Order.TheVariants.{Le}
use Rattle.cf_tree.specs.Allowed.{AllowedIn}
use Rattle.cf_tree.specs.ExprTree.{ExprTree, expr_choose}
use Rattle.cf_tree.specs.RelTree.{RelTree, rel_compare, term_var}
use Rattle.cf_tree.specs.Values.{Outcome, values, Value}
use Rattle.cf_linear.specs.Arm.{arm}
use Rattle.cf_linear.specs.Cases.{disjuncts, system_of_case, first_systems, write_atom}
use Rattle.cf_linear.specs.Chooses.{arms, growth_of_case, growth}
use Rattle.cf_linear.specs.Stages.{run, run_for, clean_stage, equation_stage, bound_stage, unknown_stage, row_stage, stage}
use Rattle.cf_linear.specs.Steps.{clean, mix, factors_of, merge, merge_passes, merge_factor, last, pick, searched, dropped, searched_by, bound, bound_passes, bound_factor}
use Rattle.cf_growth.specs.Overflowing.{NearIn}
use Rattle.cf_growth.specs.Reaching.{reach}
use Rattle.cf_growth.proofs.RunExamples.{param, numbers}

-- a <= x
abbrev above : RelTree
above = rel_compare Le (term_var 0) (term_var 1)

abbrev some_above : ExprTree
some_above = expr_choose 1 (param Int ∷ []) (Int ∷ []) above

abbrev three : List Value
three = numbers (pos 3 ∷ [])

-- what no function is called with
abbrev no_calls : ℕ → List Value → Outcome → Type 0
no_calls f xs o = ⊥

above-reach : reach (Int ∷ []) (Int ∷ []) above three ≡ 4
unfolding arms arm first_systems disjuncts system_of_case write_atom run run_for stage clean_stage equation_stage bound_stage unknown_stage row_stage clean mix factors_of merge merge_passes merge_factor last pick searched dropped searched_by bound bound_passes bound_factor gcd_by factors_by parts_of growth growth_of_case
above-reach = refl

four-allowed : AllowedIn no_calls some_above three (values (numbers (pos 4 ∷ [])))
four-allowed = (((pos 4, refl), tt), omega (arith, ints))

five-allowed : AllowedIn no_calls some_above three (values (numbers (pos 5 ∷ [])))
five-allowed = (((pos 5, refl), tt), omega (arith, ints))

four-near : NearIn no_calls some_above three (values (numbers (pos 4 ∷ [])))
four-near = (four-allowed, (subst (λ n. 4 ≤ n) (sym above-reach) (omega arith), tt))

five-far : NearIn no_calls some_above three (values (numbers (pos 5 ∷ []))) → ⊥
five-far h = let l = subst (λ n. 5 ≤ n) above-reach h.1.0 in omega arith

-- two is near, and not allowed
two-not : NearIn no_calls some_above three (values (numbers (pos 2 ∷ []))) → ⊥
two-not h = omega (arith, ints, h.0.1)
