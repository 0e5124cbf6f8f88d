-- Worked examples of what `pre` and `compile` write.
use Rattle.std.proofs.Common.{◌≡◌, ◌∙◌, ℕ, pos, refl, List, [], ◌∷◌, None, codes}
use Rattle.std.specs.Prelude.{◌↔◌}
use Rattle.std.specs.Fmt.{digits}
use Rattle.cf_tree.specs.declared.base.Base.TheVariants.{Int}
use Rattle.cf_tree.specs.declared.base.Order.TheVariants.{Le}
use Rattle.cf_tree.specs.declared.base.Edition.TheVariants.{Three}
use Rattle.cf_tree.specs.declared.target.RawTarget.{RawTarget}
use Rattle.cf_tree.specs.DefView.{target_tree}
use Rattle.cf_tree.specs.Relation.{Sol}
use Rattle.cf_tree.specs.Solving.{HoldSomewhere}
use Rattle.cf_tree.specs.Values.{Value, HaveBases}
use Rattle.cf_tree.specs.RelTree.{term_lit, term_var, term_mul, rel_compare, rel_and}
use Rattle.cf_num.specs.Divisors.{gcd_by, factors_by}
use Rattle.cf_num.specs.Parts.{parts_of}
use Rattle.cf_linear.specs.Steps.{clean, pick, searched, dropped, searched_by, bound, bound_passes}
use Rattle.cf_linear.specs.Stages.{run, run_for, clean_stage, equation_stage, bound_stage, unknown_stage, row_stage, stage}
use Rattle.cf_linear.specs.Cases.{disjuncts, case_count, system_of_case, first_systems, write_atom, written_passes}
use Rattle.cf_linear.specs.Arm.{arm}
use Rattle.cf_linear.specs.Chooses.{arms, first_refused, refusal_by, limit}
use Rattle.cf_choose.specs.Precondition.{all_needs}
use Rattle.cf_tree.specs.ChooseTree.{ChooseTree}
use Rattle.cf_build.specs.Chooses.{limit_of, choose_arms, solve_of}
use Rattle.cf_emit.specs.Printed.{code_text, pre_text, target_text}
use Rattle.cf_emit.specs.ReadsBack.{ReadsBack}
use Rattle.cf_form.specs.Branches.{Branch}
use Rattle.cf_answer.specs.Branches.{valued}
use Rattle.cf_answer.specs.Owed.{IsPrinted, IsPreOf}

-- the x whose double lies between a and b
abbrev pub rounding : ChooseTree
rounding = record {
  number = 1;
  names = codes "a" ∷ codes "b" ∷ [];
  scope = Int ∷ Int ∷ [];
  outputs = Int ∷ [];
  relation = rel_and (rel_compare Le (term_var 0) (term_mul (term_lit (pos 2)) (term_var 2)))
      (rel_compare Le (term_mul (term_lit (pos 2)) (term_var 2)) (term_var 1));
}

rounding_passes_no_limit : limit_of rounding ≡ None
unfolding arms arm first_systems disjuncts system_of_case write_atom run run_for stage clean_stage equation_stage bound_stage unknown_stage row_stage clean
    pick searched dropped searched_by bound bound_passes gcd_by factors_by parts_of limit refusal_by case_count written_passes first_refused
rounding_passes_no_limit = refl

-- the items up to the last need
rounding_pre : pre_text 1 rounding.names (all_needs (choose_arms rounding))
    ≡ codes "pre 1 (a, b) {\narm [] {\nlet div((-1 * v0), 2);\nlet div(v1, 2);\nneed ((v2 + v3) >= 0);\n}\n}\n"
unfolding arms arm first_systems disjuncts system_of_case write_atom run run_for stage clean_stage equation_stage bound_stage unknown_stage row_stage clean
    pick searched dropped searched_by bound bound_passes gcd_by factors_by parts_of digits
rounding_pre = refl

rounding_solve : code_text (solve_of rounding)
    ≡ codes "solve 1 {\narm [] {\nlet div((-1 * v0), 2);\nlet div(v1, 2);\nneed ((v2 + v3) >= 0);\nlet (-1 * v2);\ngive v4\n}\n}"
unfolding arms arm first_systems disjuncts system_of_case write_atom run run_for stage clean_stage equation_stage bound_stage unknown_stage row_stage clean
    pick searched dropped searched_by bound bound_passes gcd_by factors_by parts_of digits
rounding_solve = refl

-- ---- the printed precondition of a choose
told_of : (text : List ℕ) → IsPreOf rounding [] text →
    text ≡ codes "pre 1 (a, b) {\narm [] {\nlet div((-1 * v0), 2);\nlet div(v1, 2);\nneed ((v2 + v3) >= 0);\n}\n}\n"
told_of text p = p.is ∙ rounding_pre

-- it passes no limit, and the needs hold exactly where there are outputs
module _ (q : ChooseTree) (branch : Branch) (text : List ℕ) where
  abbrev Parts : Type 0
  Parts = (limit_of q ≡ None) × (text ≡ pre_text q.number (valued 0 q.names branch) (all_needs (choose_arms q)))
      × ((env : List Value) → HaveBases q.scope env → HoldSomewhere (all_needs (choose_arms q)) env ↔ ((xs : List Value) × Sol q.outputs q.relation env xs))

  parts_of_pre : IsPreOf q branch text → Parts
  parts_of_pre p = (p.within, p.is, p.holds)

  pre_of_parts : Parts → IsPreOf q branch text
  pre_of_parts p = record { within = p.0; is = p.1; holds = p.2 }

-- ---- the printed target
module _ (t : RawTarget) (text : List ℕ) where
  parts_of_print : IsPrinted Three t text → (text ≡ target_text Three t) × ReadsBack Three (target_tree t) text
  parts_of_print p = (p.is, p.reads_back)

  print_of_parts : (text ≡ target_text Three t) × ReadsBack Three (target_tree t) text → IsPrinted Three t text
  print_of_parts p = record { is = p.0; reads_back = p.1 }
