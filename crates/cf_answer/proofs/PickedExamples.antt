-- Worked examples of what main of a program picks.
use Rattle.std.proofs.Common.{◌≡◌, refl, pos, negsuc, [], ◌∷◌, Some, codes}
use Rattle.std.specs.Fmt.{digits}
use Rattle.cf_tree.specs.declared.base.Base.TheVariants.{Int, Set}
use Rattle.cf_tree.specs.declared.base.Base.{Base}
use Rattle.cf_tree.specs.declared.raw.BinOp.TheVariants.{Mul}
use Rattle.cf_tree.specs.declared.raw.Param.{Param}
use Rattle.cf_tree.specs.declared.target.RawTarget.{RawTarget}
use Rattle.cf_tree.specs.ExprTree.{expr_binary, expr_card, expr_var}
use Rattle.cf_tree.specs.Values.{Value, number, values, no_solution}
use Rattle.cf_program.specs.Checked.{TypedTree}
use Rattle.cf_late.specs.Texts.{late_text}
use Rattle.cf_answer.specs.Owed.{sum_line, IsSum}
use Rattle.cf_answer.specs.Picked.{main_bases, main_picks, picked_outcome, outcome_number}

abbrev param : Base → Param
param b = record { place = record { line = 1; column = 1 }; name = codes "a"; base = b }

-- a function before main, and def main(a: int): int = a * a
abbrev squares : TypedTree
squares = record {
  defs =
      record { name = codes "size"; params = param Set ∷ []; results = Int ∷ []; body = expr_card (expr_var 0) }
      ∷ record { name = codes "main"; params = param Int ∷ []; results = Int ∷ []; body = expr_binary Mul (expr_var 0) (expr_var 0) } ∷ [];
  main = 1;
}

takes_a_number : main_bases squares ≡ Int ∷ []
takes_a_number = refl

square_of_three : main_picks squares (number (pos 3) ∷ []) ≡ Some (values (number (pos 9) ∷ []))
square_of_three = refl

-- 2^64
abbrev root : Value
root = number (pos 18446744073709551616)

square_past : late_text (picked_outcome (main_picks squares (root ∷ []))) ≡ codes "overflow"
square_past = refl

-- what is picked adds its number; overflow, no solution and several values add nothing
nine_is_added : outcome_number (main_picks squares (number (pos 3) ∷ [])) ≡ pos 9
nine_is_added = refl

overflow_adds_nothing : outcome_number (main_picks squares (root ∷ [])) ≡ pos 0
overflow_adds_nothing = refl

no_solution_adds_nothing : outcome_number (Some (no_solution 1)) ≡ pos 0
no_solution_adds_nothing = refl

two_numbers_add_nothing : outcome_number (Some (values (number (pos 1) ∷ number (pos 2) ∷ []))) ≡ pos 0
two_numbers_add_nothing = refl

summary_of_1 : sum_line 1 (negsuc 95) ≡ codes "lines 1 sum -96\n"
unfolding digits
summary_of_1 = refl

no_lines_sum_to_zero : (t : RawTarget) → IsSum t squares 0 [] (pos 1) → ⊥
no_lines_sum_to_zero t h = cc
