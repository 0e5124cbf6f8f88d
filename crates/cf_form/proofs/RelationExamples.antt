-- Worked examples that hold down which expressions may stand in a relation.
use Rattle.std.specs.Prelude.{pos, true, List, [], ◌∷◌}
use Rattle.cf_tree.specs.declared.base.Base.TheVariants.{Int}
use Rattle.cf_tree.specs.declared.raw.BinOp.TheVariants.{Add}
use Rattle.cf_tree.specs.ExprTree.{ExprTree, expr_lit, expr_truth, expr_var, expr_set_of, expr_tuple, expr_neg, expr_not, expr_abs, expr_binary, expr_divides, expr_div, expr_mod, expr_card, expr_if, expr_call, expr_let, expr_choose, expr_match, expr_chain, expr_min, expr_max, expr_choose_where, no_exprs, exprs_of, no_match_arms, holds_always, holds_where, at_any}
use Rattle.cf_tree.specs.RelTree.{rel_true}
use Rattle.cf_form.specs.Relations.{MayStand, CallMayStand, GivenMayStand}

-- functions last first: the second calls the first, which holds a choose, and the third one that may stand
abbrev functions : List ExprTree
functions = expr_call 0 no_exprs ∷ chosen ∷ expr_lit (pos 3) ∷ [] where
  chosen : ExprTree
  chosen = expr_choose 1 [] (Int ∷ []) rel_true

abbrev Stands : ExprTree → Type 0
Stands e = MayStand (CallMayStand functions) e

abbrev k : ExprTree
k = expr_lit (pos 5)

abbrev bad : ExprTree
bad = expr_set_of (exprs_of (k ∷ []))

leaves : Stands k × Stands (expr_truth true) × Stands (expr_var 0) × Stands (expr_set_of no_exprs)
leaves = (tt, tt, tt, tt)

refused : (Stands bad → ⊥) × (Stands (expr_choose 1 [] (Int ∷ []) rel_true) → ⊥) × (Stands (expr_match 1 [] k no_match_arms) → ⊥)
    × (Stands (expr_choose_where 1 [] (Int ∷ []) [] holds_always k at_any) → ⊥)
refused = ((λ h. h), (λ h. h), (λ h. h), λ h. h)

parts : Stands (expr_tuple (exprs_of (k ∷ k ∷ []))) × Stands (expr_binary Add k k) × Stands (expr_if k k k) × Stands (expr_let 1 k k)
    × Stands (expr_min (exprs_of (k ∷ k ∷ []))) × Stands (expr_max (exprs_of (k ∷ k ∷ []))) × Stands (expr_chain [] (exprs_of (k ∷ k ∷ [])))
parts = ((tt, (tt, tt)), (tt, tt), (tt, tt, tt), (tt, tt), (tt, (tt, tt)), (tt, (tt, tt)), (tt, (tt, tt)))

one_part : (Stands (expr_neg bad) → ⊥) × (Stands (expr_not bad) → ⊥) × (Stands (expr_abs bad) → ⊥) × (Stands (expr_divides (pos 2) bad) → ⊥)
    × (Stands (expr_div bad (pos 2)) → ⊥) × (Stands (expr_mod bad (pos 2)) → ⊥) × (Stands (expr_card bad) → ⊥)
one_part = ((λ h. h), (λ h. h), (λ h. h), (λ h. h), (λ h. h), (λ h. h), λ h. h)

one_of_several : (Stands (expr_binary Add bad k) → ⊥) × (Stands (expr_binary Add k bad) → ⊥) × (Stands (expr_if bad k k) → ⊥) × (Stands (expr_if k bad k) → ⊥)
    × (Stands (expr_if k k bad) → ⊥) × (Stands (expr_let 1 bad k) → ⊥) × (Stands (expr_let 1 k bad) → ⊥) × (Stands (expr_tuple (exprs_of (k ∷ bad ∷ []))) → ⊥)
    × (Stands (expr_min (exprs_of (bad ∷ k ∷ []))) → ⊥) × (Stands (expr_max (exprs_of (k ∷ bad ∷ []))) → ⊥)
    × (Stands (expr_chain [] (exprs_of (k ∷ bad ∷ []))) → ⊥)
one_of_several = (
  (λ h. h.0),
  (λ h. h.1),
  (λ h. h.0),
  (λ h. h.1),
  (λ h. h.2),
  (λ h. h.0),
  (λ h. h.1),
  (λ h. h.1.0),
  (λ h. h.0),
  (λ h. h.1.0),
  λ h. h.1.0,
)

-- a call of the first and of the third function, of the second, with a bad argument, and of one that is not there
calls : Stands (expr_call 0 no_exprs) × Stands (expr_call 2 no_exprs) × (Stands (expr_call 1 no_exprs) → ⊥) × (Stands (expr_call 0 (exprs_of (bad ∷ []))) → ⊥)
    × (Stands (expr_call 3 no_exprs) → ⊥)
calls = ((tt, tt), (tt, (tt, tt)), (λ h. h.1), (λ h. h.0.0), λ h. h.1)

givens : GivenMayStand (CallMayStand functions) holds_always × GivenMayStand (CallMayStand functions) (holds_where k)
    × (GivenMayStand (CallMayStand functions) (holds_where bad) → ⊥)
givens = (tt, tt, λ h. h)
