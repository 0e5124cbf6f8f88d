-- Worked examples that hold down what is asked of every part of an expression with levels: that its chooses are linear, that it has no form of edition 3, and no
-- match.
use Rattle.std.specs.Prelude.{ℕ, pos, true, false, Bool, [], ◌∷◌, codes, refl}
use Rattle.cf_tree.specs.declared.base.Base.TheVariants.{Int}
use Rattle.cf_tree.specs.declared.base.Order.TheVariants.{Eq, Lt}
use Rattle.cf_tree.specs.declared.raw.BinOp.TheVariants.{Add, Mul, Compare}
use Rattle.cf_tree.specs.DefView.{DefTree}
use Rattle.cf_tree.specs.ExprTree.{ExprTree, ExprTrees, expr_lit, expr_truth, expr_var, expr_set_of, expr_tuple, expr_neg, expr_not, expr_abs, expr_binary, expr_chain, expr_min, expr_max, expr_divides, expr_div, expr_mod, expr_card, expr_if, expr_call, expr_let, expr_choose, expr_choose_where, expr_match, exprs_of, match_arm, no_match_arms, match_arms_of, GivenExpr, holds_always, holds_where, AimExpr, at_any, at_least, at_greatest}
use Rattle.cf_tree.specs.RelTree.{rel_true}
use Rattle.cf_program.specs.Linear.{is_known, is_constant}
use Rattle.cf_program.specs.LinearTrees.{AreLinear, DefsAreLinear}
use Rattle.cf_program.specs.NoForm.{HasNoForm}
use Rattle.cf_program.specs.NoMatch.{HasNoMatch}
use Rattle.cf_program.proofs.RuleExamples.{at, param}

abbrev k : ExprTree
k = expr_lit (pos 1)

abbrev two_of : ExprTree → ExprTree → ExprTrees
two_of a b = exprs_of (a ∷ b ∷ [])

-- the square of a variable is 1
abbrev square : ℕ → ExprTree
square x = expr_binary (Compare Eq) (expr_binary Mul (expr_var x) (expr_var x)) k

-- a choose over one variable, with an output and a hidden one
abbrev choose : GivenExpr → ExprTree → AimExpr → ExprTree
choose given rel aim = expr_choose_where 1 (param (at 1) (codes "a") Int ∷ []) (Int ∷ []) (Int ∷ []) given rel aim

abbrev Linear : Bool → ExprTree → Type 0
Linear inputs e = AreLinear inputs [] e

-- products with inputs stand where they may, and never in what is given; a product of outputs or of hidden ones stands nowhere
inputs : Linear true (choose holds_always (square 0) at_any) × (Linear false (choose holds_always (square 0) at_any) → ⊥)
inputs = (
  record { given_is = tt; relation = (is_known ∷ [], refl); objective = tt },
  λ s. let e = s.relation.1 in cc,
)

inputs-in_given : Linear true (choose (holds_where k) k at_any) × (Linear true (choose (holds_where (square 0)) k at_any) → ⊥)
inputs-in_given = (
  record { given_is = (is_constant ∷ [], refl); relation = (is_constant ∷ [], refl); objective = tt },
  λ s. let e = s.given_is.1 in cc,
)

inputs-in_aims : Linear true (choose holds_always k (at_least (square 0))) × Linear true (choose holds_always k (at_greatest (square 0)))
    × (Linear false (choose holds_always k (at_least (square 0))) → ⊥) × (Linear false (choose holds_always k (at_greatest (square 0))) → ⊥)
inputs-in_aims = (
  record { given_is = tt; relation = (is_constant ∷ [], refl); objective = (is_known ∷ [], refl) },
  record { given_is = tt; relation = (is_constant ∷ [], refl); objective = (is_known ∷ [], refl) },
  λ s. let e = s.objective.1 in cc,
  λ s. let e = s.objective.1 in cc,
)

unknowns : (Linear true (choose holds_always (square 1) at_any) → ⊥) × (Linear true (choose holds_always (square 2) at_any) → ⊥)
    × (Linear true (choose holds_always k (at_least (square 2))) → ⊥) × (Linear true (choose holds_always k (at_greatest (square 2))) → ⊥)
unknowns = (
  λ s. let e = s.relation.1 in cc,
  λ s. let e = s.relation.1 in cc,
  λ s. let e = s.objective.1 in cc,
  λ s. let e = s.objective.1 in cc,
)

-- a choose that is not linear, in every part of a form
abbrev bad : ExprTree
bad = choose holds_always (square 1) at_any

bad-is : Linear true bad → ⊥
bad-is s = let e = s.relation.1 in cc

linear_parts : (Linear true (expr_set_of (two_of k bad)) → ⊥)
    × (Linear true (expr_tuple (two_of k bad)) → ⊥)
    × (Linear true (expr_neg bad) → ⊥)
    × (Linear true (expr_not bad) → ⊥)
    × (Linear true (expr_abs bad) → ⊥)
    × (Linear true (expr_binary Add bad k) → ⊥)
    × (Linear true (expr_binary Add k bad) → ⊥)
    × (Linear true (expr_chain (Lt ∷ []) (two_of k bad)) → ⊥)
    × (Linear true (expr_min (two_of k bad)) → ⊥)
    × (Linear true (expr_max (two_of k bad)) → ⊥)
    × (Linear true (expr_divides (pos 1) bad) → ⊥)
    × (Linear true (expr_div bad (pos 1)) → ⊥)
    × (Linear true (expr_mod bad (pos 1)) → ⊥)
    × (Linear true (expr_card bad) → ⊥)
    × (Linear true (expr_if bad k k) → ⊥)
    × (Linear true (expr_if k bad k) → ⊥)
    × (Linear true (expr_if k k bad) → ⊥)
    × (Linear true (expr_call 0 (two_of k bad)) → ⊥)
    × (Linear true (expr_let 1 bad k) → ⊥)
    × (Linear true (expr_let 1 k bad) → ⊥)
    × (Linear true (expr_match 1 [] bad no_match_arms) → ⊥)
    × (Linear true (expr_match 1 [] k (match_arms_of (match_arm 0 [] (pos 0) k ∷ match_arm 0 [] (pos 0) bad ∷ []))) → ⊥)
linear_parts = (
  λ h. bad-is h.1.0,
  λ h. bad-is h.1.0,
  λ h. bad-is h,
  λ h. bad-is h,
  λ h. bad-is h,
  λ h. bad-is h.0,
  λ h. bad-is h.1,
  λ h. bad-is h.1.0,
  λ h. bad-is h.1.0,
  λ h. bad-is h.1.0,
  λ h. bad-is h,
  λ h. bad-is h,
  λ h. bad-is h,
  λ h. bad-is h,
  λ h. bad-is h.0,
  λ h. bad-is h.1,
  λ h. bad-is h.2,
  λ h. bad-is h.1.0,
  λ h. bad-is h.0,
  λ h. bad-is h.1,
  λ h. bad-is h.0,
  λ h. bad-is h.1.1.0,
)

linear_leaves : Linear true k × Linear true (expr_truth true) × Linear true (expr_var 0) × Linear true (expr_choose 1 [] (Int ∷ []) rel_true)
    × Linear true (expr_set_of (exprs_of [])) × Linear true (expr_match 1 [] k no_match_arms)
linear_leaves = (tt, tt, tt, tt, tt, (tt, tt))

-- the chooses of each function are linear behind those before it, which stand last first
abbrev def : ExprTree → DefTree
def body = record { name = codes "f"; params = []; results = Int ∷ []; body = body }

abbrev calling : ExprTree
calling = choose holds_always (expr_call 0 (exprs_of [])) at_any

functions : DefsAreLinear true (def calling ∷ def k ∷ []) × (DefsAreLinear true (def calling ∷ []) → ⊥) × (DefsAreLinear true (def k ∷ def bad ∷ []) → ⊥)
functions = (
  (record { given_is = tt; relation = (is_constant ∷ [], refl); objective = tt }, (tt, tt)),
  λ s. let e = s.0.relation.1 in cc,
  λ s. bad-is s.1.0,
)

-- ---- forms of edition 3
formless_parts : (HasNoForm (expr_set_of (two_of k bad)) → ⊥)
    × (HasNoForm (expr_tuple (two_of k bad)) → ⊥)
    × (HasNoForm (expr_neg bad) → ⊥)
    × (HasNoForm (expr_not bad) → ⊥)
    × (HasNoForm (expr_abs bad) → ⊥)
    × (HasNoForm (expr_binary Add bad k) → ⊥)
    × (HasNoForm (expr_binary Add k bad) → ⊥)
    × (HasNoForm (expr_chain (Lt ∷ []) (two_of k bad)) → ⊥)
    × (HasNoForm (expr_min (two_of k bad)) → ⊥)
    × (HasNoForm (expr_max (two_of k bad)) → ⊥)
    × (HasNoForm (expr_divides (pos 1) bad) → ⊥)
    × (HasNoForm (expr_div bad (pos 1)) → ⊥)
    × (HasNoForm (expr_mod bad (pos 1)) → ⊥)
    × (HasNoForm (expr_card bad) → ⊥)
    × (HasNoForm (expr_if bad k k) → ⊥)
    × (HasNoForm (expr_if k bad k) → ⊥)
    × (HasNoForm (expr_if k k bad) → ⊥)
    × (HasNoForm (expr_call 0 (two_of k bad)) → ⊥)
    × (HasNoForm (expr_let 1 bad k) → ⊥)
    × (HasNoForm (expr_let 1 k bad) → ⊥)
    × (HasNoForm (expr_match 1 [] bad no_match_arms) → ⊥)
    × (HasNoForm (expr_match 1 [] k (match_arms_of (match_arm 0 [] (pos 0) k ∷ match_arm 0 [] (pos 0) bad ∷ []))) → ⊥)
formless_parts = (
  λ h. h.1.0,
  λ h. h.1.0,
  λ h. h,
  λ h. h,
  λ h. h,
  λ h. h.1,
  λ h. h.2,
  λ h. h,
  λ h. h,
  λ h. h,
  λ h. h,
  λ h. h,
  λ h. h,
  λ h. h,
  λ h. h.0,
  λ h. h.1,
  λ h. h.2,
  λ h. h.1.0,
  λ h. h.0,
  λ h. h.1,
  λ h. h.0,
  λ h. h.1.1.0,
)

formless_leaves : HasNoForm k × HasNoForm (expr_truth true) × HasNoForm (expr_var 0) × HasNoForm (expr_choose 1 [] (Int ∷ []) rel_true)
    × HasNoForm (expr_set_of (exprs_of [])) × HasNoForm (expr_match 1 [] k no_match_arms)
formless_leaves = (tt, tt, tt, tt, tt, (tt, tt))

-- ---- matches
abbrev a_match : ExprTree
a_match = expr_match 1 [] k no_match_arms

no_match : (HasNoMatch a_match → ⊥) × HasNoMatch k × HasNoMatch (expr_choose_where 1 [] [] [] holds_always a_match at_any)
no_match = (λ h. h, tt, tt)

matchless_parts : (HasNoMatch (expr_set_of (two_of k a_match)) → ⊥)
    × (HasNoMatch (expr_tuple (two_of k a_match)) → ⊥)
    × (HasNoMatch (expr_neg a_match) → ⊥)
    × (HasNoMatch (expr_not a_match) → ⊥)
    × (HasNoMatch (expr_abs a_match) → ⊥)
    × (HasNoMatch (expr_binary Add a_match k) → ⊥)
    × (HasNoMatch (expr_binary Add k a_match) → ⊥)
    × (HasNoMatch (expr_chain (Lt ∷ []) (two_of k a_match)) → ⊥)
    × (HasNoMatch (expr_min (two_of k a_match)) → ⊥)
    × (HasNoMatch (expr_max (two_of k a_match)) → ⊥)
    × (HasNoMatch (expr_divides (pos 1) a_match) → ⊥)
    × (HasNoMatch (expr_div a_match (pos 1)) → ⊥)
    × (HasNoMatch (expr_mod a_match (pos 1)) → ⊥)
    × (HasNoMatch (expr_card a_match) → ⊥)
    × (HasNoMatch (expr_if a_match k k) → ⊥)
    × (HasNoMatch (expr_if k a_match k) → ⊥)
    × (HasNoMatch (expr_if k k a_match) → ⊥)
    × (HasNoMatch (expr_call 0 (two_of k a_match)) → ⊥)
    × (HasNoMatch (expr_let 1 a_match k) → ⊥)
    × (HasNoMatch (expr_let 1 k a_match) → ⊥)
matchless_parts = (
  λ h. h.1.0,
  λ h. h.1.0,
  λ h. h,
  λ h. h,
  λ h. h,
  λ h. h.0,
  λ h. h.1,
  λ h. h.1.0,
  λ h. h.1.0,
  λ h. h.1.0,
  λ h. h,
  λ h. h,
  λ h. h,
  λ h. h,
  λ h. h.0,
  λ h. h.1,
  λ h. h.2,
  λ h. h.1.0,
  λ h. h.0,
  λ h. h.1,
)
