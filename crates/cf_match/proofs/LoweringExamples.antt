-- Worked examples that hold down what a lowered program is and which expressions hold no match.
use Rattle.std.specs.Prelude.{ℕ, pos, ◌≡◌, true, List, [], ◌∷◌, codes, refl}
use Rattle.cf_num.specs.Divisors.{gcd_by}
use Rattle.cf_tree.specs.declared.base.Base.TheVariants.{Int}
use Rattle.cf_tree.specs.declared.base.Order.TheVariants.{Eq}
use Rattle.cf_tree.specs.declared.raw.BinOp.TheVariants.{Add, Or, Compare}
use Rattle.cf_tree.specs.declared.raw.Param.{Param}
use Rattle.cf_tree.specs.DefView.{DefTree}
use Rattle.cf_tree.specs.ExprTree.{ExprTree, expr_lit, expr_truth, expr_var, expr_set_of, expr_tuple, expr_neg, expr_not, expr_abs, expr_binary, expr_divides, expr_div, expr_mod, expr_card, expr_if, expr_call, expr_let, expr_choose, expr_match, exprs_of, match_arm, match_arms_of, no_match_arms}
use Rattle.cf_tree.specs.RelTree.{term_lit, term_var, term_add, term_mul, rel_true, rel_false, rel_compare}
use Rattle.cf_program.specs.Lowered.{lowered, lowered_def}
use Rattle.cf_match.specs.Laws.{bodies}
use Rattle.cf_program.specs.NoMatch.{HasNoMatch}

abbrev k : ExprTree
k = expr_lit (pos 5)

-- a match without arms
abbrev bare : ExprTree
bare = expr_match 1 [] k no_match_arms

abbrev def : ExprTree → DefTree
def body = record { name = codes "f"; params = []; results = Int ∷ []; body = body }

lowered_functions : (bodies (def k ∷ def bare ∷ []) ≡ k ∷ bare ∷ []) × (lowered_def (def bare) ≡ def (lowered bare))
lowered_functions = (refl, refl)

-- `match a with { 2 * i then i ; 2 * i + 1 then -i }`, which is match 1, with chooses 2 and 3 for the variables; the value has level 1
abbrev scope : List Param
scope =
    record { place = record { line = 1; column = 10 }; name = codes "a"; base = Int }
    ∷ record { place = record { line = 1; column = 25 }; name = codes "match"; base = Int } ∷ []

abbrev halved : ExprTree
halved =
    expr_match 1 scope (expr_var 0)
    (match_arms_of (match_arm 2 (pos 2 ∷ []) (pos 0) (expr_var 2) ∷ match_arm 3 (pos 2 ∷ []) (pos 1) (expr_neg (expr_var 2)) ∷ []))

-- whether the value leaves r behind the multiples of 2
abbrev leaves : ℕ → ExprTree
leaves r = expr_binary (Compare Eq) (expr_mod (expr_var 1) (pos 2)) (expr_lit (pos r))

-- choose number n of i, with which the value is `2 * i + r`
abbrev chosen : ℕ → ℕ → ExprTree
chosen n r =
    expr_choose n scope (Int ∷ []) (rel_compare Eq (term_var 1) (term_add (term_mul (term_lit (pos 2)) (term_var 2)) (term_lit (pos r))))

lowered_halved : lowered halved ≡
    expr_let 1
    (expr_let 1 (expr_var 0) (expr_if (expr_binary Or (leaves 0) (leaves 1)) (expr_var 1) (expr_choose 1 scope (Int ∷ []) rel_false)))
    (expr_if (leaves 0) (expr_let 1 (chosen 2 0) (expr_var 2)) (expr_let 1 (chosen 3 1) (expr_neg (expr_var 2))))
unfolding gcd_by
lowered_halved = refl

none_in_leaves : HasNoMatch k × HasNoMatch (expr_truth true) × HasNoMatch (expr_var 3) × HasNoMatch (expr_choose 3 [] (Int ∷ []) rel_true)
none_in_leaves = (tt, tt, tt, tt)

none_in_parts : HasNoMatch (expr_binary Add k k) × HasNoMatch (expr_if k k k) × HasNoMatch (expr_let 1 k k) × HasNoMatch (expr_call 2 (exprs_of (k ∷ k ∷ [])))
none_in_parts = ((tt, tt), (tt, tt, tt), (tt, tt), (tt, (tt, tt)))

one_stands : (HasNoMatch bare → ⊥) × (HasNoMatch (expr_neg bare) → ⊥) × (HasNoMatch (expr_not bare) → ⊥) × (HasNoMatch (expr_abs bare) → ⊥)
    × (HasNoMatch (expr_card bare) → ⊥) × (HasNoMatch (expr_divides (pos 3) bare) → ⊥) × (HasNoMatch (expr_div bare (pos 3)) → ⊥)
    × (HasNoMatch (expr_mod bare (pos 3)) → ⊥)
one_stands = ((λ h. h), (λ h. h), (λ h. h), (λ h. h), (λ h. h), (λ h. h), (λ h. h), λ h. h)

one_among_parts : (HasNoMatch (expr_binary Add bare k) → ⊥) × (HasNoMatch (expr_binary Add k bare) → ⊥) × (HasNoMatch (expr_let 1 bare k) → ⊥)
    × (HasNoMatch (expr_let 1 k bare) → ⊥) × (HasNoMatch (expr_if bare k k) → ⊥) × (HasNoMatch (expr_if k bare k) → ⊥) × (HasNoMatch (expr_if k k bare) → ⊥)
    × (HasNoMatch (expr_call 2 (exprs_of (k ∷ bare ∷ []))) → ⊥) × (HasNoMatch (expr_set_of (exprs_of (bare ∷ k ∷ []))) → ⊥)
    × (HasNoMatch (expr_tuple (exprs_of (k ∷ bare ∷ []))) → ⊥)
one_among_parts = (
  (λ h. h.0),
  (λ h. h.1),
  (λ h. h.0),
  (λ h. h.1),
  (λ h. h.0),
  (λ h. h.1),
  (λ h. h.2),
  (λ h. h.1.0),
  (λ h. h.0),
  λ h. h.1.0,
)
