-- Worked examples that hold down how edition 3 reads a body of language 2, which is formed to itself.
use Rattle.std.specs.Prelude.{ℕ, pos, true, false, List, ◌≡◌, [], ◌∷◌, codes, refl}
use Rattle.cf_tree.specs.declared.base.Base.{Base}
use Rattle.cf_tree.specs.declared.base.Base.TheVariants.{Int, Bool as Truth, Set}
use Rattle.cf_tree.specs.ExprTree.{ExprTree, at_any, expr_abs, expr_binary, expr_call, expr_card, expr_chain, expr_choose, expr_choose_where, expr_div, expr_divides, expr_if, expr_let, expr_lit, expr_match, expr_max, expr_min, expr_mod, expr_neg, expr_not, expr_set_of, expr_truth, expr_tuple, expr_var, exprs_of, holds_always, match_arm, match_arms_of, no_exprs, no_match_arms}
use Rattle.cf_tree.specs.RelTree.{diff_of, empty_set, inter_of, rel_and, rel_compare, rel_divides, rel_false, rel_not, rel_or, rel_other_set, rel_same_set, rel_subset, rel_true, set_var, term_abs, term_add, term_card, term_div, term_lit, term_mod, term_mul, term_neg, term_sub, term_var, union_of}
use Rattle.cf_tree.specs.declared.base.Order.TheVariants.{Eq, Ge, Le, Lt, Ne}
use Rattle.cf_tree.specs.declared.raw.BinOp.TheVariants.{Add, And, Compare, Diff, Implies, Inter, Mul, Or, Sub, Subset, Union}
use Rattle.cf_tree.specs.declared.raw.Param.{Param}
use Rattle.cf_form.specs.Expansion.{call_expanded}
use Rattle.cf_form.specs.Formed.{formed}
use Rattle.cf_form.specs.Widened.{IsOfLanguageTwo, widened}

abbrev v : List ℕ → Base → Param
v name base = record { place = record { line = 1; column = 1 }; name = name; base = base }

-- two numbers, two truth values and a set
abbrev scope : List Param
scope = v (codes "a") Int ∷ v (codes "b") Int ∷ v (codes "p") Truth ∷ v (codes "q") Truth ∷ v (codes "s") Set ∷ []

-- `choose (x: int, u: set) where true && !false && -x + 2 * a - div(b, 3) <= abs(mod(x, 2)) && (u == s union {} || u != s inter u diff s || u subset s) && 3
-- divides card(u)`
abbrev all_relations : ExprTree
all_relations =
    expr_choose 1 scope (Int ∷ Set ∷ [])
    (rel_and
    (rel_and
    (rel_and (rel_and rel_true (rel_not rel_false))
    (rel_compare Le
    (term_sub (term_add (term_neg (term_var 5)) (term_mul (term_lit (pos 2)) (term_var 0))) (term_div (term_var 1) (pos 3)))
    (term_abs (term_mod (term_var 5) (pos 2)))))
    (rel_or
    (rel_or
    (rel_same_set (set_var 6) (union_of (set_var 4) empty_set))
    (rel_other_set (set_var 6) (diff_of (inter_of (set_var 4) (set_var 6)) (set_var 4))))
    (rel_subset (set_var 6) (set_var 4))))
    (rel_divides (pos 3) (term_card (set_var 6))))

all_relations_widened : widened all_relations ≡
    expr_choose_where 1 scope (Int ∷ Set ∷ []) [] holds_always
    (expr_binary And
    (expr_binary And
    (expr_binary And
    (expr_binary And (expr_truth true) (expr_not (expr_truth false)))
    (expr_binary (Compare Le)
    (expr_binary Sub (expr_binary Add (expr_neg (expr_var 5)) (expr_binary Mul (expr_lit (pos 2)) (expr_var 0))) (expr_div (expr_var 1) (pos 3)))
    (expr_abs (expr_mod (expr_var 5) (pos 2)))))
    (expr_binary Or
    (expr_binary Or
    (expr_binary (Compare Eq) (expr_var 6) (expr_binary Union (expr_var 4) (expr_set_of no_exprs)))
    (expr_binary (Compare Ne) (expr_var 6) (expr_binary Diff (expr_binary Inter (expr_var 4) (expr_var 6)) (expr_var 4))))
    (expr_binary Subset (expr_var 6) (expr_var 4))))
    (expr_divides (pos 3) (expr_card (expr_var 6))))
    at_any
all_relations_widened = refl

all_relations_formed : formed (call_expanded []) 5 (widened all_relations) ≡ all_relations
all_relations_formed = refl

-- `let (x, y) = (choose (x: int) where x < a, choose (x: int) where x != b) in if !(2 divides x && p || q) then {div(-x, 2), mod(abs(y), 3) * 2} else s union
-- {card(s)}`
abbrev in_forms : ExprTree
in_forms =
    expr_let 2
    (expr_tuple
    (exprs_of
    (expr_choose 1 scope (Int ∷ []) (rel_compare Lt (term_var 5) (term_var 0))
    ∷ expr_choose 2 scope (Int ∷ []) (rel_compare Ne (term_var 5) (term_var 1)) ∷ [])))
    (expr_if
    (expr_not (expr_binary Or (expr_binary And (expr_divides (pos 2) (expr_var 5)) (expr_var 2)) (expr_var 3)))
    (expr_set_of
    (exprs_of (expr_div (expr_neg (expr_var 5)) (pos 2) ∷ expr_binary Mul (expr_mod (expr_abs (expr_var 6)) (pos 3)) (expr_lit (pos 2)) ∷ [])))
    (expr_binary Union (expr_var 4) (expr_set_of (exprs_of (expr_card (expr_var 4) ∷ [])))))

in_forms_widened : widened in_forms ≡
    expr_let 2
    (expr_tuple
    (exprs_of
    (expr_choose_where 1 scope (Int ∷ []) [] holds_always (expr_binary (Compare Lt) (expr_var 5) (expr_var 0)) at_any
    ∷ expr_choose_where 2 scope (Int ∷ []) [] holds_always (expr_binary (Compare Ne) (expr_var 5) (expr_var 1)) at_any ∷ [])))
    (expr_if
    (expr_not (expr_binary Or (expr_binary And (expr_divides (pos 2) (expr_var 5)) (expr_var 2)) (expr_var 3)))
    (expr_set_of
    (exprs_of (expr_div (expr_neg (expr_var 5)) (pos 2) ∷ expr_binary Mul (expr_mod (expr_abs (expr_var 6)) (pos 3)) (expr_lit (pos 2)) ∷ [])))
    (expr_binary Union (expr_var 4) (expr_set_of (exprs_of (expr_card (expr_var 4) ∷ [])))))
in_forms_widened = refl

in_forms_formed : formed (call_expanded []) 5 (widened in_forms) ≡ in_forms
in_forms_formed = refl

-- `match choose (x: int) where x >= 1 with { 2 * i then i + (choose (x: int) where x == i) ; i then f(i, a) }`
abbrev in_match : ExprTree
in_match =
    expr_match 1
    (v (codes "a") Int ∷ v (codes "b") Int ∷ v (codes "p") Truth ∷ v (codes "q") Truth ∷ v (codes "s") Set ∷ v (codes "match") Int ∷ [])
    (expr_choose 2 scope (Int ∷ []) (rel_compare Ge (term_var 5) (term_lit (pos 1))))
    (match_arms_of
    (match_arm 3 (pos 2 ∷ []) (pos 0)
    (expr_binary Add (expr_var 6)
    (expr_choose 4
    (v (codes "a") Int
    ∷ v (codes "b") Int
    ∷ v (codes "p") Truth
    ∷ v (codes "q") Truth
    ∷ v (codes "s") Set
    ∷ v (codes "match") Int
    ∷ v (codes "i") Int ∷ [])
    (Int ∷ [])
    (rel_compare Eq (term_var 7) (term_var 6))))
    ∷ match_arm 5 (pos 1 ∷ []) (pos 0) (expr_call 0 (exprs_of (expr_var 6 ∷ expr_var 0 ∷ []))) ∷ []))

in_match_widened : widened in_match ≡
    expr_match 1
    (v (codes "a") Int ∷ v (codes "b") Int ∷ v (codes "p") Truth ∷ v (codes "q") Truth ∷ v (codes "s") Set ∷ v (codes "match") Int ∷ [])
    (expr_choose_where 2 scope (Int ∷ []) [] holds_always (expr_binary (Compare Ge) (expr_var 5) (expr_lit (pos 1))) at_any)
    (match_arms_of
    (match_arm 3 (pos 2 ∷ []) (pos 0)
    (expr_binary Add (expr_var 6)
    (expr_choose_where 4
    (v (codes "a") Int
    ∷ v (codes "b") Int
    ∷ v (codes "p") Truth
    ∷ v (codes "q") Truth
    ∷ v (codes "s") Set
    ∷ v (codes "match") Int
    ∷ v (codes "i") Int ∷ [])
    (Int ∷ [])
    []
    holds_always
    (expr_binary (Compare Eq) (expr_var 7) (expr_var 6))
    at_any))
    ∷ match_arm 5 (pos 1 ∷ []) (pos 0) (expr_call 0 (exprs_of (expr_var 6 ∷ expr_var 0 ∷ []))) ∷ []))
in_match_widened = refl

in_match_formed : formed (call_expanded []) 5 (widened in_match) ≡ in_match
in_match_formed = refl

-- a form that language 2 has not, wherever it stands
abbrev k : ExprTree
k = expr_lit (pos 5)

abbrev new : ExprTree
new = expr_min (exprs_of (k ∷ k ∷ []))

only_old : (IsOfLanguageTwo new → ⊥) × (IsOfLanguageTwo (expr_max no_exprs) → ⊥) × (IsOfLanguageTwo (expr_chain [] no_exprs) → ⊥)
    × (IsOfLanguageTwo (expr_choose_where 1 [] (Int ∷ []) [] holds_always k at_any) → ⊥) × (IsOfLanguageTwo (expr_binary Implies k k) → ⊥)
only_old = ((λ h. h), (λ h. h), (λ h. h), (λ h. h), λ h. h.0)

old_parts : (IsOfLanguageTwo (expr_binary Add new k) → ⊥) × (IsOfLanguageTwo (expr_binary Add k new) → ⊥) × (IsOfLanguageTwo (expr_if new k k) → ⊥)
    × (IsOfLanguageTwo (expr_if k new k) → ⊥) × (IsOfLanguageTwo (expr_if k k new) → ⊥) × (IsOfLanguageTwo (expr_let 1 new k) → ⊥)
    × (IsOfLanguageTwo (expr_let 1 k new) → ⊥) × (IsOfLanguageTwo (expr_neg new) → ⊥) × (IsOfLanguageTwo (expr_tuple (exprs_of (k ∷ new ∷ []))) → ⊥)
    × (IsOfLanguageTwo (expr_match 1 [] new no_match_arms) → ⊥)
    × (IsOfLanguageTwo (expr_match 1 [] k (match_arms_of (match_arm 0 [] (pos 0) k ∷ match_arm 0 [] (pos 1) new ∷ []))) → ⊥)
old_parts = (
  (λ h. h.1),
  (λ h. h.2),
  (λ h. h.0),
  (λ h. h.1),
  (λ h. h.2),
  (λ h. h.0),
  (λ h. h.1),
  (λ h. h),
  (λ h. h.1.0),
  (λ h. h.0),
  λ h. h.1.1.0,
)
