-- The laws of true and false keep what holds.
use Rattle.std.specs.Prelude.{◌⊎◌, ◌↔◌, List}
use Rattle.std.proofs.Common.{inl, inr}
use Rattle.cf_tree.specs.Relation.{Holds}
use Rattle.cf_tree.specs.RelTree.{RelTree, rel_true, rel_false, rel_compare, rel_same_set, rel_other_set, rel_subset, rel_divides, rel_and, rel_or, rel_not}
use Rattle.cf_tree.specs.Values.{Value}
use Rattle.cf_form.specs.Branches.{not_folded, and_right, and_folded, or_right, or_folded, folded}

not_keeps : (r : RelTree) (env : List Value) → Holds (not_folded r) env ↔ (Holds r env → ⊥)
not_keeps rel_true env = (λ h k. h, λ h. h tt)
not_keeps rel_false env = (λ h k. k, λ h. tt)
not_keeps (rel_compare o a b) env = (λ h. h, λ h. h)
not_keeps (rel_same_set a b) env = (λ h. h, λ h. h)
not_keeps (rel_other_set a b) env = (λ h. h, λ h. h)
not_keeps (rel_subset a b) env = (λ h. h, λ h. h)
not_keeps (rel_divides k t) env = (λ h. h, λ h. h)
not_keeps (rel_and p q) env = (λ h. h, λ h. h)
not_keeps (rel_or p q) env = (λ h. h, λ h. h)
not_keeps (rel_not p) env = (λ h. h, λ h. h)

and_right_keeps : (p q : RelTree) (env : List Value) → Holds (and_right p q) env ↔ (Holds p env × Holds q env)
and_right_keeps p rel_true env = (λ h. (h, tt), λ h. h.0)
and_right_keeps p rel_false env = (λ h. absurd h, λ h. h.1)
and_right_keeps p (rel_compare o a b) env = (λ h. h, λ h. h)
and_right_keeps p (rel_same_set a b) env = (λ h. h, λ h. h)
and_right_keeps p (rel_other_set a b) env = (λ h. h, λ h. h)
and_right_keeps p (rel_subset a b) env = (λ h. h, λ h. h)
and_right_keeps p (rel_divides k t) env = (λ h. h, λ h. h)
and_right_keeps p (rel_and q r) env = (λ h. h, λ h. h)
and_right_keeps p (rel_or q r) env = (λ h. h, λ h. h)
and_right_keeps p (rel_not q) env = (λ h. h, λ h. h)

and_keeps : (p q : RelTree) (env : List Value) → Holds (and_folded p q) env ↔ (Holds p env × Holds q env)
and_keeps rel_true q env = (λ h. (tt, h), λ h. h.1)
and_keeps rel_false q env = (λ h. absurd h, λ h. h.0)
and_keeps (rel_compare o a b) q env = and_right_keeps (rel_compare o a b) q env
and_keeps (rel_same_set a b) q env = and_right_keeps (rel_same_set a b) q env
and_keeps (rel_other_set a b) q env = and_right_keeps (rel_other_set a b) q env
and_keeps (rel_subset a b) q env = and_right_keeps (rel_subset a b) q env
and_keeps (rel_divides k t) q env = and_right_keeps (rel_divides k t) q env
and_keeps (rel_and p r) q env = and_right_keeps (rel_and p r) q env
and_keeps (rel_or p r) q env = and_right_keeps (rel_or p r) q env
and_keeps (rel_not p) q env = and_right_keeps (rel_not p) q env

or_right_keeps : (p q : RelTree) (env : List Value) → Holds (or_right p q) env ↔ (Holds p env ⊎ Holds q env)
or_right_keeps p rel_true env = (λ h. inr h, λ h. tt)
or_right_keeps p rel_false env = (λ h. inl h, λ h. elim h [ inl x ↦ x | inr y ↦ absurd y ])
or_right_keeps p (rel_compare o a b) env = (λ h. h, λ h. h)
or_right_keeps p (rel_same_set a b) env = (λ h. h, λ h. h)
or_right_keeps p (rel_other_set a b) env = (λ h. h, λ h. h)
or_right_keeps p (rel_subset a b) env = (λ h. h, λ h. h)
or_right_keeps p (rel_divides k t) env = (λ h. h, λ h. h)
or_right_keeps p (rel_and q r) env = (λ h. h, λ h. h)
or_right_keeps p (rel_or q r) env = (λ h. h, λ h. h)
or_right_keeps p (rel_not q) env = (λ h. h, λ h. h)

or_keeps : (p q : RelTree) (env : List Value) → Holds (or_folded p q) env ↔ (Holds p env ⊎ Holds q env)
or_keeps rel_true q env = (λ h. inl tt, λ h. tt)
or_keeps rel_false q env = (λ h. inr h, λ h. elim h [ inl x ↦ absurd x | inr y ↦ y ])
or_keeps (rel_compare o a b) q env = or_right_keeps (rel_compare o a b) q env
or_keeps (rel_same_set a b) q env = or_right_keeps (rel_same_set a b) q env
or_keeps (rel_other_set a b) q env = or_right_keeps (rel_other_set a b) q env
or_keeps (rel_subset a b) q env = or_right_keeps (rel_subset a b) q env
or_keeps (rel_divides k t) q env = or_right_keeps (rel_divides k t) q env
or_keeps (rel_and p r) q env = or_right_keeps (rel_and p r) q env
or_keeps (rel_or p r) q env = or_right_keeps (rel_or p r) q env
or_keeps (rel_not p) q env = or_right_keeps (rel_not p) q env

pub folded_keeps : (r : RelTree) (env : List Value) → Holds (folded r) env ↔ Holds r env
folded_keeps rel_true env = (λ h. h, λ h. h)
folded_keeps rel_false env = (λ h. h, λ h. h)
folded_keeps (rel_compare o a b) env = (λ h. h, λ h. h)
folded_keeps (rel_same_set a b) env = (λ h. h, λ h. h)
folded_keeps (rel_other_set a b) env = (λ h. h, λ h. h)
folded_keeps (rel_subset a b) env = (λ h. h, λ h. h)
folded_keeps (rel_divides k t) env = (λ h. h, λ h. h)
folded_keeps (rel_and p q) env =
    let left = folded_keeps p env in
    let right = folded_keeps q env in
    let whole = and_keeps (folded p) (folded q) env in
    ((λ h. let k = whole.0 h in (left.0 k.0, right.0 k.1)), (λ h. whole.1 (left.1 h.0, right.1 h.1)))
folded_keeps (rel_or p q) env =
    let left = folded_keeps p env in
    let right = folded_keeps q env in
    let whole = or_keeps (folded p) (folded q) env in (
      (λ h. elim (whole.0 h) as (λ _. Holds (rel_or p q) env) [ inl x ↦ inl (left.0 x) | inr y ↦ inr (right.0 y) ]),
      (λ h. elim h as (λ _. Holds (folded (rel_or p q)) env) [ inl x ↦ whole.1 (inl (left.1 x)) | inr y ↦ whole.1 (inr (right.1 y)) ]),
    )
folded_keeps (rel_not p) env =
    let inner = folded_keeps p env in
    let whole = not_keeps (folded p) env in
    ((λ h x. whole.0 h (inner.1 x)), (λ h. whole.1 (λ x. h (inner.0 x))))
