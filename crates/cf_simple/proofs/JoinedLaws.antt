-- What joined relations mean.
use Rattle.std.proofs.Common.{◌≡◌, ◌⊎◌, Bool, true, false, List, Option, Some, None, refl, inl, inr}
use Rattle.std.specs.Prelude.{◌↔◌, ◌||◌, if◌then◌else◌}
use Rattle.cf_tree.specs.Relation.{Holds}
use Rattle.cf_tree.specs.RelTree.{RelTree, rel_true, rel_false, rel_compare, rel_same_set, rel_other_set, rel_subset, rel_divides, rel_and, rel_or, rel_not}
use Rattle.cf_tree.specs.Values.{Value}
use Rattle.cf_simple.specs.Bounds.{bound_of, both_bounds, either_bound}
use Rattle.cf_simple.specs.Joined.{is_true, is_false, both, either, or_else, before, behind, both_in, both_or, one_more, all_of, either_in, either_or, one_other, any_of}
use Rattle.cf_simple.proofs.BoundLaws.{Means, bound_is, both_means, either_means}

true_holds : (r : RelTree) (env : List Value) → is_true r ≡ true → Holds r env
true_holds rel_true env e = tt
true_holds rel_false env e = absurd (cc)
true_holds (rel_compare o a b) env e = absurd (cc)
true_holds (rel_same_set a b) env e = absurd (cc)
true_holds (rel_other_set a b) env e = absurd (cc)
true_holds (rel_subset a b) env e = absurd (cc)
true_holds (rel_divides k t) env e = absurd (cc)
true_holds (rel_and a b) env e = absurd (cc)
true_holds (rel_or a b) env e = absurd (cc)
true_holds (rel_not a) env e = absurd (cc)

false_fails : (r : RelTree) (env : List Value) → is_false r ≡ true → Holds r env → ⊥
false_fails rel_true env e h = absurd (cc)
false_fails rel_false env e h = h
false_fails (rel_compare o a b) env e h = absurd (cc)
false_fails (rel_same_set a b) env e h = absurd (cc)
false_fails (rel_other_set a b) env e h = absurd (cc)
false_fails (rel_subset a b) env e h = absurd (cc)
false_fails (rel_divides k t) env e h = absurd (cc)
false_fails (rel_and a b) env e h = absurd (cc)
false_fails (rel_or a b) env e h = absurd (cc)
false_fails (rel_not a) env e h = absurd (cc)

both_hold : (r s : RelTree) (env : List Value) → Holds (both r s) env ↔ (Holds r env × Holds s env)
both_hold r s env = by (is_false r) (is_false s) (is_true r) (is_true s) refl refl refl refl
  where
    by : (a b c d : Bool) → is_false r ≡ a → is_false s ≡ b → is_true r ≡ c → is_true s ≡ d →
        Holds (if a || b then rel_false else (if c then s else (if d then r else rel_and r s))) env ↔ (Holds r env × Holds s env)
    by true b c d e f g h = (λ p. absurd p, λ p. false_fails r env e p.0)
    by false true c d e f g h = (λ p. absurd p, λ p. false_fails s env f p.1)
    by false false true d e f g h = (λ p. (true_holds r env g, p), λ p. p.1)
    by false false false true e f g h = (λ p. (p, true_holds s env h), λ p. p.0)
    by false false false false e f g h = (λ p. p, λ p. p)

either_holds : (r s : RelTree) (env : List Value) → Holds (either r s) env ↔ (Holds r env ⊎ Holds s env)
either_holds r s env = by (is_true r) (is_true s) (is_false r) (is_false s) refl refl refl refl
  where
    by : (a b c d : Bool) → is_true r ≡ a → is_true s ≡ b → is_false r ≡ c → is_false s ≡ d →
        Holds (if a || b then rel_true else (if c then s else (if d then r else rel_or r s))) env ↔ (Holds r env ⊎ Holds s env)
    by true b c d e f g h = (λ p. inl (true_holds r env e), λ p. tt)
    by false true c d e f g h = (λ p. inr (true_holds s env f), λ p. tt)
    by false false true d e f g h = (λ p. inr p, λ p. elim p [ inl x ↦ absurd (false_fails r env g x) | inr x ↦ x ])
    by false false false true e f g h = (λ p. inl p, λ p. elim p [ inl x ↦ x | inr x ↦ absurd (false_fails s env h x) ])
    by false false false false e f g h = (λ p. p, λ p. p)

-- ---- &&
bounds_both : (r s : RelTree) (env : List Value) → Means (both_bounds (bound_of r) (bound_of s)) env (Holds r env × Holds s env)
bounds_both r s env = both_means (bound_of r) (bound_of s) env (Holds r env) (Holds s env) (bound_is r env) (bound_is s env)

in_and : (a b s : RelTree) (env : List Value) (m n : Option RelTree) → Means m env (Holds b env × Holds s env) → Means n env (Holds a env × Holds s env) →
    Means (or_else (before both a m) (behind both n b)) env ((Holds a env × Holds b env) × Holds s env)
in_and a b s env None None h k = tt
in_and a b s env None (Some n) h k =
    let g = both_hold n b env in
    (λ p. let q = g.0 p in let r = k.0 q.0 in ((r.0, q.1), r.1), λ p. g.1 (k.1 (p.0.0, p.1), p.0.1))
in_and a b s env (Some m) n h k =
    let g = both_hold a m env in
    (λ p. let q = g.0 p in let r = h.0 q.1 in ((q.0, r.0), r.1), λ p. g.1 (p.0.0, h.1 (p.0.1, p.1)))

both_in_means : (r s : RelTree) (env : List Value) → Means (both_in r s) env (Holds r env × Holds s env)
both_in_means rel_true s env = bounds_both rel_true s env
both_in_means rel_false s env = bounds_both rel_false s env
both_in_means (rel_compare o a b) s env = bounds_both (rel_compare o a b) s env
both_in_means (rel_same_set a b) s env = bounds_both (rel_same_set a b) s env
both_in_means (rel_other_set a b) s env = bounds_both (rel_other_set a b) s env
both_in_means (rel_subset a b) s env = bounds_both (rel_subset a b) s env
both_in_means (rel_divides k t) s env = bounds_both (rel_divides k t) s env
both_in_means (rel_and a b) s env = in_and a b s env (both_bounds (bound_of b) (bound_of s)) (both_in a s) (bounds_both b s env) (both_in_means a s env)
both_in_means (rel_or a b) s env = bounds_both (rel_or a b) s env
both_in_means (rel_not a) s env = bounds_both (rel_not a) s env

both_or_means : (r s : RelTree) (env : List Value) (m : Option RelTree) → Means m env (Holds r env × Holds s env) →
    Holds (both_or r s m) env ↔ (Holds r env × Holds s env)
both_or_means r s env None h = both_hold r s env
both_or_means r s env (Some m) h = h

one_more_holds : (r s : RelTree) (env : List Value) → Holds (one_more r s) env ↔ (Holds r env × Holds s env)
one_more_holds r s env = both_or_means r s env (both_in r s) (both_in_means r s env)

pub all_hold : (r s : RelTree) (env : List Value) → Holds (all_of r s) env ↔ (Holds r env × Holds s env)
all_hold r rel_true env = one_more_holds r rel_true env
all_hold r rel_false env = one_more_holds r rel_false env
all_hold r (rel_compare o a b) env = one_more_holds r (rel_compare o a b) env
all_hold r (rel_same_set a b) env = one_more_holds r (rel_same_set a b) env
all_hold r (rel_other_set a b) env = one_more_holds r (rel_other_set a b) env
all_hold r (rel_subset a b) env = one_more_holds r (rel_subset a b) env
all_hold r (rel_divides k t) env = one_more_holds r (rel_divides k t) env
all_hold r (rel_and a b) env =
    let g = one_more_holds (all_of r a) b env in
    let h = all_hold r a env in
    (λ p. let q = g.0 p in let k = h.0 q.0 in (k.0, (k.1, q.1)), λ p. g.1 (h.1 (p.0, p.1.0), p.1.1))
all_hold r (rel_or a b) env = one_more_holds r (rel_or a b) env
all_hold r (rel_not a) env = one_more_holds r (rel_not a) env

-- ---- ||
bounds_either : (r s : RelTree) (env : List Value) → Means (either_bound (bound_of r) (bound_of s)) env (Holds r env ⊎ Holds s env)
bounds_either r s env = either_means (bound_of r) (bound_of s) env (Holds r env) (Holds s env) (bound_is r env) (bound_is s env)

in_or : (a b s : RelTree) (env : List Value) (m n : Option RelTree) → Means m env (Holds b env ⊎ Holds s env) → Means n env (Holds a env ⊎ Holds s env) →
    Means (or_else (before either a m) (behind either n b)) env ((Holds a env ⊎ Holds b env) ⊎ Holds s env)
in_or a b s env None None h k = tt
in_or a b s env None (Some n) h k =
    let g = either_holds n b env in (
      λ p. elim (g.0 p) [ inl x ↦ elim (k.0 x) [ inl y ↦ inl (inl y) | inr y ↦ inr y ] | inr x ↦ inl (inr x) ],
      λ p. elim p [ inl x ↦ elim x [ inl y ↦ g.1 (inl (k.1 (inl y))) | inr y ↦ g.1 (inr y) ] | inr x ↦ g.1 (inl (k.1 (inr x))) ],
    )
in_or a b s env (Some m) n h k =
    let g = either_holds a m env in (
      λ p. elim (g.0 p) [ inl x ↦ inl (inl x) | inr x ↦ elim (h.0 x) [ inl y ↦ inl (inr y) | inr y ↦ inr y ] ],
      λ p. elim p [ inl x ↦ elim x [ inl y ↦ g.1 (inl y) | inr y ↦ g.1 (inr (h.1 (inl y))) ] | inr x ↦ g.1 (inr (h.1 (inr x))) ],
    )

either_in_means : (r s : RelTree) (env : List Value) → Means (either_in r s) env (Holds r env ⊎ Holds s env)
either_in_means rel_true s env = bounds_either rel_true s env
either_in_means rel_false s env = bounds_either rel_false s env
either_in_means (rel_compare o a b) s env = bounds_either (rel_compare o a b) s env
either_in_means (rel_same_set a b) s env = bounds_either (rel_same_set a b) s env
either_in_means (rel_other_set a b) s env = bounds_either (rel_other_set a b) s env
either_in_means (rel_subset a b) s env = bounds_either (rel_subset a b) s env
either_in_means (rel_divides k t) s env = bounds_either (rel_divides k t) s env
either_in_means (rel_and a b) s env = bounds_either (rel_and a b) s env
either_in_means (rel_or a b) s env = in_or a b s env (either_bound (bound_of b) (bound_of s)) (either_in a s) (bounds_either b s env) (either_in_means a s env)
either_in_means (rel_not a) s env = bounds_either (rel_not a) s env

either_or_means : (r s : RelTree) (env : List Value) (m : Option RelTree) → Means m env (Holds r env ⊎ Holds s env) →
    Holds (either_or r s m) env ↔ (Holds r env ⊎ Holds s env)
either_or_means r s env None h = either_holds r s env
either_or_means r s env (Some m) h = h

one_other_holds : (r s : RelTree) (env : List Value) → Holds (one_other r s) env ↔ (Holds r env ⊎ Holds s env)
one_other_holds r s env = either_or_means r s env (either_in r s) (either_in_means r s env)

pub any_holds : (r s : RelTree) (env : List Value) → Holds (any_of r s) env ↔ (Holds r env ⊎ Holds s env)
any_holds r rel_true env = one_other_holds r rel_true env
any_holds r rel_false env = one_other_holds r rel_false env
any_holds r (rel_compare o a b) env = one_other_holds r (rel_compare o a b) env
any_holds r (rel_same_set a b) env = one_other_holds r (rel_same_set a b) env
any_holds r (rel_other_set a b) env = one_other_holds r (rel_other_set a b) env
any_holds r (rel_subset a b) env = one_other_holds r (rel_subset a b) env
any_holds r (rel_divides k t) env = one_other_holds r (rel_divides k t) env
any_holds r (rel_and a b) env = one_other_holds r (rel_and a b) env
any_holds r (rel_or a b) env =
    let g = one_other_holds (any_of r a) b env in
    let h = any_holds r a env in (
      λ p. elim (g.0 p) [ inl x ↦ elim (h.0 x) [ inl y ↦ inl y | inr y ↦ inr (inl y) ] | inr x ↦ inr (inr x) ],
      λ p. elim p [ inl x ↦ g.1 (inl (h.1 (inl x))) | inr x ↦ elim x [ inl y ↦ g.1 (inl (h.1 (inr y))) | inr y ↦ g.1 (inr y) ] ],
    )
any_holds r (rel_not a) env = one_other_holds r (rel_not a) env
