-- Facts that hold or do not.
use Rattle.std.proofs.Common.{inl, inr, ◌≡◌, ◌⊎◌, ℤ, pos, ◌+ℤ◌, ◌*ℤ◌, Bool, true, false, List, sym, ◌∙◌, arith}
use Rattle.std.specs.Prelude.{◌≤ℤ◌, ◌<ℤ◌, int_lt, ◌↔◌}
use Rattle.std.specs.Int.{int_div_euclid}
use Rattle.std.specs.Ordering.{int_eq}
use Rattle.std.proofs.lemmas.Int.{ints}
use Rattle.cf_num.proofs.DivisionLemmas.{int_div_euclid_once}
use Rattle.cf_tree.specs.declared.base.Order.{Order}
use Rattle.cf_tree.specs.declared.base.Order.TheVariants.{Eq, Ne, Lt, Le, Gt, Ge}
use Rattle.cf_tree.specs.Numbers.{Compares}
use Rattle.cf_tree.specs.Sets.{has, is_subset}
use Rattle.cf_tree.specs.Values.{same_list}
use Rattle.cf_tree.proofs.SetLemmas.{on_bool, eq_is, eq_differs, lt_is, lt_not, is_subset-iff, same_list-iff}
use Rattle.cf_linear.specs.Relations.{Divides}

pub data Decided (P : Type 0) : Type 0 where
  yes : P → Decided P
  no : (P → ⊥) → Decided P

true_false : true ≡ false → ⊥
true_false e = cc

pub decided_by : {P : Type 0} (b : Bool) → ((b ≡ true) ↔ P) → Decided P
decided_by b h = on_bool b (λ e. yes (h.0 e)) (λ e. no (λ p. true_false (sym (h.1 p) ∙ e)))

pub decided_and : {P Q : Type 0} → Decided P → Decided Q → Decided (P × Q)
decided_and (yes p) (yes q) = yes (p, q)
decided_and (yes p) (no q) = no (λ h. q h.1)
decided_and (no p) d = no (λ h. p h.0)

pub decided_or : {P Q : Type 0} → Decided P → Decided Q → Decided (P ⊎ Q)
decided_or (yes p) d = yes (inl p)
decided_or (no p) (yes q) = yes (inr q)
decided_or (no p) (no q) = no (λ h. elim h [ inl x ↦ p x | inr x ↦ q x ])

pub decided_not : {P : Type 0} → Decided P → Decided (P → ⊥)
decided_not (yes p) = no (λ h. h p)
decided_not (no p) = yes p

pub twice_not : {P : Type 0} → Decided P → ((P → ⊥) → ⊥) → P
twice_not (yes p) h = p
twice_not (no p) h = absurd (h p)

pub one_not : {P Q : Type 0} → Decided P → ((P × Q) → ⊥) → (P → ⊥) ⊎ (Q → ⊥)
one_not (yes p) h = inr (λ q. h (p, q))
one_not (no p) h = inl p

pub decide-compares : (o : Order) (x y : ℤ) → Decided (Compares o x y)
decide-compares Eq x y = on_bool (int_eq x y) (λ e. yes (eq_is x y e)) (λ e. no (eq_differs x y e))
decide-compares Ne x y = on_bool (int_eq x y) (λ e. no (λ h. h (eq_is x y e))) (λ e. yes (eq_differs x y e))
decide-compares Lt x y = on_bool (int_lt x y) (λ e. yes (lt_is x y e)) (λ e. no (λ h. let g = lt_not x y e in omega (arith, ints)))
decide-compares Le x y = on_bool (int_lt y x) (λ e. no (λ h. let g = lt_is y x e in omega (arith, ints))) (λ e. yes (lt_not y x e))
decide-compares Gt x y = on_bool (int_lt y x) (λ e. yes (lt_is y x e)) (λ e. no (λ h. let g = lt_not y x e in omega (arith, ints)))
decide-compares Ge x y = on_bool (int_lt x y) (λ e. no (λ h. let g = lt_is x y e in omega (arith, ints))) (λ e. yes (lt_not x y e))

multiple_low : (z m k : ℤ) → z ≡ m → pos 1 ≤ℤ k → (m ≤ℤ z) × (z <ℤ (m +ℤ k))
multiple_low z m k e h = (omega (arith, ints), omega (arith, ints))

pub decide-divides : (k z : ℤ) → pos 1 ≤ℤ k → Decided (Divides k z)
decide-divides k z h = on_bool (int_eq z (k *ℤ int_div_euclid z k))
    (λ e. yes (int_div_euclid z k, eq_is z (k *ℤ int_div_euclid z k) e))
    (λ e. no (λ d. let b = multiple_low z (k *ℤ d.0) k d.1 h in
    let p : pos 0 <ℤ k = omega (arith, ints) in
    let q : int_div_euclid z k ≡ d.0 = int_div_euclid_once z k d.0 p b.0 b.1 in
    eq_differs z (k *ℤ int_div_euclid z k) e (rw q d.1)))

pub decide-same : (xs ys : List ℤ) → Decided (xs ≡ ys)
decide-same xs ys = decided_by (same_list xs ys) (same_list-iff xs ys)

pub decide-subset : (xs ys : List ℤ) → Decided ((z : ℤ) → has xs z ≡ true → has ys z ≡ true)
decide-subset xs ys = decided_by (is_subset xs ys) (is_subset-iff xs ys)
