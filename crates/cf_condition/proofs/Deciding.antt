-- Facts that a truth value decides.
use Rattle.std.specs.Prelude.{ℤ, pos, ◌-ℤ◌, ◌*ℤ◌, ◌≤ℤ◌, ◌<ℤ◌, ◌+ℤ◌, int_lt, ◌≡◌, ◌≢◌, ◌⊎◌, Bool, true, false, not, ◌&&◌, ◌||◌, if◌then◌else◌, List}
use Rattle.std.specs.Int.{int_div_euclid}
use Rattle.std.specs.Ordering.{int_eq}
use Rattle.std.proofs.Common.{refl, ◌∙◌, arith, inl, inr}
use Rattle.std.proofs.lemmas.Int.{ints}
use Rattle.cf_num.proofs.DivisionLemmas.{int_div_euclid_once}
use Rattle.cf_tree.specs.declared.base.Order.{Order}
use Rattle.cf_tree.specs.declared.base.Order.TheVariants.{Eq, Ne, Lt, Le, Gt, Ge}
use Rattle.cf_tree.specs.Numbers.{Compares, quotient, remainder, is_multiple}
use Rattle.cf_tree.specs.Sets.{has, is_subset}
use Rattle.cf_tree.specs.Values.{number, compared, same_list}
use Rattle.cf_tree.proofs.SetLemmas.{eq_is, eq_same, lt_is, lt_not, is_subset-iff, same_list-iff}
use Rattle.cf_condition.specs.Standing.{Decides}

pub decides_and : (P Q : Type 0) (a b : Bool) → Decides P a → Decides Q b → Decides (P × Q) (a && b)
decides_and P Q true true p q = (p, q)
decides_and P Q true false p q = λ h. q h.1
decides_and P Q false b p q = λ h. p h.0

pub decides_or : (P Q : Type 0) (a b : Bool) → Decides P a → Decides Q b → Decides (P ⊎ Q) (a || b)
decides_or P Q true b p q = inl p
decides_or P Q false true p q = inr q
decides_or P Q false false p q = λ h. elim h [ inl x ↦ p x | inr x ↦ q x ]

pub decides_not : (P : Type 0) (a : Bool) → Decides P a → Decides (P → ⊥) (not a)
decides_not P true p = λ h. h p
decides_not P false p = p

pub decides_as : (P Q : Type 0) (a : Bool) → (P → Q) → (Q → P) → Decides P a → Decides Q a
decides_as P Q true f g p = f p
decides_as P Q false f g p = λ q. p (g q)

decides_by : (P : Type 0) (b : Bool) → (b ≡ true → P) → (P → b ≡ true) → Decides P b
decides_by P true f g = f refl
decides_by P false f g = λ p. let e : false ≡ true = g p in cc

decides_unless : (P : Type 0) (b : Bool) → (b ≡ false → P) → (b ≡ true → P → ⊥) → Decides P (not b)
decides_unless P true f g = g refl
decides_unless P false f g = f refl

pub compares_decided : (o : Order) (x y : ℤ) → Decides (Compares o x y) (compared o (number x) (number y))
compares_decided Eq x y = decides_by _ (int_eq x y) (eq_is x y) (eq_same x y)
compares_decided Ne x y = decides_not (x ≡ y) (int_eq x y) (decides_by _ (int_eq x y) (eq_is x y) (eq_same x y))
compares_decided Lt x y = decides_by _ (int_lt x y) (lt_is x y) (λ h. grind (arith, ints))
compares_decided Le x y = decides_unless _ (int_lt y x) (lt_not y x) (λ e h. let g = lt_is y x e in omega (arith, ints))
compares_decided Gt x y = decides_by _ (int_lt y x) (lt_is y x) (λ h. grind (arith, ints))
compares_decided Ge x y = decides_unless _ (int_lt x y) (lt_not x y) (λ e h. let g = lt_is x y e in omega (arith, ints))

pub same_set_decided : (xs ys : List ℤ) → Decides (xs ≡ ys) (same_list xs ys)
same_set_decided xs ys = decides_by _ (same_list xs ys) (same_list-iff xs ys).0 (same_list-iff xs ys).1

pub other_set_decided : (xs ys : List ℤ) → Decides (xs ≢ ys) (not (same_list xs ys))
other_set_decided xs ys = decides_not (xs ≡ ys) (same_list xs ys) (same_set_decided xs ys)

pub subset_decided : (xs ys : List ℤ) → Decides ((x : ℤ) → has xs x ≡ true → has ys x ≡ true) (is_subset xs ys)
subset_decided xs ys = decides_by _ (is_subset xs ys) (is_subset-iff xs ys).0 (is_subset-iff xs ys).1

positive_quotient : (z k : ℤ) → pos 1 ≤ℤ k → quotient z k ≡ int_div_euclid z k
positive_quotient z k l =
    let some : int_lt (pos 0) k ≡ true = grind (arith, ints) in
    rw some refl

multiple_low : (z m k : ℤ) → z ≡ m → pos 1 ≤ℤ k → (m ≤ℤ z) × (z <ℤ (m +ℤ k))
multiple_low z m k e h = (omega (arith, ints), omega (arith, ints))

multiple_none : (k z q : ℤ) → pos 1 ≤ℤ k → z ≡ k *ℤ q → remainder z k ≡ pos 0
multiple_none k z q l e =
    let low = multiple_low z (k *ℤ q) k e l in
    let same : quotient z k ≡ q = positive_quotient z k l ∙ int_div_euclid_once z k q (omega (arith, ints)) low.0 low.1 in
    rw (same, e) (omega (arith, ints))

no_rest : (z m : ℤ) → z -ℤ m ≡ pos 0 → z ≡ m
no_rest z m e = omega (arith, ints)

pub divides_decided : (k z : ℤ) → pos 1 ≤ℤ k → Decides ((q : ℤ) × (z ≡ k *ℤ q)) (is_multiple k z)
divides_decided k z l =
    decides_by _ (is_multiple k z)
    (λ e. (quotient z k, no_rest z (k *ℤ quotient z k) (eq_is (remainder z k) (pos 0) e)))
    (λ h. eq_same (remainder z k) (pos 0) (multiple_none k z h.0 l h.1))
