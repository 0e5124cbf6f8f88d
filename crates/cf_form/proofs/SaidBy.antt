-- Facts of which a truth value says whether they are so.
use Rattle.std.specs.Prelude.{ℤ, pos, ◌+ℤ◌, ◌-ℤ◌, ◌*ℤ◌, ◌≤ℤ◌, ◌<ℤ◌, int_lt, ◌≡◌, ◌≢◌, ◌⊎◌, Bool, true, false, not, ◌&&◌, ◌||◌, if◌then◌else◌, MatchBool, List}
use Rattle.std.specs.Int.{int_div_euclid}
use Rattle.std.specs.Ordering.{int_eq}
use Rattle.std.proofs.Common.{refl, ◌∙◌, subst, arith, inl, inr}
use Rattle.std.proofs.lemmas.Int.{ints}
use Rattle.cf_num.proofs.DivisionLemmas.{int_div_euclid_once}
use Rattle.cf_tree.specs.declared.base.Order.{Order}
use Rattle.cf_tree.specs.declared.base.Order.TheVariants.{Eq, Ne, Lt, Le, Gt, Ge}
use Rattle.cf_tree.specs.Numbers.{Compares, quotient, remainder, is_multiple}
use Rattle.cf_tree.specs.Sets.{has, is_subset}
use Rattle.cf_tree.specs.Values.{number, compared, same_list, same_truth}
use Rattle.cf_tree.proofs.SetLemmas.{eq_is, eq_same, lt_is, lt_not, is_subset-iff, same_list-iff}

-- where b is true the fact is so, and else it is not
abbrev pub Says : Type 0 → Bool → Type 0
Says P b = MatchBool b P (P → ⊥)

pub says_and : (P Q : Type 0) (a b : Bool) → Says P a → Says Q b → Says (P × Q) (a && b)
says_and P Q true true p q = (p, q)
says_and P Q true false p q = λ h. q h.1
says_and P Q false b p q = λ h. p h.0

pub says_or : (P Q : Type 0) (a b : Bool) → Says P a → Says Q b → Says (P ⊎ Q) (a || b)
says_or P Q true b p q = inl p
says_or P Q false true p q = inr q
says_or P Q false false p q = λ h. elim h [ inl x ↦ p x | inr x ↦ q x ]

pub says_not : (P : Type 0) (a : Bool) → Says P a → Says (P → ⊥) (not a)
says_not P true p = λ h. h p
says_not P false p = p

pub says_same : (P : Type 0) (a b : Bool) → a ≡ b → Says P a → Says P b
says_same P a b e h = subst (λ t. Says P t) e h

pub says_as : {P Q : Type 0} (a : Bool) → (P → Q) → (Q → P) → Says P a → Says Q a
says_as true f g p = f p
says_as false f g p = λ q. p (g q)

pub says_by : {P : Type 0} (b : Bool) → (b ≡ true → P) → (P → b ≡ true) → Says P b
says_by true f g = f refl
says_by false f g = λ p. let e : false ≡ true = g p in cc

pub says_unless : {P : Type 0} (b : Bool) → (b ≡ false → P) → (b ≡ true → P → ⊥) → Says P (not b)
says_unless true f g = g refl
says_unless false f g = f refl

pub not_twice : (a : Bool) → not (not a) ≡ a
not_twice true = refl
not_twice false = refl

pub not_and : (a b : Bool) → (not a || not b) ≡ not (a && b)
not_and true b = refl
not_and false b = refl

pub not_either : (a b : Bool) → (not a && not b) ≡ not (a || b)
not_either true b = refl
not_either false b = refl

pub not_implies : (a b : Bool) → (a && not b) ≡ not (not a || b)
not_implies true b = refl
not_implies false b = refl

pub other_ways : (a b : Bool) → (a && not b || not a && b) ≡ not (same_truth a b)
other_ways true true = refl
other_ways true false = refl
other_ways false true = refl
other_ways false false = refl

pub if_ways : (c a b : Bool) → (c && a || not c && b) ≡ (if c then a else b)
if_ways true true b = refl
if_ways true false b = refl
if_ways false a b = refl

pub not_if_ways : (c a b : Bool) → (c && not a || not c && not b) ≡ not (if c then a else b)
not_if_ways true true b = refl
not_if_ways true false b = refl
not_if_ways false a b = refl

-- each test of two values says whether they compare so
pub compares_says : (o : Order) (x y : ℤ) → Says (Compares o x y) (compared o (number x) (number y))
compares_says Eq x y = says_by (int_eq x y) (eq_is x y) (eq_same x y)
compares_says Ne x y = says_not (x ≡ y) (int_eq x y) (says_by (int_eq x y) (eq_is x y) (eq_same x y))
compares_says Lt x y = says_by (int_lt x y) (lt_is x y) (λ h. grind (arith, ints))
compares_says Le x y = says_unless (int_lt y x) (lt_not y x) (λ e h. let g = lt_is y x e in omega (arith, ints))
compares_says Gt x y = says_by (int_lt y x) (lt_is y x) (λ h. grind (arith, ints))
compares_says Ge x y = says_unless (int_lt x y) (lt_not x y) (λ e h. let g = lt_is x y e in omega (arith, ints))

pub same_set_says : (xs ys : List ℤ) → Says (xs ≡ ys) (same_list xs ys)
same_set_says xs ys = says_by (same_list xs ys) (same_list-iff xs ys).0 (same_list-iff xs ys).1

pub other_set_says : (xs ys : List ℤ) → Says (xs ≢ ys) (not (same_list xs ys))
other_set_says xs ys = says_not (xs ≡ ys) (same_list xs ys) (same_set_says xs ys)

pub subset_says : (xs ys : List ℤ) → Says ((x : ℤ) → has xs x ≡ true → has ys x ≡ true) (is_subset xs ys)
subset_says xs ys = says_by (is_subset xs ys) (is_subset-iff xs ys).0 (is_subset-iff xs ys).1

positive_quotient : (z k : ℤ) → pos 1 ≤ℤ k → quotient z k ≡ int_div_euclid z k
positive_quotient z k l =
    let some : int_lt (pos 0) k ≡ true = grind (arith, ints) in
    rw some refl

multiple_low : (z m k : ℤ) → z ≡ m → pos 1 ≤ℤ k → (m ≤ℤ z) × (z <ℤ (m +ℤ k))
multiple_low z m k e h = (omega (arith, ints), omega (arith, ints))

multiple_none : (k z q : ℤ) → pos 1 ≤ℤ k → z ≡ k *ℤ q → remainder z k ≡ pos 0
multiple_none k z q l e =
    let low = multiple_low z (k *ℤ q) k e l in
    let same : quotient z k ≡ q = positive_quotient z k l ∙ int_div_euclid_once z k q (omega (arith, ints)) low.0 low.1 in
    rw (same, e) (omega (arith, ints))

no_rest : (z m : ℤ) → z -ℤ m ≡ pos 0 → z ≡ m
no_rest z m e = omega (arith, ints)

pub divides_says : (k z : ℤ) → pos 1 ≤ℤ k → Says ((q : ℤ) × (z ≡ k *ℤ q)) (is_multiple k z)
divides_says k z l =
    says_by (is_multiple k z)
    (λ e. (quotient z k, no_rest z (k *ℤ quotient z k) (eq_is (remainder z k) (pos 0) e)))
    (λ h. eq_same (remainder z k) (pos 0) (multiple_none k z h.0 l h.1))
