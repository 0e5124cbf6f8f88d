-- Bits of masks.
use Rattle.std.proofs.Common.{◌≡◌, ℕ, zero, suc, ℤ, ◌+◌, ◌*◌, ◌/◌, ◌%◌, ◌^◌, ◌<◌, ◌==◌, Bool, true, false, cond, not, ◌||◌, List, [], ◌∷◌, ◌++◌, length}
use Rattle.std.proofs.Common.{get_or, map, refl, ap, sym, ◌∙◌, arith}
use Rattle.std.proofs.lemmas.Bool.{cond_both, eq-eqb, ne_eqb, eqb-true, eqb-false, not-true, not-false}
use Rattle.std.proofs.lemmas.Nat.{shr-shr}
use Rattle.std.proofs.Math.Nat.{pow-succ', mul_assoc}
use Rattle.cf_tree.specs.Sets.{IsRising, has}
use Rattle.cf_tree.proofs.SetLemmas.{on_bool, has-union}
use Rattle.cf_tree.proofs.RisingLemmas.{rising_union}
use Rattle.cf_linear.specs.Layout.{bit}
use Rattle.cf_venn.specs.Masks.{AreRising, mask, union_all}

odd_of : (b : Bool) (m : ℕ) → ((cond b 1 0 + 2 * m) % 2 == 1) ≡ b
odd_of true m = eq-eqb ((1 + 2 * m) % 2) 1 (omega arith)
odd_of false m = ne_eqb ((0 + 2 * m) % 2) 1 (λ e. omega arith)

half_of : (b : Bool) (m : ℕ) → (cond b 1 0 + 2 * m) / 2 ≡ m
half_of true m = omega arith
half_of false m = omega arith

pub bit_zero : (i : ℕ) → bit i 0 ≡ false
bit_zero zero = refl
bit_zero (suc i) = bit_zero i

-- the bits of a mask say in which sets the element is
pub bit-mask : (ss : List (List ℤ)) (i : ℕ) (x : ℤ) → bit i (mask ss x) ≡ has (get_or ss i []) x
bit-mask [] i x = bit_zero i
bit-mask (s ∷ ss) zero x = odd_of (has s x) (mask ss x)
bit-mask (s ∷ ss) (suc i) x = rw (half_of (has s x) (mask ss x)) (bit-mask ss i x)

-- the bits from p on are those of the quotient
pub bit_high : (p j k : ℕ) → bit (p + j) k ≡ bit j (k / 2 ^ p)
bit_high zero j k =
    let e : k / 2 ^ 0 ≡ k = omega arith in
    let f : 0 + j ≡ j = omega arith in
    rw (e, f) refl
bit_high (suc p) j k =
    let f : suc p + j ≡ suc (p + j) = omega arith in
    let s : 1 + p ≡ suc p = omega arith in
    let e : k / 2 ^ suc p ≡ k / 2 / 2 ^ p = sym (shr-shr k 1 p ∙ ap (λ n. k / 2 ^ n) s) in
    rw (f, e) (bit_high p j (k / 2))

shift_sum : (c m p t : ℕ) → c + 2 * (m + p * t) ≡ c + 2 * m + 2 * p * t
shift_sum c m p t = omega (arith, mul_assoc 2 p t)

pub mask-append : (ss ts : List (List ℤ)) (x : ℤ) → mask (ss ++ ts) x ≡ mask ss x + 2 ^ length ss * mask ts x
mask-append [] ts x = omega arith
mask-append (s ∷ ss) ts x = rw (mask-append ss ts x, pow-succ' 2 (length ss)) (shift_sum (cond (has s x) 1 0) (mask ss x) (2 ^ length ss) (mask ts x))

pub mask-below : (ss : List (List ℤ)) (x : ℤ) → mask ss x < 2 ^ length ss
mask-below [] x = omega arith
mask-below (s ∷ ss) x =
    let h = mask-below ss x in
    rw (pow-succ' 2 (length ss)) (cond_both (has s x) 1 0 (λ n. n + 2 * mask ss x < 2 * 2 ^ length ss) (λ _. omega arith) (λ _. omega arith))

or_tests : (b : Bool) (m : ℕ) → (b || not (m == 0)) ≡ not (cond b 1 0 + 2 * m == 0)
or_tests true m = rw (ne_eqb (1 + 2 * m) 0 (λ e. omega arith))
or_tests false m = on_bool (m == 0)
    (λ e. let f = eqb-true m 0 e in rw (e, eq-eqb (0 + 2 * m) 0 (omega arith)))
    (λ e. let f = eqb-false m 0 e in rw (e, ne_eqb (0 + 2 * m) 0 (λ g. f (omega arith))))

-- an element is in some set exactly where its mask is not 0
pub has-union_all : (ss : List (List ℤ)) (x : ℤ) → has (union_all ss) x ≡ not (mask ss x == 0)
has-union_all [] x = refl
has-union_all (s ∷ ss) x = has-union s (union_all ss) x ∙ rw (has-union_all ss x) (or_tests (has s x) (mask ss x))

pub mask_some : (ss : List (List ℤ)) (x : ℤ) → has (union_all ss) x ≡ true → 0 < mask ss x
mask_some ss x e = let f = eqb-false (mask ss x) 0 (not-true (mask ss x == 0) (sym (has-union_all ss x) ∙ e)) in omega arith

pub mask_none : (ss : List (List ℤ)) (x : ℤ) → has (union_all ss) x ≡ false → mask ss x ≡ 0
mask_none ss x e = eqb-true (mask ss x) 0 (not-false (mask ss x == 0) (sym (has-union_all ss x) ∙ e))

pub in_union_all : (ss : List (List ℤ)) (x : ℤ) → 0 < mask ss x → has (union_all ss) x ≡ true
in_union_all ss x l = has-union_all ss x ∙ rw (ne_eqb (mask ss x) 0 (λ e. omega arith))

-- ---- rising sets
pub rising_union_all : (ss : List (List ℤ)) → IsRising (union_all ss)
rising_union_all [] = tt
rising_union_all (s ∷ ss) = rising_union s (union_all ss) (rising_union_all ss)

pub rising_each : {A : Type 0} (f : A → List ℤ) → ((x : A) → IsRising (f x)) → (xs : List A) → AreRising (map f xs)
rising_each f h [] = tt
rising_each f h (x ∷ xs) = (h x, rising_each f h xs)

pub rising_append : (ss ts : List (List ℤ)) → AreRising ss → AreRising ts → AreRising (ss ++ ts)
rising_append [] ts a b = b
rising_append (s ∷ ss) ts a b = (a.0, rising_append ss ts a.1 b)
