-- The tuples below bounds are numbered in lexicographic order, each once.
use Rattle.std.specs.Prelude.{ℕ, zero, suc, ◌+◌, ◌*◌, ◌/◌, ◌%◌, ◌<◌, ◌≡◌, ◌⊎◌, List, [], ◌∷◌}
use Rattle.std.proofs.Common.{refl, ap, arith, inl, inr}
use Rattle.std.proofs.Math.Nat.{div-lt_iff_lt-mul, mod-lt, mul_comm, mul-suc, mul-le-mul_left, div-add-mod}
use Rattle.std.proofs.lemmas.Bool.{cases_order}
use Rattle.std.proofs.lemmas.Nat.{div-mul-add, mod-mul-add, mul-add-lt}
use Rattle.cf_tree.specs.Meaning.{count_below, tuple_at}
use Rattle.cf_tree.specs.Solving.{IsBelow, IsBefore, AreNumbered}

-- a product above a number has no factor 0
factor_some : (i b c : ℕ) → i < b * c → 0 < c
factor_some i b zero l = omega arith
factor_some i b (suc c) l = omega arith

tuple_below : (bounds : List ℕ) (i : ℕ) → i < count_below bounds → IsBelow bounds (tuple_at bounds i)
tuple_below [] i l = tt
tuple_below (b ∷ bs) i l =
    let some = factor_some i b (count_below bs) l in
    ((div-lt_iff_lt-mul some).1 l, tuple_below bs (i % count_below bs) (mod-lt i some))

-- the number of a tuple
number_of : List ℕ → List ℕ → ℕ
number_of [] ks = 0
number_of (b ∷ bs) [] = 0
number_of (b ∷ bs) (k ∷ ks) = k * count_below bs + number_of bs ks

number_below : (bounds ks : List ℕ) → IsBelow bounds ks → number_of bounds ks < count_below bounds
unfolding number_of
number_below [] [] s = omega arith
number_below [] (k ∷ ks) s = absurd s
number_below (b ∷ bs) [] s = absurd s
number_below (b ∷ bs) (k ∷ ks) s = rw (mul_comm b (count_below bs)) (mul-add-lt k (count_below bs) (number_of bs ks) b s.0 (number_below bs ks s.1))

tuple-number : (bounds ks : List ℕ) → IsBelow bounds ks → tuple_at bounds (number_of bounds ks) ≡ ks
unfolding number_of
tuple-number [] [] s = refl
tuple-number [] (k ∷ ks) s = absurd s
tuple-number (b ∷ bs) [] s = absurd s
tuple-number (b ∷ bs) (k ∷ ks) s =
    let l = number_below bs ks s.1 in
    rw (div-mul-add k (count_below bs) (number_of bs ks) l, mod-mul-add k (count_below bs) (number_of bs ks) l, tuple-number bs ks s.1) refl

same_quotient : (i j c : ℕ) → i < j → i / c ≡ j / c → i % c < j % c
same_quotient i j c l e =
    let a = div-add-mod i c in
    let b = div-add-mod j c in
    let m = ap (λ q. c * q) e in
    omega (arith, a, b, m)

no_greater : (p q r s c : ℕ) → q < p → s < c → c * p + r < c * q + s → ⊥
no_greater p q r s c h k l =
    let m = mul-le-mul_left {m = suc q} {n = p} c h in
    let n = mul-suc c q in
    omega (arith, m, n)

-- a smaller number has a smaller quotient, or the same and a smaller rest
split_order : (i j c : ℕ) → 0 < c → i < j → (i / c < j / c) ⊎ ((i / c ≡ j / c) × (i % c < j % c))
split_order i j c some l =
    let a = div-add-mod i c in
    let b = div-add-mod j c in
    elim (cases_order (i / c) (j / c)) as (λ _. (i / c < j / c) ⊎ ((i / c ≡ j / c) × (i % c < j % c))) [
      | inl e ↦ inr (e, same_quotient i j c l e)
      | inr s ↦ elim s as (λ _. (i / c < j / c) ⊎ ((i / c ≡ j / c) × (i % c < j % c))) [
        | inl h ↦ inl h
        | inr h ↦ absurd (no_greater (i / c) (j / c) (i % c) (j % c) c h (mod-lt j some) (rw (a, b) l))
      ]
    ]

tuple_before : (bounds : List ℕ) (i j : ℕ) → i < j → j < count_below bounds → IsBefore (tuple_at bounds i) (tuple_at bounds j)
tuple_before [] i j l h = omega arith
tuple_before (b ∷ bs) i j l h =
    let some = factor_some j b (count_below bs) h in
    elim (split_order i j (count_below bs) some l) as (λ _. IsBefore (tuple_at (b ∷ bs) i) (tuple_at (b ∷ bs) j))
    [ inl s ↦ inl s | inr s ↦ inr (s.0, tuple_before bs (i % count_below bs) (j % count_below bs) s.1 (mod-lt j some)) ]

pub tuples_numbered : (bounds : List ℕ) → AreNumbered bounds
tuples_numbered bounds =
    record {
      below = tuple_below bounds;
      reached = λ ks s. (number_of bounds ks, number_below bounds ks s, tuple-number bounds ks s);
      order = tuple_before bounds;
    }
