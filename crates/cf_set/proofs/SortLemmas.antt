-- Sorted numbers, each once, are the set of the numbers.
use Rattle.std.proofs.Common.{◌≡◌, suc, ℤ, ◌+◌, ◌<ℤ◌, ◌≤ℤ◌, true, false, ◌||◌, List, [], ◌∷◌, IsPermutation, refl, ap, sym, ◌∙◌, subst, arith}
use Rattle.std.specs.Ordering.{int_eq, int_cmp, is_lt}
use Rattle.std.specs.List.{dedup, dedup_from}
use Rattle.std.specs.List.Sorted.{IsSorted}
use Rattle.std.proofs.lemmas.Int.{ints}
use Rattle.std.proofs.lemmas.Bool.{cond_both}
use Rattle.std.proofs.lemmas.List.Sorted.{All-permutation, IsPermutation-sym}
use Rattle.cf_tree.specs.Sets.{AreAbove, IsRising, has, set_of}
use Rattle.cf_tree.proofs.SetLemmas.{on_bool, or_twice, eq_is, eq_differs, has-set_of, member_from_All, All-from_members}
use Rattle.cf_tree.proofs.RisingLemmas.{rising_ext, rising_set_of}

-- no element is less than the one before it
Ordered : List ℤ → Type 0
Ordered [] = Unit {0}
Ordered (x ∷ []) = Unit {0}
Ordered (x ∷ y ∷ zs) = (x ≤ℤ y) × Ordered (y ∷ zs)

not_less : (x y : ℤ) → is_lt (int_cmp y x) ≡ false → x ≤ℤ y
not_less x y e = grind (arith, ints)

ordered_from_sorted : (xs : List ℤ) → IsSorted int_cmp xs → Ordered xs
unfolding Ordered
ordered_from_sorted [] h = tt
ordered_from_sorted (x ∷ []) h = tt
ordered_from_sorted (x ∷ y ∷ zs) h = (
  not_less x y (h 0 x (omega arith) (omega arith)),
  ordered_from_sorted (y ∷ zs) (λ k d a b.
      let e : suc k + 1 ≡ suc (k + 1) = omega arith in rw e at (h (suc k) d (omega arith) (omega arith))),
)

has-dedup_from : (x : ℤ) (xs : List ℤ) (z : ℤ) → has (dedup_from int_eq x xs) z ≡ (int_eq x z || has xs z)
has-dedup_from x [] z = refl
has-dedup_from x (y ∷ ys) z = cond_both (int_eq y x) _ _ (λ l. has l z ≡ (int_eq x z || (int_eq y z || has ys z)))
    (λ e. has-dedup_from x ys z ∙ rw (eq_is y x e) (or_twice (int_eq x z) (has ys z)))
    (λ e. ap (λ b. int_eq x z || b) (has-dedup_from y ys z))

above_dedup : (w x : ℤ) (xs : List ℤ) → w <ℤ x → Ordered (x ∷ xs) → AreAbove w (dedup_from int_eq x xs)
unfolding Ordered
above_dedup w x [] l s = (l, tt)
above_dedup w x (y ∷ ys) l s = cond_both (int_eq y x) _ _ (AreAbove w)
    (λ e. above_dedup w x ys l (subst (λ v. Ordered (v ∷ ys)) (eq_is y x e) s.1))
    (λ e. let f = s.0 in (l, above_dedup w y ys (omega (arith, ints)) s.1))

rising_dedup : (x : ℤ) (xs : List ℤ) → Ordered (x ∷ xs) → IsRising (dedup_from int_eq x xs)
unfolding Ordered
rising_dedup x [] s = (tt, tt)
rising_dedup x (y ∷ ys) s = cond_both (int_eq y x) _ _ IsRising
    (λ e. rising_dedup x ys (subst (λ v. Ordered (v ∷ ys)) (eq_is y x e) s.1))
    (λ e. let f = s.0 in let g = eq_differs y x e in (above_dedup x y ys (omega (arith, ints)) s.1, rising_dedup y ys s.1))

has-dedup : (xs : List ℤ) (z : ℤ) → has (dedup int_eq xs) z ≡ has xs z
has-dedup [] z = refl
has-dedup (x ∷ xs) z = has-dedup_from x xs z

dedup_rises : (xs : List ℤ) → Ordered xs → IsRising (dedup int_eq xs)
dedup_rises [] s = tt
dedup_rises (x ∷ xs) s = rising_dedup x xs s

-- a permutation has the same members
member_moved : (xs ys : List ℤ) (z : ℤ) → IsPermutation xs ys → has ys z ≡ true → has xs z ≡ true
member_moved xs ys z p e = member_from_All (λ y. has xs y ≡ true) ys
    (All-permutation (λ y. has xs y ≡ true) xs ys p (All-from_members (λ y. has xs y ≡ true) xs (λ y f. f))) z e

pub has-permutation : (xs ys : List ℤ) (z : ℤ) → IsPermutation xs ys → has ys z ≡ has xs z
has-permutation xs ys z p = on_bool (has ys z) (λ e. e ∙ sym (member_moved xs ys z p e))
    (λ e. on_bool (has xs z) (λ f. let g = member_moved ys xs z (IsPermutation-sym xs ys p) f in absurd (cc)) (λ f. e ∙ sym f))

pub dedup-sorted : (xs ys : List ℤ) → IsPermutation xs ys → IsSorted int_cmp ys → dedup int_eq ys ≡ set_of xs
dedup-sorted xs ys p s = rising_ext (dedup int_eq ys) (set_of xs) (dedup_rises ys (ordered_from_sorted ys s)) (rising_set_of xs)
    (λ z. has-dedup ys z ∙ (has-permutation xs ys z p ∙ sym (has-set_of xs z)))
