-- A merge of two rising lists on its way.
use Rattle.std.proofs.Common.{◌≡◌, ℕ, suc, ℤ, ◌+◌, ◌<◌, ◌≤◌, ◌<ℤ◌, List, [], ◌∷◌, ◌++◌, length, get_or, drop, arith, append_assoc, add-one, drop-cons, subst, take, ◌-◌, ◌⊎◌, inl, inr, pos, int_lt, true, false, to_z, of_z, length-drop}
use Rattle.std.specs.Int.{w128}
use Rattle.std.proofs.lemmas.Int.{ints, to_z-of_z, fits_signed_from_abs}
use Rattle.cf_tree.proofs.SetLemmas.{lt_is, lt_not}
use Rattle.cf_tree.proofs.SliceLemmas.{take_all}
use Rattle.cf_tree.specs.Sets.{AreWithin}
use Rattle.std.proofs.Math.ListN.{drop_of_length-le}
use Rattle.std.proofs.lemmas.List.{append-nil}
use Rattle.cf_tree.specs.Sets.{IsRising, set_union}
use Rattle.cf_tree.proofs.RisingLemmas.{rising_drop}
use Rattle.cf_set.proofs.MergeLemmas.{union_first, union_second, union_both, union_none}

pub record Merging (a b : List ℤ) (i j : ℕ) (out : List ℤ) : Type 0 where
  pub is : out ++ set_union (drop i a) (drop j b) ≡ set_union a b
  pub a_rises : IsRising a
  pub b_rises : IsRising b
  pub a_within : i ≤ length a
  pub b_within : j ≤ length b

module _ (a b : List ℤ) (i j : ℕ) (out : List ℤ) (d : ℤ) where
  rises_from : (xs : List ℤ) (k : ℕ) → IsRising xs → k < length xs → IsRising (get_or xs k d ∷ drop (suc k) xs)
  rises_from xs k r l = subst IsRising (drop-cons xs k d l) (rising_drop k xs r)

  pub merging_first : Merging a b i j out → i < length a → j < length b → get_or a i d <ℤ get_or b j d → Merging a b (i + 1) j (out ++ get_or a i d ∷ [])
  merging_first h l m s = record {
    is =
        let f = union_first (get_or a i d) (get_or b j d) (drop (suc i) a) (drop (suc j) b) (rises_from a i h.a_rises l) (rises_from b j h.b_rises m) s in
        let g = rw (drop-cons a i d, drop-cons b j d, f) at h.is in
        rw (append_assoc, add-one, drop-cons b j d) g;
    a_rises = h.a_rises;
    b_rises = h.b_rises;
    a_within = omega arith;
    b_within = h.b_within;
  }

  pub merging_second : Merging a b i j out → i < length a → j < length b → get_or b j d <ℤ get_or a i d → Merging a b i (j + 1) (out ++ get_or b j d ∷ [])
  merging_second h l m s = record {
    is =
        let f = union_second (get_or a i d) (get_or b j d) (drop (suc i) a) (drop (suc j) b) (rises_from a i h.a_rises l) (rises_from b j h.b_rises m) s in
        let g = rw (drop-cons a i d, drop-cons b j d, f) at h.is in
        rw (append_assoc, add-one, drop-cons a i d) g;
    a_rises = h.a_rises;
    b_rises = h.b_rises;
    a_within = h.a_within;
    b_within = omega arith;
  }

  pub merging_both : Merging a b i j out → i < length a → j < length b → get_or a i d ≡ get_or b j d → Merging a b (i + 1) (j + 1) (out ++ get_or a i d ∷ [])
  merging_both h l m s = record {
    is =
        let f = union_both (get_or a i d) (drop (suc i) a) (drop (suc j) b) (rises_from a i h.a_rises l) (rw s (rises_from b j h.b_rises m)) in
        let g = rw (drop-cons a i d, drop-cons b j d, ← s, f) at h.is in
        rw (append_assoc, add-one, add-one) g;
    a_rises = h.a_rises;
    b_rises = h.b_rises;
    a_within = omega arith;
    b_within = omega arith;
  }

at_bits : (xs : List ℤ) (k : ℕ) → AreWithin xs → k < length xs → to_z w128 (of_z w128 (get_or xs k (pos 0))) ≡ get_or xs k (pos 0)
at_bits xs k h l = to_z-of_z w128 (get_or xs k (pos 0)) (fits_signed_from_abs w128 (get_or xs k (pos 0)) (let w = h k (pos 0) l in omega arith))

module _ (a b : List ℤ) (i j : ℕ) (out new : List ℤ) where
  pub pushed_first : AreWithin a → AreWithin b → Merging a b i j out → i < length a → j < length b →
      int_lt (to_z w128 (of_z w128 (get_or a i (pos 0)))) (to_z w128 (of_z w128 (get_or b j (pos 0)))) ≡ true →
      new ≡ out ++ to_z w128 (of_z w128 (get_or a i (pos 0))) ∷ [] → Merging a b (i + 1) j new
  pushed_first p q h l m s e =
      let t = rw (at_bits a i p l, at_bits b j q m) at s in
      rw (e, at_bits a i p l) (merging_first a b i j out (pos 0) h l m (lt_is _ _ t))

  pub pushed_second : AreWithin a → AreWithin b → Merging a b i j out → i < length a → j < length b →
      int_lt (to_z w128 (of_z w128 (get_or b j (pos 0)))) (to_z w128 (of_z w128 (get_or a i (pos 0)))) ≡ true →
      new ≡ out ++ to_z w128 (of_z w128 (get_or b j (pos 0))) ∷ [] → Merging a b i (j + 1) new
  pushed_second p q h l m s e =
      let t = rw (at_bits b j q m, at_bits a i p l) at s in
      rw (e, at_bits b j q m) (merging_second a b i j out (pos 0) h l m (lt_is _ _ t))

  pub pushed_both : AreWithin a → AreWithin b → Merging a b i j out → i < length a → j < length b →
      int_lt (to_z w128 (of_z w128 (get_or a i (pos 0)))) (to_z w128 (of_z w128 (get_or b j (pos 0)))) ≡ false →
      int_lt (to_z w128 (of_z w128 (get_or b j (pos 0)))) (to_z w128 (of_z w128 (get_or a i (pos 0)))) ≡ false →
      new ≡ out ++ to_z w128 (of_z w128 (get_or a i (pos 0))) ∷ [] → Merging a b (i + 1) (j + 1) new
  pushed_both p q h l m s t e =
      let u = lt_not (get_or a i (pos 0)) (get_or b j (pos 0)) (rw (at_bits a i p l, at_bits b j q m) at s) in
      let v = lt_not (get_or b j (pos 0)) (get_or a i (pos 0)) (rw (at_bits b j q m, at_bits a i p l) at t) in
      rw (e, at_bits a i p l) (merging_both a b i j out (pos 0) h l m (omega (arith, ints)))

rest_whole : (xs : List ℤ) (k : ℕ) → take (length xs - k) (drop k xs) ≡ drop k xs
rest_whole xs k = take_all (length xs - k) (drop k xs) (let e = length-drop k xs in omega arith)

pub merge_done : (a b : List ℤ) (i j : ℕ) (out mid end : List ℤ) → Merging a b i j out → (length a ≤ i) ⊎ (length b ≤ j) →
    mid ≡ out ++ take (length a - i) (drop i a) → end ≡ mid ++ take (length b - j) (drop j b) → end ≡ set_union a b
merge_done a b i j out mid end h w e f =
    elim w as (λ _. end ≡ set_union a b) [
      | inl l ↦ let n : drop i a ≡ [] = drop_of_length-le a {i = i} l in let g = rw n at h.is in rw (f, e, rest_whole a i, rest_whole b j, n, append-nil) g
      | inr l ↦ let n : drop j b ≡ [] = drop_of_length-le b {i = j} l in let g = rw (n, union_none (drop i a) (rising_drop i a h.a_rises)) at h.is in
          rw (f, e, rest_whole a i, rest_whole b j, n, append-nil) g
    ]
