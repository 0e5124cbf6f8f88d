-- Fresh numbers, picked from 0 upwards beside a rising list.
use Rattle.std.proofs.Common.{◌≡◌, ℕ, zero, suc, ℤ, pos, negsuc, ◌+ℤ◌, ◌-◌, ◌^◌, ◌+◌, ◌<◌, ◌≤◌, ◌<ℤ◌, ◌≤ℤ◌, Bool, true, false, not, List, [], ◌∷◌, ◌++◌, length, take, drop, filter, map, refl, ap, sym, ◌∙◌, append_assoc, length-append, arith}
use Rattle.std.specs.List.{range_with_len}
use Rattle.std.specs.Prelude.{unsigned_abs}
use Rattle.std.specs.Ordering.{int_cmp, is_eq}
use Rattle.std.specs.declared.cmp.Ordering.TheVariants.{Less, Equal, Greater}
use Rattle.std.proofs.lemmas.Int.{ints}
use Rattle.std.proofs.lemmas.List.FromFn.{map-range_with_len_more, length-map-range_with_len}
use Rattle.std.proofs.lemmas.List.{append-nil}
use Rattle.std.proofs.lemmas.List.Elements.{filter-append}
use Rattle.std.proofs.lemmas.List.Filters.{length-filter_both}
use Rattle.std.proofs.Math.Seq.{take-append_seam}
use Rattle.cf_tree.specs.Numbers.{count_of}
use Rattle.cf_num.specs.Limit.{IsWithin}
use Rattle.cf_tree.specs.Sets.{IsRising, AreWithin, has, set_diff, set_fresh}
use Rattle.cf_tree.proofs.SetLemmas.{on_bool, eq_is, eq_same, eq_other, has-same, has-other, All-from_members}
use Rattle.cf_tree.proofs.RisingLemmas.{above_not, above_less}
use Rattle.cf_tree.proofs.SliceLemmas.{length-shared, rising_range, length-fresh, fresh_not, fresh_within, fresh_least}
use Rattle.cf_set.specs.Fresh.{AreFresh, cmp_first}

pub AreFresh-set_fresh : (xs : List ℤ) (n : ℕ) → IsRising xs → AreFresh xs n (set_fresh xs n)
AreFresh-set_fresh xs n r = record {
  size = length-fresh xs n r;
  low = λ y e. (fresh_within xs n y e).0;
  apart = λ y e. fresh_not xs n y e;
  least = λ x y l o m e. fresh_least xs n x y l o m e;
}

-- the fresh numbers below `next` are picked, and `rest` is what of xs is not below it, with some that are
pub record Picking (n : ℤ) (xs rest : List ℤ) (next : ℤ) (out : List ℤ) : Type 0 where
  pub low : pos 0 ≤ℤ next
  pub picked : out ≡ set_diff (map (λ k. pos k) (range_with_len 0 (unsigned_abs next))) xs
  pub left : (z : ℤ) → next ≤ℤ z → has rest z ≡ has xs z
  pub rising : IsRising rest
  pub size : length out ≤ count_of n

below_count : (n : ℤ) (m : ℕ) → pos m <ℤ n → m < count_of n
below_count (pos n) m l = omega (arith, ints)
below_count (negsuc n) m l = absurd (omega (arith, ints))

from_count : (n : ℤ) (m : ℕ) → n ≤ℤ pos m → count_of n ≤ m
from_count (pos n) m l = omega (arith, ints)
from_count (negsuc n) m l = omega arith

-- one more number is tried
diff_there : (xs : List ℤ) (k : ℕ) → has xs (pos k) ≡ true →
    set_diff (map (λ k. pos k) (range_with_len 0 (k + 1))) xs ≡ set_diff (map (λ k. pos k) (range_with_len 0 k)) xs
diff_there xs k e =
    let p : ℤ → Bool = λ x. not (has xs x) in
    let last : filter p (pos k ∷ []) ≡ [] = rw e refl in
    ap (filter p) (map-range_with_len_more (λ k. pos k) 0 k k (omega arith)) ∙
    (filter-append p (map (λ k. pos k) (range_with_len 0 k)) (pos k ∷ []) ∙ rw last (append-nil (filter p (map (λ k. pos k) (range_with_len 0 k)))))

diff_new : (xs : List ℤ) (k : ℕ) → has xs (pos k) ≡ false →
    set_diff (map (λ k. pos k) (range_with_len 0 (k + 1))) xs ≡ set_diff (map (λ k. pos k) (range_with_len 0 k)) xs ++ pos k ∷ []
diff_new xs k e =
    let p : ℤ → Bool = λ x. not (has xs x) in
    let last : filter p (pos k ∷ []) ≡ pos k ∷ [] = rw e refl in
    ap (filter p) (map-range_with_len_more (λ k. pos k) 0 k k (omega arith)) ∙
    (filter-append p (map (λ k. pos k) (range_with_len 0 k)) (pos k ∷ []) ∙ rw last refl)

pub picking_start : (n : ℤ) (xs : List ℤ) → IsRising xs → Picking n xs xs (pos 0) []
picking_start n xs r = record {
  low = omega (arith, ints);
  picked = refl;
  left = λ z l. refl;
  rising = r;
  size = omega arith;
}

-- the first of the rest is below the number
less_is : (y x : ℤ) → int_cmp y x ≡ Less → y <ℤ x
less_is y x e = grind (arith, ints)

same_is : (y x : ℤ) → int_cmp y x ≡ Equal → y ≡ x
same_is y x e = eq_is y x (ap is_eq e)

greater_is : (y x : ℤ) → int_cmp y x ≡ Greater → x <ℤ y
greater_is y x e = grind (arith, ints)

pub some_first : (rest : List ℤ) (x : ℤ) → (cmp_first rest x ≡ Greater → ⊥) → 1 ≤ length rest
some_first [] x h = absurd (h refl)
some_first (y ∷ ys) x h = omega arith

pub picking_skip : (n : ℤ) (xs rest : List ℤ) (next : ℤ) (out : List ℤ) → Picking n xs rest next out → cmp_first rest next ≡ Less →
    Picking n xs (drop 1 rest) next out
picking_skip n xs [] next out h e = absurd (cc)
picking_skip n xs (y ∷ ys) next out h e =
    let l = less_is y next e in
    record {
      low = h.low;
      picked = h.picked;
      left = λ z m. sym (has-other y ys z (eq_other y z (λ f. absurd (omega (arith, ints))))) ∙ h.left z m;
      rising = h.rising.1;
      size = h.size;
    }

pub picking_avoid : (n : ℤ) (xs rest : List ℤ) (next : ℤ) (out : List ℤ) → Picking n xs rest next out → cmp_first rest next ≡ Equal →
    Picking n xs (drop 1 rest) (next +ℤ pos 1) out
picking_avoid n xs [] next out h e = absurd (cc)
picking_avoid n xs (y ∷ ys) (negsuc k) out h e = absurd (let l = h.low in omega (arith, ints))
picking_avoid n xs (y ∷ ys) (pos k) out h e =
    let l = same_is y (pos k) e in
    let there : has xs (pos k) ≡ true = sym (h.left (pos k) (omega (arith, ints))) ∙ has-same y ys (pos k) (eq_same y (pos k) l) in
    record {
      low = omega (arith, ints);
      picked = h.picked ∙ sym (diff_there xs k there);
      left = λ z m. sym (has-other y ys z (eq_other y z (λ f. absurd (omega (arith, ints))))) ∙ h.left z (omega (arith, ints));
      rising = h.rising.1;
      size = h.size;
    }

not_first : (rest : List ℤ) (x : ℤ) → IsRising rest → cmp_first rest x ≡ Greater → has rest x ≡ false
not_first [] x r e = refl
not_first (y ∷ ys) x r e = let l = greater_is y x e in above_not x (y ∷ ys) (l, above_less x y ys (omega (arith, ints)) r.0)

pub picking_take : (n : ℤ) (xs rest : List ℤ) (next : ℤ) (out : List ℤ) → Picking n xs rest next out → cmp_first rest next ≡ Greater → pos (length out) <ℤ n →
    Picking n xs rest (next +ℤ pos 1) (out ++ next ∷ [])
picking_take n xs rest (negsuc k) out h e m = absurd (let l = h.low in omega (arith, ints))
picking_take n xs rest (pos k) out h e m =
    let there : has xs (pos k) ≡ false = sym (h.left (pos k) (omega (arith, ints))) ∙ not_first rest (pos k) h.rising e in
    record {
      low = omega (arith, ints);
      picked = ap (λ l. l ++ pos k ∷ []) h.picked ∙ sym (diff_new xs k there);
      left = λ z l. h.left z (omega (arith, ints));
      rising = h.rising;
      size = let b = below_count n (length out) m in let s = length-append out (pos k ∷ []) in omega arith;
    }

-- the numbers tried are no more than those picked and those to avoid
length-picked : (xs : List ℤ) (k : ℕ) → IsRising xs → k ≤ length (set_diff (map (λ k. pos k) (range_with_len 0 k)) xs) + length xs
length-picked xs k r =
    let range = map (λ k. pos k) (range_with_len 0 k) in
    let a = length-filter_both (has xs) (λ x. not (has xs x)) (λ x. refl) range in
    let b = length-shared xs range r (rising_range 0 k) in
    let c = length-map-range_with_len (λ k. pos k) 0 k in
    omega arith

pub picking_bound : (n : ℤ) (xs rest : List ℤ) (next : ℤ) (out : List ℤ) → IsRising xs → Picking n xs rest next out → next ≤ℤ pos (length out + length xs)
picking_bound n xs rest (negsuc k) out r h = absurd (let l = h.low in omega (arith, ints))
picking_bound n xs rest (pos k) out r h = let b = length-picked xs k r in let e = ap length h.picked in omega (arith, ints)

-- more numbers tried give more picked after these
picked_more : (xs : List ℤ) (k d : ℕ) → (rest : List ℤ) ×
    (set_diff (map (λ k. pos k) (range_with_len 0 (k + d))) xs ≡ set_diff (map (λ k. pos k) (range_with_len 0 k)) xs ++ rest)
picked_more xs k zero = let e : k + 0 ≡ k = omega arith in ([], rw e (sym (append-nil (set_diff (map (λ k. pos k) (range_with_len 0 k)) xs))))
picked_more xs k (suc d) =
    let e : k + suc d ≡ (k + d) + 1 = omega arith in
    let again = picked_more xs k d in
    on_bool (has xs (pos (k + d)))
    (λ f. (again.0, rw e (diff_there xs (k + d) f ∙ again.1)))
    (λ f. (
      again.0 ++ pos (k + d) ∷ [],
      rw e
          (diff_new xs (k + d) f ∙ (ap (λ l. l ++ pos (k + d) ∷ []) again.1 ∙
          append_assoc (set_diff (map (λ k. pos k) (range_with_len 0 k)) xs) again.0 (pos (k + d) ∷ []))),
    ))

pub picking_done : (n : ℤ) (xs rest : List ℤ) (next : ℤ) (out : List ℤ) → IsRising xs → Picking n xs rest next out → n ≤ℤ pos (length out) →
    out ≡ set_fresh xs (count_of n)
picking_done n xs rest (negsuc k) out r h l = absurd (let m = h.low in omega (arith, ints))
picking_done n xs rest (pos k) out r h l =
    let m = h.size in
    let c = from_count n (length out) l in
    let long : length out ≡ count_of n = omega arith in
    let bound = length-picked xs k r in
    let e = ap length h.picked in
    let d = (count_of n + length xs) - k in
    let whole : k + d ≡ count_of n + length xs = omega arith in
    let more = picked_more xs k d in
    let split : set_diff (map (λ k. pos k) (range_with_len 0 (count_of n + length xs))) xs ≡ out ++ more.0 =
    ap (λ j. set_diff (map (λ k. pos k) (range_with_len 0 j)) xs) (sym whole) ∙ (more.1 ∙ ap (λ l. l ++ more.0) (sym h.picked)) in
    sym (ap (take (count_of n)) split ∙ (ap (λ j. take j (out ++ more.0)) (sym long) ∙ take-append_seam out more.0))

-- fresh numbers beside lists of lengths that fit are within the limit
pub within_fresh : (xs : List ℤ) (n : ℕ) → n + length xs ≤ 2 ^ 127 → AreWithin (set_fresh xs n)
within_fresh xs n l = All-from_members IsWithin (set_fresh xs n) (λ z e. let w = fresh_within xs n z e in let low = w.0 in let high = w.1 in
    omega (arith, ints))
