-- Output sets made of counts have these counts.
use Rattle.std.proofs.Common.{◌≡◌, ℕ, zero, suc, ℤ, ◌+◌, ◌-◌, ◌*◌, ◌/◌, ◌%◌, ◌^◌, ◌<◌, ◌≤◌, ◌==◌, Bool, true, cond, List, ◌∷◌, ◌++◌, length, map, filter}
use Rattle.std.proofs.Common.{take, drop, subst, refl, ap, sym, ◌∙◌, arith, ltb, length-drop}
use Rattle.std.specs.List.{range_with_len}
use Rattle.std.proofs.lemmas.Bool.{cond_both, eq-eqb, ne_eqb, eqb-true, eqb-false, and_parts, and_from, not-true, or_left, or_right, ltb-true, ltb-false}
use Rattle.std.proofs.lemmas.List.{length-take-le}
use Rattle.std.proofs.lemmas.List.Sums.{length-filter}
use Rattle.std.proofs.lemmas.Nat.{pow_pos, pow-add}
use Rattle.std.proofs.Math.Nat.{pow-succ', mod-lt}
use Rattle.cf_tree.specs.Sets.{has, IsRising, set_slice}
use Rattle.cf_tree.proofs.SetLemmas.{on_bool, has-union, has-filter}
use Rattle.cf_tree.proofs.RisingLemmas.{rising_filter, rising_take, rising_drop}
use Rattle.cf_tree.proofs.SliceLemmas.{has-slice, take_more, take_within, drop_within, take_all, rising_fresh, length-fresh, fresh_not}
use Rattle.cf_linear.specs.Layout.{bit, masks}
use Rattle.cf_venn.specs.Masks.{mask, union_all, count}
use Rattle.cf_venn.specs.Pieces.{Consistent, earlier, source, piece, output, outputs}
use Rattle.cf_venn.proofs.MaskLemmas.{bit_zero, bit_high, mask-append, mask-below, mask_none, in_union_all, rising_union_all}
use Rattle.cf_venn.proofs.CountLemmas.{count_same, length_within}
use Rattle.cf_venn.proofs.PartLemmas.{mod_parts, pos_parts, some_part, high_below, below_product, parts_once, part_mod, part_div}
use Rattle.cf_venn.proofs.TotalLemmas.{earlier-more}

-- the count of the mask with the parts m and o, and 0 at the mask 0
abbrev pub part : ℕ → (ℕ → ℕ) → ℕ → ℕ → ℕ
part p r m o = cond (m + 2 ^ p * o == 0) 0 (r (m + 2 ^ p * o))

-- the piece of the mask with the parts m and o
abbrev pub cut : List (List ℤ) → ℕ → (ℕ → ℕ) → ℕ → ℕ → List ℤ
cut ins q r m o = set_slice (source ins q r m) (earlier (length ins) r m o) (part (length ins) r m o)

earlier_rises : (p : ℕ) (r : ℕ → ℕ) (m a b : ℕ) → a ≤ b → earlier p r m a ≤ earlier p r m b
earlier_rises p r m a zero l = let e : a ≡ 0 = omega arith in rw e (omega arith)
earlier_rises p r m a (suc b) l = on_bool (a == suc b)
    (λ e. rw (eqb-true a (suc b) e) (omega arith))
    (λ e. let n = eqb-false a (suc b) e in let h = earlier_rises p r m a b (omega arith) in let s = earlier-more p r m b in omega arith)

-- ---- unions of many sets
pub union_to : (f : ℕ → List ℤ) (t : ℕ → Bool) (a n k : ℕ) (y : ℤ) → a ≤ k → k < a + n → t k ≡ true → has (f k) y ≡ true →
    has (union_all (map f (filter t (range_with_len a n)))) y ≡ true
union_to f t a zero k y l h e g = absurd (omega arith)
union_to f t a (suc n) k y l h e g =
    let rest = filter t (range_with_len (a + 1) n) in
    cond_both (t a) (a ∷ rest) rest (λ ks. has (union_all (map f ks)) y ≡ true)
    (λ b. has-union (f a) (union_all (map f rest)) y ∙ on_bool (k == a)
    (λ s. or_left (has (f a) y) _ (subst (λ i. has (f i) y ≡ true) (eqb-true k a s) g))
    (λ s. let d = eqb-false k a s in or_right (has (f a) y) _ (union_to f t (a + 1) n k y (omega arith) (omega arith) e g)))
    (λ b. on_bool (k == a)
    (λ s. let c : t a ≡ true = ap t (sym (eqb-true k a s)) ∙ e in absurd (cc))
    (λ s. let d = eqb-false k a s in union_to f t (a + 1) n k y (omega arith) (omega arith) e g))

pub union_from : (f : ℕ → List ℤ) (t : ℕ → Bool) (a n : ℕ) (y : ℤ) → has (union_all (map f (filter t (range_with_len a n)))) y ≡ true →
    (k : ℕ) × (a ≤ k) × (k < a + n) × (t k ≡ true) × (has (f k) y ≡ true)
union_from f t a zero y e = absurd (cc)
union_from f t a (suc n) y e =
    let rest = filter t (range_with_len (a + 1) n) in
    let later : has (union_all (map f rest)) y ≡ true → (k : ℕ) × (a ≤ k) × (k < a + suc n) × (t k ≡ true) × (has (f k) y ≡ true) =
    λ g. (let s = union_from f t (a + 1) n y g in let l = s.1 in let h = s.2 in (s.0, omega arith, omega arith, s.3, s.4)) in
    cond_both (t a) (a ∷ rest) rest (λ ks. has (union_all (map f ks)) y ≡ true → (k : ℕ) × (a ≤ k) × (k < a + suc n) × (t k ≡ true) × (has (f k) y ≡ true))
    (λ b i. on_bool (has (f a) y)
    (λ g. (a, omega arith, omega arith, b, g))
    (λ g. later (rw g at (sym (has-union (f a) (union_all (map f rest)) y) ∙ i))))
    (λ b i. later i) e

-- ---- masks of listed sets
half_below : (o b : ℕ) → o < 2 * b → o / 2 < b
half_below o b l = omega arith

halves : (o : ℕ) → cond (o % 2 == 1) 1 0 + 2 * (o / 2) ≡ o
halves o = on_bool (o % 2 == 1)
    (λ e. let f = eqb-true (o % 2) 1 e in rw e (omega arith))
    (λ e. let f = eqb-false (o % 2) 1 e in rw e (omega arith))

-- a mask is made of its bits
mask-listed : (f : ℕ → List ℤ) (a n o : ℕ) (y : ℤ) → o < 2 ^ n → ((j : ℕ) → has (f (a + j)) y ≡ bit j o) → mask (map f (range_with_len a n)) y ≡ o
mask-listed f a zero o y l h = omega arith
mask-listed f a (suc n) o y l h =
    let z : a + 0 ≡ a = omega arith in
    rw (
      ap (λ i. has (f i) y) (sym z) ∙ h 0,
      mask-listed f (a + 1) n (o / 2) y (half_below o (2 ^ n) (rw (pow-succ' 2 n) at l)) (λ j. let s : a + 1 + j ≡ a + suc j = omega arith in
          ap (λ i. has (f i) y) s ∙ h (suc j)),
    )
    (halves o)

listed_from : (f : ℕ → List ℤ) (a n : ℕ) (y : ℤ) → has (union_all (map f (range_with_len a n))) y ≡ true → (j : ℕ) × (has (f j) y ≡ true)
listed_from f a zero y e = absurd (cc)
listed_from f a (suc n) y e = on_bool (has (f a) y)
    (λ g. (a, g))
    (λ g. listed_from f (a + 1) n y (rw g at (sym (has-union (f a) (union_all (map f (range_with_len (a + 1) n))) y) ∙ e)))

some_bit : (j o : ℕ) → bit j o ≡ true → 0 < o
some_bit j zero b = let n = bit_zero j in absurd (cc)
some_bit j (suc o) b = omega arith

module _ (ins : List (List ℤ)) (q : ℕ) (r : ℕ → ℕ) where
  pub rising_source : (m : ℕ) → IsRising (source ins q r m)
  rising_source m = cond_both (m == 0) _ _ IsRising (λ e. rising_fresh (union_all ins) _)
      (λ e. rising_filter (λ x. mask ins x == m) (union_all ins) (rising_union_all ins))

  rising_cut : (m o : ℕ) → IsRising (cut ins q r m o)
  rising_cut m o = rising_take (part (length ins) r m o) _ (rising_drop (earlier (length ins) r m o) (source ins q r m) (rising_source m))

  source_mask : (m : ℕ) (y : ℤ) → has (source ins q r m) y ≡ true → mask ins y ≡ m
  source_mask m y h = on_bool (m == 0)
      (λ e. mask_none ins y (fresh_not (union_all ins) _ y (rw e at h)) ∙ sym (eqb-true m 0 e))
      (λ e. eqb-true (mask ins y) m (and_parts (has (union_all ins) y) (mask ins y == m) (sym (has-filter (λ x. mask ins x == m) (union_all ins) y) ∙
      rw e at h)).1)

  length_source : Consistent ins q r → (m : ℕ) → m < 2 ^ length ins → length (source ins q r m) ≡ earlier (length ins) r m (2 ^ q)
  length_source ok m l = on_bool (m == 0)
      (λ e. rw e (length-fresh (union_all ins) _ (rising_union_all ins) ∙ ap (λ k. earlier (length ins) r k (2 ^ q)) (sym (eqb-true m 0 e))))
      (λ e. let n = eqb-false m 0 e in rw e (sym (ok m (omega arith) l)))

  cut_source : (m o : ℕ) (y : ℤ) → has (cut ins q r m o) y ≡ true → has (source ins q r m) y ≡ true
  cut_source m o y e = drop_within (earlier (length ins) r m o) (source ins q r m) y (take_within (part (length ins) r m o) _ y e)

  -- two slices of one region are disjoint
  apart : (m o u : ℕ) (y : ℤ) → o < u → has (cut ins q r m o) y ≡ true → has (cut ins q r m u) y ≡ true → ⊥
  apart m o u y l e f =
      let b = source ins q r m in
      let from : ℕ → ℕ = earlier (length ins) r m in
      let s = and_parts (has (take (from o + part (length ins) r m o) b) y) _ (sym (has-slice (from o) (part (length ins) r m o) b y (rising_source m)) ∙ e) in
      let t = and_parts (has (take (from u + part (length ins) r m u) b) y) _ (sym (has-slice (from u) (part (length ins) r m u) b y (rising_source m)) ∙ f) in
      let v = not-true (has (take (from u) b) y) t.1 in
      let rise = earlier_rises (length ins) r m (suc o) u (omega arith) in
      let step = earlier-more (length ins) r m o in
      let w = take_more (from o + part (length ins) r m o) (from u) b y (omega arith) s.0 in
      cc

  some_cut : (m n : ℕ) (y : ℤ) → has (take (earlier (length ins) r m n) (source ins q r m)) y ≡ true → (o : ℕ) × (o < n) × (has (cut ins q r m o) y ≡ true)
  some_cut m zero y e = absurd (cc)
  some_cut m (suc n) y e = on_bool (has (take (earlier (length ins) r m n) (source ins q r m)) y)
      (λ g. let s = some_cut m n y g in let l = s.1 in (s.0, omega arith, s.2))
      (λ g.
      let f : has (take (earlier (length ins) r m n + part (length ins) r m n) (source ins q r m)) y ≡ true =
      ap (λ k. has (take k (source ins q r m)) y) (sym (earlier-more (length ins) r m n)) ∙ e in
      (n, omega arith, has-slice (earlier (length ins) r m n) (part (length ins) r m n) (source ins q r m) y (rising_source m) ∙ rw (f, g) refl))

  -- an element is in one piece only
  cut_once : (m o n u : ℕ) (y : ℤ) → has (cut ins q r m o) y ≡ true → has (cut ins q r n u) y ≡ true → (m ≡ n) × (o ≡ u)
  cut_once m o n u y e f =
      let same : m ≡ n = sym (source_mask m y (cut_source m o y e)) ∙ source_mask n y (cut_source n u y f) in
      let g : has (cut ins q r m u) y ≡ true = ap (λ v. has (cut ins q r v u) y) same ∙ f in (
        same,
        on_bool (o == u) (λ h. eqb-true o u h)
            (λ h. let other = eqb-false o u h in on_bool (ltb o u)
            (λ l. absurd (apart m o u y (ltb-true o u l) e g))
            (λ l. let k = ltb-false o u l in absurd (apart m u o y (omega arith) g e))),
      )

  -- ---- pieces by their masks as one number
  pub piece_cut : (m o : ℕ) → m < 2 ^ length ins → 0 < m + 2 ^ length ins * o → piece ins q r (m + 2 ^ length ins * o) ≡ cut ins q r m o
  piece_cut m o l z = rw (part_mod (2 ^ length ins) m o l, part_div (2 ^ length ins) m o l, ne_eqb (m + 2 ^ length ins * o) 0 (λ e. omega arith)) refl

  whole_below : (m o : ℕ) → m < 2 ^ length ins → o < 2 ^ q → m + 2 ^ length ins * o < 2 ^ (length ins + q)
  whole_below m o l k = rw (pow-add 2 (length ins) q) (below_product (2 ^ length ins) (2 ^ q) m o l k)

  out_to : (j m o : ℕ) (y : ℤ) → m < 2 ^ length ins → o < 2 ^ q → bit j o ≡ true → has (cut ins q r m o) y ≡ true → has (output ins q r j) y ≡ true
  out_to j m o y l k b e =
      let some = some_bit j o b in
      let z : 0 < m + 2 ^ length ins * o = pos_parts (2 ^ length ins) m o (pow_pos (length ins)) (omega arith) in
      let below = whole_below m o l k in
      union_to (piece ins q r) (bit (length ins + j)) 1 (2 ^ (length ins + q) - 1) (m + 2 ^ length ins * o) y (omega arith) (omega arith)
      (bit_high (length ins) j (m + 2 ^ length ins * o) ∙ ap (bit j) (part_div (2 ^ length ins) m o l) ∙ b)
      (ap (λ s. has s y) (piece_cut m o l z) ∙ e)

  out_from : (j : ℕ) (y : ℤ) → has (output ins q r j) y ≡ true → (m : ℕ) × (o : ℕ) × (m < 2 ^ length ins) × (o < 2 ^ q) × (bit j o ≡ true) ×
      (has (cut ins q r m o) y ≡ true)
  out_from j y e =
      let s = union_from (piece ins q r) (bit (length ins + j)) 1 (2 ^ (length ins + q) - 1) y e in
      let k = s.0 in
      let low = s.1 in
      let high = s.2 in
      let p = 2 ^ length ins in
      let parts : k % p + p * (k / p) ≡ k = mod_parts p k in
      let below : k < p * 2 ^ q = rw (← (pow-add 2 (length ins) q)) (omega arith) in
      let lower : k % p < p = mod-lt k (pow_pos (length ins)) in (
        k % p,
        k / p,
        lower,
        high_below k p (2 ^ q) (pow_pos (length ins)) below,
        sym (bit_high (length ins) j k) ∙ s.3,
        ap (λ x. has x y) (sym (piece_cut (k % p) (k / p) lower (omega arith))) ∙ ap (λ i. has (piece ins q r i) y) parts ∙ s.4,
      )

  output_bit : (m o : ℕ) (y : ℤ) → m < 2 ^ length ins → o < 2 ^ q → has (cut ins q r m o) y ≡ true → (j : ℕ) → has (output ins q r j) y ≡ bit j o
  output_bit m o y l k e j = on_bool (bit j o)
      (λ b. out_to j m o y l k b e ∙ sym b)
      (λ b. on_bool (has (output ins q r j) y)
      (λ f. let s = out_from j y f in
      let same = (cut_once m o s.0 s.1 y e s.5).1 in
      let t : bit j o ≡ true = ap (bit j) same ∙ s.4 in absurd (cc))
      (λ f. f ∙ sym b))

  -- an element of a piece has that mask among the outputs
  out_mask : (m o : ℕ) (y : ℤ) → m < 2 ^ length ins → o < 2 ^ q → has (cut ins q r m o) y ≡ true → mask (outputs ins q r) y ≡ o
  out_mask m o y l k e = mask-listed (output ins q r) 0 q o y k (λ j. let s : 0 + j ≡ j = omega arith in ap (λ i. has (output ins q r i) y) s ∙
      output_bit m o y l k e j)

  cut_mask : (m o : ℕ) (y : ℤ) → m < 2 ^ length ins → o < 2 ^ q → has (cut ins q r m o) y ≡ true → mask (ins ++ outputs ins q r) y ≡ m + 2 ^ length ins * o
  cut_mask m o y l k e = mask-append ins (outputs ins q r) y ∙ rw (source_mask m y (cut_source m o y e), out_mask m o y l k e) refl

  module _ (ok : Consistent ins q r) where
    from_region : (m o : ℕ) (y : ℤ) → 0 < m → m < 2 ^ length ins → mask ins y ≡ m → mask (outputs ins q r) y ≡ o → has (cut ins q r m o) y ≡ true
    from_region m o y z l e f =
        let in_source : has (source ins q r m) y ≡ true = rw (ne_eqb m 0 (λ g. omega arith)) (has-filter (λ x. mask ins x == m) (union_all ins) y
        ∙ and_from _ _ (in_union_all ins y (omega arith)) (eq-eqb (mask ins y) m e)) in
        let all = take_all (earlier (length ins) r m (2 ^ q)) (source ins q r m) (let h = length_source ok m l in omega arith) in
        let s = some_cut m (2 ^ q) y (rw all in_source) in
        let same : s.0 ≡ o = sym (out_mask m s.0 y l s.1 s.2) ∙ f in
        ap (λ v. has (cut ins q r m v) y) (sym same) ∙ s.2

    from_output : (o : ℕ) (y : ℤ) → 0 < o → mask ins y ≡ 0 → mask (outputs ins q r) y ≡ o → has (cut ins q r 0 o) y ≡ true
    from_output o y z e f =
        let j = listed_from (output ins q r) 0 q y (in_union_all (outputs ins q r) y (omega arith)) in
        let s = out_from j.0 y j.1 in
        let o_is : s.1 ≡ o = sym (out_mask s.0 s.1 y s.2 s.3 s.5) ∙ f in
        let m_is : s.0 ≡ 0 = sym (source_mask s.0 y (cut_source s.0 s.1 y s.5)) ∙ e in
        ap (λ v. has (cut ins q r 0 v) y) (sym o_is) ∙ (ap (λ v. has (cut ins q r v s.1) y) (sym m_is) ∙ s.5)

    -- the elements of a mask are those of its piece
    mask_cut : (m o : ℕ) (y : ℤ) → 0 < m + o → m < 2 ^ length ins → mask (ins ++ outputs ins q r) y ≡ m + 2 ^ length ins * o → has (cut ins q r m o) y ≡ true
    mask_cut m o y z l e =
        let once = parts_once (2 ^ length ins) (mask ins y) (mask (outputs ins q r) y) m o (mask-below ins y) l (sym (mask-append ins (outputs ins q r) y) ∙
        e) in
        on_bool (m == 0)
        (λ f. let zero_m = eqb-true m 0 f in
        ap (λ v. has (cut ins q r v o) y) zero_m ∙ from_output o y (omega arith) (once.0 ∙ zero_m) once.1)
        (λ f. let some_m = eqb-false m 0 f in from_region m o y (omega arith) l once.0 once.1)

    length_cut : (m o : ℕ) → m < 2 ^ length ins → o < 2 ^ q → length (cut ins q r m o) ≡ part (length ins) r m o
    length_cut m o l k =
        let h = earlier_rises (length ins) r m (suc o) (2 ^ q) (omega arith) in
        let s = earlier-more (length ins) r m o in
        let b = length_source ok m l in
        let d = length-drop (earlier (length ins) r m o) (source ins q r m) in
        length-take-le (part (length ins) r m o) (drop (earlier (length ins) r m o) (source ins q r m)) (omega arith)

    -- each region has its count
    count_cut : (m o : ℕ) → 0 < m + o → m < 2 ^ length ins → o < 2 ^ q → count (ins ++ outputs ins q r) (m + 2 ^ length ins * o) ≡ r (m + 2 ^ length ins * o)
    count_cut m o z l k =
        let all = ins ++ outputs ins q r in
        let some : 0 < m + 2 ^ length ins * o = pos_parts (2 ^ length ins) m o (pow_pos (length ins)) z in
        let within : (x : ℤ) → has (cut ins q r m o) x ≡ true → has (union_all all) x ≡ true = λ x e. in_union_all all x (rw (cut_mask m o x l k e) some) in
        length-filter (λ x. mask all x == m + 2 ^ length ins * o) (union_all all)
        ∙ (count_same (λ x. mask all x == m + 2 ^ length ins * o) (has (cut ins q r m o)) (union_all all)
        (λ x _. on_bool (has (cut ins q r m o) x)
        (λ e. eq-eqb (mask all x) (m + 2 ^ length ins * o) (cut_mask m o x l k e) ∙ sym e)
        (λ e. on_bool (mask all x == m + 2 ^ length ins * o)
        (λ f. let g = mask_cut m o x z l (eqb-true (mask all x) (m + 2 ^ length ins * o) f) in absurd (cc))
        (λ f. f ∙ sym e)))
        ∙ (sym (length_within (cut ins q r m o) (union_all all) (rising_cut m o) (rising_union_all all) within)
        ∙ (length_cut m o l k ∙ rw (ne_eqb (m + 2 ^ length ins * o) 0 (λ e. omega arith)) refl)))

    -- the same by the mask as one number
    pub count_output : (m : ℕ) → 0 < m → m < 2 ^ (length ins + q) → count (ins ++ outputs ins q r) m ≡ r m
    count_output m z l =
        let p = 2 ^ length ins in
        let e : m % p + p * (m / p) ≡ m = mod_parts p m in
        rw (← e) (count_cut (m % p) (m / p) (some_part p (m % p) (m / p) m e z) (mod-lt m (pow_pos (length ins)))
        (high_below m p (2 ^ q) (pow_pos (length ins)) (rw (pow-add 2 (length ins) q) at l)))

  pub rising_output : (j : ℕ) → IsRising (output ins q r j)
  rising_output j = rising_union_all (map (piece ins q r) (filter (bit (length ins + j)) (masks (length ins + q))))
