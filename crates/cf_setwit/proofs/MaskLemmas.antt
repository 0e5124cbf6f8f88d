-- Masks one more at a time, and their bounds.
use Rattle.std.proofs.Common.{◌≡◌, ℕ, ◌+◌, ◌-◌, ◌*◌, ◌/◌, ◌^◌, ◌<◌, ◌≤◌, Bool, cond, List, [], ◌∷◌, ◌++◌, filter, take, length, get_or, sym, ap, pow-add}
use Rattle.std.proofs.Common.{pow_pos, arith, ◌∙◌}
use Rattle.std.specs.List.{range_with_len, All}
use Rattle.std.proofs.Math.Nat.{div-le_of_le-mul}
use Rattle.std.proofs.lemmas.Nat.{mul-add-lt}
use Rattle.std.proofs.lemmas.List.{map-id}
use Rattle.std.proofs.lemmas.List.Elements.{All-from_get_or, All-filter, filter_more}
use Rattle.std.proofs.lemmas.List.FromFn.{filter_of_map_range_with_len_more, length-range_with_len, get_or-range_with_len}
use Rattle.cf_linear.specs.Layout.{masks}

filter_range_more : (p : ℕ → Bool) (a n j : ℕ) → a + n ≡ j → filter p (range_with_len a (n + 1)) ≡ filter p (range_with_len a n) ++ cond (p j) (j ∷ []) []
filter_range_more p a n j e =
    ap (filter p) (sym (map-id (range_with_len a (n + 1)))) ∙ filter_of_map_range_with_len_more p (λ m. m) a n j e ∙
    ap (λ ms. filter p ms ++ cond (p j) (j ∷ []) []) (map-id (range_with_len a n))

-- one mask more, where it passes
pub mask_next : (p : ℕ → Bool) (m : ℕ) (t : Bool) (out next : List ℕ) → 1 ≤ m → t ≡ p m → next ≡ out ++ cond t (m ∷ []) [] →
    out ≡ filter p (range_with_len 1 (m - 1)) → next ≡ filter p (range_with_len 1 (m + 1 - 1))
mask_next p m t out next h e n o =
    let k : m + 1 - 1 ≡ m - 1 + 1 = omega arith in
    rw (k, filter_range_more p 1 (m - 1) m (omega arith), ← o, ← e) n

-- one set more, where it passes
pub set_next : (p : ℕ → Bool) (xs : List ℕ) (i : ℕ) (t : Bool) (out next : List ℕ) → i < length xs → t ≡ p (get_or xs i 0) → next ≡ out ++
    cond t (get_or xs i 0 ∷ []) [] → out ≡ filter p (take i xs) → next ≡ filter p (take (i + 1) xs)
set_next p xs i t out next h e n o = rw (filter_more p xs i 0 h, ← o, ← e) n

range_below : (a n b : ℕ) → a + n ≡ b → (i : ℕ) → i < length (range_with_len a n) → get_or (range_with_len a n) i 0 < b
range_below a n b e i h =
    let k : i < n = rw (length-range_with_len a n) at h in
    rw (get_or-range_with_len a n i 0 k) (omega arith)

-- masks that pass are masks
pub masks_below : (p : ℕ → Bool) (n : ℕ) → All (λ m. m < 2 ^ n) (filter p (masks n))
masks_below p n =
    let s = pow_pos n in
    All-filter p (λ m. m < 2 ^ n) (masks n) (All-from_get_or (λ m. m < 2 ^ n) (masks n) 0 (range_below 1 (2 ^ n - 1) (2 ^ n) (omega arith)))

-- ---- a mask is a choice m of input sets, and o of output sets
pub both_below : (p q m o : ℕ) → m < 2 ^ p → o < 2 ^ q → m + 2 ^ p * o < 2 ^ (p + q)
both_below p q m o h k =
    let t : o * 2 ^ p + m < 2 ^ p * 2 ^ q = mul-add-lt o (2 ^ p) m (2 ^ q) k h in
    rw (pow-add 2 p q) (omega (arith, t))

pub outputs_within : (p q r : ℕ) → r < 2 ^ (p + q) → r / 2 ^ p ≤ 2 ^ q
outputs_within p q r h = div-le_of_le-mul (2 ^ p) (let e = pow-add 2 p q in omega (arith, e))
