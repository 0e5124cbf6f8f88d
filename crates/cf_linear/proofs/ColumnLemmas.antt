-- Places of levels, and the regions of a set form.
use Rattle.std.proofs.Common.{◌≡◌, ℕ, zero, suc, ◌+◌, ◌-◌, ◌/◌, ◌%◌, ◌^◌, ◌<◌, ◌≤◌, ◌==◌, pos, List, [], ◌∷◌, ◌++◌, Bool, true, false, length, map, filter, bit_and, refl, ap, sym, ◌∙◌, arith, append_assoc}
use Rattle.std.specs.List.{range_with_len}
use Rattle.std.proofs.lemmas.Nat.{shr-shr, and_mask}
use Rattle.cf_linear.specs.Layout.{bit, place, has_level}
use Rattle.cf_linear.specs.Rows.{Row, AreBelow, row_passes}
use Rattle.cf_linear.proofs.BoolLemmas.{on_bool}
use Rattle.cf_linear.proofs.Joining.{AreBelow-raise, AreBelow-append}

pub has_below : (x : ℕ) (xs : List ℕ) → place x xs < length xs → has_level xs x ≡ true
has_below x [] h = absurd (omega arith)
has_below x (y ∷ ys) h = on_bool (y == x) (λ e. rw e refl) (λ e. let k = rw e at h in rw (e, has_below x ys (omega arith)) refl)

pub has_not : (x : ℕ) (xs : List ℕ) → length xs ≤ place x xs → has_level xs x ≡ false
has_not x [] h = refl
has_not x (y ∷ ys) h = on_bool (y == x) (λ e. let k = rw e at h in absurd (omega arith)) (λ e. let k = rw e at h in rw (e, has_not x ys (omega arith)) refl)

pub place-append : (x : ℕ) (xs ys : List ℕ) → place x xs < length xs → place x (xs ++ ys) ≡ place x xs
place-append x [] ys h = absurd (omega arith)
place-append x (y ∷ xs) ys h = on_bool (y == x) (λ e. rw e refl) (λ e. let k = rw e at h in rw (e, place-append x xs ys (omega arith)) refl)

pub place-append_after : (x : ℕ) (xs ys : List ℕ) → length xs ≤ place x xs → place x (xs ++ ys) ≡ place x xs + place x ys
place-append_after x [] ys h = omega arith
place-append_after x (y ∷ xs) ys h = on_bool (y == x) (λ e. let k = rw e at h in absurd (omega arith)) (λ e. let k = rw e at h in
    rw (e, place-append_after x xs ys (omega arith)) (omega arith))

bit_shift : (i m : ℕ) → (m / 2 ^ i % 2 == 1) ≡ bit i m
bit_shift zero m = let e : m / 2 ^ 0 ≡ m = omega arith in rw e refl
bit_shift (suc i) m =
    let s : 1 + i ≡ suc i = omega arith in
    let e : m / 2 ^ suc i ≡ m / 2 / 2 ^ i = sym (shr-shr m 1 i ∙ ap (λ k. m / 2 ^ k) s) in
    rw e (bit_shift i (m / 2))

pub bit_by_and : (i m : ℕ) → (bit_and (m / 2 ^ i) 1 == 1) ≡ bit i m
bit_by_and i m = rw (and_mask (m / 2 ^ i) 1) (bit_shift i m)

range_next : (m n : ℕ) → m < n → range_with_len m (n - m) ≡ m ∷ range_with_len (m + 1) (n - (m + 1))
range_next m n h = let e : n - m ≡ suc (n - (m + 1)) = omega arith in rw e refl

-- ---- the columns f of the masks that pass, from mask m on
module _ (f : ℕ → ℕ) (p : ℕ → Bool) (out whole : Row) (m n : ℕ) where
  pub region_step : m < n → p m ≡ true → out ++ map (λ k. (f k, pos 1)) (filter p (range_with_len m (n - m))) ≡ whole →
      (out ++ (f m, pos 1) ∷ []) ++ map (λ k. (f k, pos 1)) (filter p (range_with_len (m + 1) (n - (m + 1)))) ≡ whole
  region_step h e w = let k = rw (range_next m n h, e) at w in rw append_assoc k

  pub region_skip : m < n → p m ≡ false → out ++ map (λ k. (f k, pos 1)) (filter p (range_with_len m (n - m))) ≡ whole →
      out ++ map (λ k. (f k, pos 1)) (filter p (range_with_len (m + 1) (n - (m + 1)))) ≡ whole
  region_skip h e w = rw (range_next m n h, e) at w

pub below_more : (out : Row) (c d : ℕ) → c < d → AreBelow c out → AreBelow d (out ++ (c, pos 1) ∷ [])
below_more out c d h p = AreBelow-append d out ((c, pos 1) ∷ []) (AreBelow-raise c d out (omega arith) p) (h, tt)

pub ones_within : (f : ℕ → ℕ) (ms : List ℕ) → row_passes (map (λ m. (f m, pos 1)) ms) ≡ false
ones_within f [] = refl
ones_within f (m ∷ ms) = ones_within f ms
