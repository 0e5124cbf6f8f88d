-- Rows of regions at values that hold counts.
use Rattle.std.proofs.Common.{◌≡◌, ◌↔◌, ℕ, zero, suc, ◌+◌, ◌-◌, ◌^◌, ◌<◌, ◌≤◌, ◌==◌, ℤ, pos, ◌+ℤ◌, ◌*ℤ◌, Bool, true, cond, [], ◌∷◌, map, filter, subst, refl}
use Rattle.std.proofs.Common.{ap, sym, ◌∙◌, arith, sum_by}
use Rattle.std.specs.List.{range_with_len}
use Rattle.std.specs.Prelude.{◌≤ℤ◌}
use Rattle.std.proofs.lemmas.Int.{ints}
use Rattle.std.proofs.lemmas.Bool.{cond_both, eqb-true, eqb-false}
use Rattle.std.proofs.lemmas.List.Sums.{sum_by-cons}
use Rattle.cf_linear.specs.Rows.{Row, Values, value, put}
use Rattle.cf_linear.specs.Systems.{EachRow}
use Rattle.cf_linear.specs.Layout.{Layout, set_count, region_column, region_row}
use Rattle.cf_linear.specs.Cases.{none_rows}
use Rattle.cf_linear.proofs.BoolLemmas.{on_bool}
use Rattle.cf_venn.proofs.CountLemmas.{total, each_zero, zero_each}

-- ---- each row of a range of masks, and of those that pass
pub each_at : (Q : Row → Type 0) (f : ℕ → Row) (a n : ℕ) → EachRow Q (map f (range_with_len a n)) → (m : ℕ) → a ≤ m → m < a + n → Q (f m)
each_at Q f a zero h m l k = absurd (omega arith)
each_at Q f a (suc n) h m l k = on_bool (m == a)
    (λ s. subst (λ i. Q (f i)) (sym (eqb-true m a s)) h.0)
    (λ s. let d = eqb-false m a s in each_at Q f (a + 1) n h.1 m (omega arith) (omega arith))

pub each_of : (Q : Row → Type 0) (f : ℕ → Row) (a n : ℕ) → ((m : ℕ) → a ≤ m → m < a + n → Q (f m)) → EachRow Q (map f (range_with_len a n))
each_of Q f a zero h = tt
each_of Q f a (suc n) h = (h a (omega arith) (omega arith), each_of Q f (a + 1) n (λ m l k. h m (omega arith) (omega arith)))

passing_at : (Q : Row → Type 0) (f : ℕ → Row) (t : ℕ → Bool) (a n : ℕ) → EachRow Q (map f (filter t (range_with_len a n))) → (m : ℕ) → a ≤ m → m < a + n →
    t m ≡ true → Q (f m)
passing_at Q f t a zero h m l k e = absurd (omega arith)
passing_at Q f t a (suc n) h m l k e =
    let rest = filter t (range_with_len (a + 1) n) in
    on_bool (m == a)
    (λ s.
    let here : t a ≡ true = ap t (sym (eqb-true m a s)) ∙ e in
    let g : EachRow Q (map f (a ∷ rest)) = subst (λ b. EachRow Q (map f (cond b (a ∷ rest) rest))) here h in
    subst (λ i. Q (f i)) (sym (eqb-true m a s)) g.0)
    (λ s.
    let d = eqb-false m a s in
    let g : EachRow Q (map f rest) = cond_both (t a) (a ∷ rest) rest (λ ms. EachRow Q (map f ms) → EachRow Q (map f rest)) (λ _ i. i.1) (λ _ i. i) h in
    passing_at Q f t (a + 1) n g m (omega arith) (omega arith) e)

passing_of : (Q : Row → Type 0) (f : ℕ → Row) (t : ℕ → Bool) (a n : ℕ) → ((m : ℕ) → a ≤ m → m < a + n → t m ≡ true → Q (f m)) →
    EachRow Q (map f (filter t (range_with_len a n)))
passing_of Q f t a zero h = tt
passing_of Q f t a (suc n) h =
    let rest = filter t (range_with_len (a + 1) n) in
    let later : EachRow Q (map f rest) = passing_of Q f t (a + 1) n (λ m l k e. h m (omega arith) (omega arith) e) in
    cond_both (t a) (a ∷ rest) rest (λ ms. EachRow Q (map f ms)) (λ e. (h a (omega arith) (omega arith) e, later)) (λ e. later)

-- ---- values of rows
row_total : (v : Values) (f : ℕ → ℕ) (t : ℕ → Bool) (r : ℕ → ℕ) (a n : ℕ) → ((m : ℕ) → a ≤ m → m < a + n → v (f m) ≡ pos (r m)) →
    value v (map (λ m. (f m, pos 1)) (filter t (range_with_len a n))) ≡ pos (sum_by (λ m. cond (t m) (r m) 0) (range_with_len a n))
row_total v f t r a zero h = refl
row_total v f t r a (suc n) h =
    let e = sum_by-cons (λ m. cond (t m) (r m) 0) a (range_with_len (a + 1) n) in
    let i = row_total v f t r (a + 1) n (λ m l k. h m (omega arith) (omega arith)) in
    let g = h a (omega arith) (omega arith) in
    on_bool (t a)
    (λ b. let s = rw b at e in rw (b, g, i, s) (omega (arith, ints)))
    (λ b. let s = rw b at e in rw (b, i, s) (omega (arith, ints)))

unit_zero : (x : ℤ) (n : ℕ) → x ≡ pos n → pos 1 *ℤ x +ℤ pos 0 ≡ pos 0 → n ≡ 0
unit_zero x n e f = omega (arith, ints)

zero_unit : (x : ℤ) (n : ℕ) → x ≡ pos n → n ≡ 0 → pos 1 *ℤ x +ℤ pos 0 ≡ pos 0
zero_unit x n e f = omega (arith, ints)

-- ---- rows of regions
module _ (l : Layout) (v : Values) (r : ℕ → ℕ) (held : (m : ℕ) → 1 ≤ m → m < 2 ^ set_count l → v (region_column l m) ≡ pos (r m)) where
  pub region_total : (t : ℕ → Bool) → value v (region_row l t) ≡ pos (total (set_count l) t r)
  region_total t = row_total v (region_column l) t r 1 (2 ^ set_count l - 1) (λ m a b. held m a (omega arith))

  pub none_total : (t : ℕ → Bool) → EachRow (λ k. value v k ≡ pos 0) (none_rows l t) ↔ (total (set_count l) t r ≡ 0)
  none_total t =
      let n = 2 ^ set_count l - 1 in
      let f : ℕ → Row = λ m. put (region_column l m) (pos 1) [] in
      let Q : Row → Type 0 = λ k. value v k ≡ pos 0 in (
        λ h. zero_each t r 1 n (λ m a b e. unit_zero (v (region_column l m)) (r m) (held m a (omega arith)) (passing_at Q f t 1 n h m a b e)),
        λ z. passing_of Q f t 1 n (λ m a b e. zero_unit (v (region_column l m)) (r m) (held m a (omega arith)) (each_zero t r 1 n z m a b e)),
      )

  pub some_total : (t : ℕ → Bool) → (1 ≤ total (set_count l) t r) ↔ (pos 1 ≤ℤ value v (region_row l t))
  some_total t = one_le (value v (region_row l t)) (total (set_count l) t r) (region_total t)
    where
      one_le : (z : ℤ) (n : ℕ) → z ≡ pos n → (1 ≤ n) ↔ (pos 1 ≤ℤ z)
      one_le z n e = (λ h. omega (arith, ints), λ h. omega (arith, ints))
