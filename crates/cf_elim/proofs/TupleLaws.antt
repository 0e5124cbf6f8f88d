-- A search has as many tuples as the product of the picked unknown says.
use Rattle.std.proofs.Common.{◌≡◌, ℕ, zero, suc, ◌-◌, ◌*◌, ◌^◌, ◌<◌, ◌≤◌, ℤ, pos, negsuc, List, [], ◌∷◌, Bool, true, false, ◌&&◌, refl, sym, ◌∙◌, ap, arith, ⊎_elim}
use Rattle.std.specs.Prelude.{filter, min, nat_lt, nat_le, unsigned_abs, int_lt, if◌then◌else◌}
use Rattle.std.specs.List.{fold}
use Rattle.std.proofs.Math.Nat.{mul-le-mul_left}
use Rattle.std.proofs.lemmas.List.Sums.{fold_push}
use Rattle.std.proofs.lemmas.Bool.{ltb-true, ltb-false, lt-ltb, leb-true, leb-false, cases_lt}
use Rattle.cf_linear.specs.Rows.{Row, entry}
use Rattle.cf_linear.specs.Systems.{System, EachRow}
use Rattle.cf_linear.specs.Steps.{is_positive, lowers, uppers, pick_at, product_of, has_greater, searches, searched, searched_by, Found, found_row, found_all, no_found}
use Rattle.cf_linear.specs.Stages.{times_bound}
use Rattle.cf_linear.proofs.BoolLemmas.{on_bool}
use Rattle.cf_linear.proofs.KindLemmas.{EachRow-tested}

-- ---- products
abbrev top : ℕ
top = 2 ^ 64 - 1

-- the product so far times the coefficient
abbrev times_entry : ℕ → ℕ → Row → ℕ
times_entry x n r = min (n * unsigned_abs (entry r x)) top

abbrev Some1 : ℕ → Row → Type 0
Some1 x r = 1 ≤ unsigned_abs (entry r x)

times_low : (n e : ℕ) → 1 ≤ e → n ≤ n * e
times_low n zero h = absurd (omega arith)
times_low n (suc e) h = omega (arith, mul-le-mul_left n (let k : 1 ≤ suc e = omega arith in k))

stays_two : (x : ℕ) (rows : List Row) (n : ℕ) → EachRow (Some1 x) rows → 2 ≤ n → 2 ≤ fold (times_entry x) n rows
stays_two x [] n h l = l
stays_two x (r ∷ rows) n h l = stays_two x rows (times_entry x n r) h.1 (let k = times_low n (unsigned_abs (entry r x)) h.0 in omega arith)

becomes_two : (x : ℕ) (rows : List Row) (n : ℕ) → EachRow (Some1 x) rows → 1 ≤ n → has_greater x rows ≡ true → 2 ≤ fold (times_entry x) n rows
becomes_two x [] n h l g = cc
becomes_two x (r ∷ rows) n h l g = on_bool (nat_lt 1 (unsigned_abs (entry r x)))
    (λ p. stays_two x rows (times_entry x n r) h.1
    (let k = ltb-true 1 (unsigned_abs (entry r x)) p in let m = times_low (unsigned_abs (entry r x)) n l in
    let c : unsigned_abs (entry r x) * n ≡ n * unsigned_abs (entry r x) = omega arith in omega arith))
    (λ p. becomes_two x rows (times_entry x n r) h.1 (let k = times_low n (unsigned_abs (entry r x)) h.0 in omega arith) (rw p at g))

-- ---- a coefficient of a bound
low_some : (k : ℤ) → is_positive k ≡ true → 1 ≤ unsigned_abs k
low_some (pos zero) e = cc
low_some (pos (suc n)) e = omega arith
low_some (negsuc n) e = omega arith

high_some : (k : ℤ) → int_lt k (pos 0) ≡ true → 1 ≤ unsigned_abs k
high_some (pos zero) e = cc
high_some (pos (suc n)) e = omega arith
high_some (negsuc n) e = omega arith

some_low : (x : ℕ) (rows : List Row) → EachRow (Some1 x) (lowers x rows)
some_low x rows = EachRow-tested (Some1 x) (λ r. is_positive (entry r x)) (λ r e. low_some (entry r x) e) rows

some_high : (x : ℕ) (rows : List Row) → EachRow (Some1 x) (uppers x rows)
some_high x rows = EachRow-tested (Some1 x) (λ r. int_lt (entry r x) (pos 0)) (λ r e. high_some (entry r x) e) rows

-- both sides have a coefficient above 1: so have both products
both_two : (x : ℕ) (rows : List Row) → has_greater x (lowers x rows) && has_greater x (uppers x rows) ≡ true →
    (2 ≤ product_of x (lowers x rows)) × (2 ≤ product_of x (uppers x rows))
both_two x rows e =
    let p = and_true (has_greater x (lowers x rows)) (has_greater x (uppers x rows)) e in
    (becomes_two x (lowers x rows) 1 (some_low x rows) (omega arith) p.0, becomes_two x (uppers x rows) 1 (some_high x rows) (omega arith) p.1)
  where
    and_true : (b c : Bool) → b && c ≡ true → (b ≡ true) × (c ≡ true)
    and_true true true h = (refl, refl)
    and_true true false h = cc
    and_true false c h = cc

-- ---- the tuples of a search
saturated : (m a b : ℕ) → min (min a m * b) m ≡ min (a * b) m
saturated m a zero = omega arith
saturated m a (suc b) = ⊎_elim
    (λ (h : a < m). let e : min a m ≡ a = omega arith in rw e refl)
    (λ (h : m ≤ a).
    let e : min a m ≡ m = omega arith in
    let p = times_low m (suc b) (omega arith) in
    let q = times_low a (suc b) (omega arith) in
    rw e (omega arith)) (cases_lt a m)

fold_product : (x : ℕ) (rows : List Row) (n : ℕ) → n ≤ top → fold (times_entry x) n rows ≡ min (n * fold (times_entry x) 1 rows) top
fold_product x [] n h = omega arith
fold_product x (r ∷ rows) n h =
    let e = unsigned_abs (entry r x) in
    let p = fold (times_entry x) 1 rows in
    let again = fold_product x rows (min (n * e) top) (omega arith) in
    let one = fold_product x rows (min (1 * e) top) (omega arith) in
    let i : 1 * e * p * n ≡ n * e * p = omega arith in
    let j : n * min (1 * e * p) top ≡ min (1 * e * p) top * n = omega arith in
    again ∙ saturated top (n * e) p ∙ sym (ap (λ z. min (n * z) top) (one ∙ saturated top (1 * e) p) ∙ ap (λ z. min z top) j ∙ saturated top (1 * e * p) n ∙
    ap (λ z. min z top) i)

abbrev on_side : ℕ → Bool → Row → Bool
on_side x lower r = if lower then is_positive (entry r x) else int_lt (entry r x) (pos 0)

abbrev next_tuples : ℕ → Bool → ℕ → Row → ℕ
next_tuples x lower n r = if searches x lower r then times_entry x n r else n

on_side_some : (x : ℕ) (lower : Bool) (r : Row) → on_side x lower r ≡ true → 1 ≤ unsigned_abs (entry r x)
on_side_some x true r e = low_some (entry r x) e
on_side_some x false r e = high_some (entry r x) e

side_product : (x : ℕ) (lower : Bool) (rows : List Row) (n : ℕ) → n ≤ top →
    fold (next_tuples x lower) n rows ≡ fold (times_entry x) n (filter (on_side x lower) rows)
side_product x lower [] n h = refl
side_product x lower (r ∷ rows) n h = on_bool (on_side x lower r)
    (λ t. on_bool (nat_lt 1 (unsigned_abs (entry r x)))
    (λ g. rw (t, g) (side_product x lower rows (times_entry x n r) (omega arith)))
    (λ g.
    let a = ltb-false 1 (unsigned_abs (entry r x)) g in
    let b = on_side_some x lower r t in
    let i : min (n * unsigned_abs (entry r x)) top ≡ n = let o : unsigned_abs (entry r x) ≡ 1 = omega arith in rw o (omega arith) in
    rw (t, g) (side_product x lower rows n h ∙ ap (λ k. fold (times_entry x) k (filter (on_side x lower) rows)) (sym i))))
    (λ t. rw (t, and_none (nat_lt 1 (unsigned_abs (entry r x)))) (side_product x lower rows n h))
  where
    and_none : (b : Bool) → (b && false) ≡ false
    and_none true = refl
    and_none false = refl

found_product : (t x : ℕ) (lower : Bool) (rows : List Row) (s : Found) →
    fold times_bound t (found_all x lower s rows).bounds ≡ fold (next_tuples x lower) (fold times_bound t s.bounds) rows
found_product t x lower [] s = refl
found_product t x lower (r ∷ rows) s =
    found_product t x lower rows (found_row x lower s r) ∙ ap (λ n. fold (next_tuples x lower) n rows)
    (on_bool (searches x lower r) (λ e. rw e (fold_push times_bound t s.bounds (s.next, unsigned_abs (entry r x)))) (λ e. rw e refl))

-- the product of the picked side
side_is : (x : ℕ) (rows : List Row) → has_greater x (lowers x rows) && has_greater x (uppers x rows) ≡ true →
    fold (times_entry x) 1 (filter (on_side x (pick_at rows x).lower) rows) ≡ (pick_at rows x).product
side_is x rows t = rw t (on_bool (nat_le (product_of x (lowers x rows)) (product_of x (uppers x rows)))
    (λ l. let h = leb-true (product_of x (lowers x rows)) (product_of x (uppers x rows)) l in rw l (omega arith))
    (λ l. let h = leb-false (product_of x (lowers x rows)) (product_of x (uppers x rows)) l in rw l (omega arith)))

pub tuples_are : (m : System) (x t : ℕ) → t ≤ top →
    fold times_bound t (searched_by m (pick_at m.inequalities x)).bounds ≡ min (t * (pick_at m.inequalities x).product) top
unfolding searched_by searched
tuples_are m x t h =
    let rows = m.inequalities in
    let c = pick_at rows x in
    on_bool (has_greater x (lowers x rows) && has_greater x (uppers x rows))
    (λ b.
    let two = both_two x rows b in
    let g : nat_lt 1 c.product ≡ true = rw b (lt-ltb 1 (min (product_of x (lowers x rows)) (product_of x (uppers x rows))) (omega arith)) in
    rw g (found_product t x c.lower rows (no_found m) ∙ side_product x c.lower rows t h ∙ fold_product x (filter (on_side x c.lower) rows) t h ∙
    ap (λ p. min (t * p) top) (side_is x rows b)))
    (λ b. rw b (omega arith))
