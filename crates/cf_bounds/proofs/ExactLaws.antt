-- The picked unknown is one of the unknowns, and where its product is 1 its pairs of bounds are exact.
use Rattle.std.proofs.Common.{◌≡◌, ℕ, ◌*◌, ◌-◌, ◌^◌, ◌<◌, ◌≤◌, pos, neg_ℤ, List, [], ◌∷◌, true, false, ◌&&◌, inl, inr, ⊎_elim, refl, arith}
use Rattle.std.specs.Prelude.{map, min, unsigned_abs, nat_lt, int_lt, if◌then◌else◌}
use Rattle.std.specs.List.{fold}
use Rattle.std.proofs.lemmas.Int.{ints}
use Rattle.std.proofs.lemmas.Nat.{mul-le}
use Rattle.std.proofs.lemmas.Bool.{cond_both, ltb-true, ltb-false, and_cases, and_parts, or_parts}
use Rattle.cf_linear.specs.Rows.{Row, entry}
use Rattle.cf_linear.specs.Systems.{EachRow}
use Rattle.cf_linear.specs.Steps.{Pick, pick_at, is_better, best, pick, has_greater, product_of, lowers, uppers, is_positive}
use Rattle.cf_linear.specs.Keep.{In}
use Rattle.cf_linear.proofs.BoolLemmas.{on_bool}
use Rattle.cf_linear.proofs.KindLemmas.{EachRow-tested, EachRow-with, EachRow-weaker}
use Rattle.cf_linear.proofs.SideLemmas.{positive_so, negative_so}
use Rattle.cf_bounds.specs.Exact.{IsExact, AreExact}
use Rattle.cf_bounds.specs.Sides.{times_entry}
use Rattle.cf_bounds.proofs.DropLemmas.{Lower, Upper}

best_is : (P : Pick → Type 0) (rows : List Row) (us : List ℕ) (c : Pick) → P c → ((u : ℕ) → In u us → P (pick_at rows u)) → P (best c (map (pick_at rows) us))
best_is P rows [] c h k = h
best_is P rows (u ∷ us) c h k =
    best_is P rows us (if is_better (pick_at rows u) c then pick_at rows u else c)
    (cond_both (is_better (pick_at rows u) c) (pick_at rows u) c P (λ _. k u (inl refl)) (λ _. h)) (λ w i. k w (inr i))

-- what holds of the pick at each unknown holds of the best one
pub pick_is : (P : Pick → Type 0) (rows : List Row) (x : ℕ) (us : List ℕ) → ((u : ℕ) → In u (x ∷ us) → P (pick_at rows u)) → P (pick rows x us)
unfolding pick
pick_is P rows x us h = best_is P rows us (pick_at rows x) (h x (inl refl)) (λ u i. h u (inr i))

pub pick_in : (rows : List Row) (x : ℕ) (us : List ℕ) → In (pick rows x us).unknown (x ∷ us)
pick_in rows x us = pick_is (λ c. In c.unknown (x ∷ us)) rows x us (λ u i. i)

-- ---- products of coefficients of at least 1
abbrev HasEntry : ℕ → Row → Type 0
HasEntry x r = 1 ≤ unsigned_abs (entry r x)

times_low : (n k : ℕ) → 1 ≤ n → n ≤ 2 ^ 64 - 1 → 1 ≤ k → (n ≤ min (n * k) (2 ^ 64 - 1)) × (min (n * k) (2 ^ 64 - 1) ≤ 2 ^ 64 - 1)
times_low n k h l i = let m = mul-le n 1 n k (omega arith) i in (omega arith, omega arith)

times_two : (n k : ℕ) → 1 ≤ n → 1 < k → 2 ≤ min (n * k) (2 ^ 64 - 1)
times_two n k h i = let m = mul-le 1 2 n k h (omega arith) in omega arith

fold_low : (x n : ℕ) (rows : List Row) → 1 ≤ n → n ≤ 2 ^ 64 - 1 → EachRow (HasEntry x) rows → n ≤ fold (times_entry x) n rows
fold_low x n [] h l s = omega arith
fold_low x n (r ∷ rows) h l s =
    let t = times_low n (unsigned_abs (entry r x)) h l s.0 in
    let t0 = t.0 in
    let again = fold_low x (times_entry x n r) rows (omega (arith, t0)) t.1 s.1 in
    omega (arith, t0, again)

fold_two : (x n : ℕ) (rows : List Row) → 1 ≤ n → n ≤ 2 ^ 64 - 1 → EachRow (HasEntry x) rows → has_greater x rows ≡ true → 2 ≤ fold (times_entry x) n rows
fold_two x n [] h l s e = cc e
fold_two x n (r ∷ rows) h l s e =
    let k = unsigned_abs (entry r x) in
    let t = times_low n k h l s.0 in
    let t0 = t.0 in
    on_bool (nat_lt 1 k)
    (λ g. let two = times_two n k h (ltb-true 1 k g) in let again = fold_low x (times_entry x n r) rows (omega (arith, t0)) t.1 s.1 in
    omega (arith, two, again))
    (λ g. fold_two x (times_entry x n r) rows (omega (arith, t0)) t.1 s.1 (rw g at e))

some_low : (x : ℕ) (rows : List Row) → EachRow (HasEntry x) (lowers x rows)
some_low x rows = EachRow-tested (HasEntry x) (λ r. is_positive (entry r x)) (λ r e. let p = positive_so (entry r x) e in omega (arith, ints)) rows

some_high : (x : ℕ) (rows : List Row) → EachRow (HasEntry x) (uppers x rows)
some_high x rows = EachRow-tested (HasEntry x) (λ r. int_lt (entry r x) (pos 0)) (λ r e. let p = negative_so (entry r x) e in omega (arith, ints)) rows

two_least : (p q : ℕ) → 2 ≤ p → 2 ≤ q → min p q ≤ 1 → ⊥
two_least p q h k l = absurd (omega arith)

-- ---- a side without coefficients above 1
none_greater : (x : ℕ) (rows : List Row) → has_greater x rows ≡ false → EachRow (λ r. unsigned_abs (entry r x) ≤ 1) rows
none_greater x [] e = tt
none_greater x (r ∷ rows) e =
    let p = or_parts (nat_lt 1 (unsigned_abs (entry r x))) (has_greater x rows) e in
    (ltb-false 1 (unsigned_abs (entry r x)) p.0, none_greater x rows p.1)

all_rows : (Q : Row → Type 0) → ((r : Row) → Q r) → (rows : List Row) → EachRow Q rows
all_rows Q f [] = tt
all_rows Q f (r ∷ rows) = (f r, all_rows Q f rows)

exact_low : (x : ℕ) (rows : List Row) → has_greater x (lowers x rows) ≡ false → AreExact x rows
exact_low x rows e =
    EachRow-with (Lower x) (λ r. unsigned_abs (entry r x) ≤ 1) (λ l. EachRow (IsExact x l) (uppers x rows))
    (λ l p q. all_rows (IsExact x l) (λ u. inl (omega (arith, ints))) (uppers x rows)) (lowers x rows)
    (EachRow-tested (Lower x) (λ r. is_positive (entry r x)) (λ r h. positive_so (entry r x) h) rows) (none_greater x (lowers x rows) e)

exact_high : (x : ℕ) (rows : List Row) → has_greater x (uppers x rows) ≡ false → AreExact x rows
exact_high x rows e =
    let ups = EachRow-with (Upper x) (λ r. unsigned_abs (entry r x) ≤ 1) (λ u. neg_ℤ (entry u x) ≡ pos 1) (λ u p q. omega (arith, ints)) (uppers x rows)
    (EachRow-tested (Upper x) (λ r. int_lt (entry r x) (pos 0)) (λ r h. negative_so (entry r x) h) rows) (none_greater x (uppers x rows) e) in
    all_rows (λ l. EachRow (IsExact x l) (uppers x rows))
    (λ l. EachRow-weaker (λ u. neg_ℤ (entry u x) ≡ pos 1) (IsExact x l) (λ u i. inr i) (uppers x rows) ups) (lowers x rows)

pick_at_exact : (rows : List Row) (x : ℕ) → (pick_at rows x).product ≤ 1 → AreExact x rows
pick_at_exact rows x h = on_bool (has_greater x (lowers x rows) && has_greater x (uppers x rows))
    (λ e.
    let g = and_parts (has_greater x (lowers x rows)) (has_greater x (uppers x rows)) e in
    let least : min (product_of x (lowers x rows)) (product_of x (uppers x rows)) ≤ 1 = rw e at h in
    absurd (two_least (product_of x (lowers x rows)) (product_of x (uppers x rows))
    (fold_two x 1 (lowers x rows) (omega arith) (omega arith) (some_low x rows) g.0)
    (fold_two x 1 (uppers x rows) (omega arith) (omega arith) (some_high x rows) g.1) least))
    (λ e. ⊎_elim (λ g. exact_low x rows g) (λ g. exact_high x rows g) (and_cases (has_greater x (lowers x rows)) (has_greater x (uppers x rows)) e))

-- where the picked product is 1, no search is needed
pub pick_exact : (rows : List Row) (x : ℕ) (us : List ℕ) → (pick rows x us).product ≤ 1 → AreExact (pick rows x us).unknown rows
pick_exact rows x us = pick_is (λ c. c.product ≤ 1 → AreExact c.unknown rows) rows x us (λ u i h. pick_at_exact rows u h)
