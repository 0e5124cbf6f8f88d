-- Dropping an unknown by exact pairs keeps the solutions.
use Rattle.std.proofs.Common.{◌≡◌, ℕ, ℤ, pos, negsuc, neg_ℤ, ◌+ℤ◌, ◌*ℤ◌, List, [], ◌∷◌, Bool, true, false, cond, refl, arith, suc, zero, ◌⊎◌, inl, inr, ⊎_elim}
use Rattle.std.specs.Prelude.{◌≤ℤ◌, ◌<ℤ◌, map, int_lt}
use Rattle.std.specs.List.{fold}
use Rattle.std.specs.Int.{int_div_euclid, int_max, int_min}
use Rattle.std.proofs.lemmas.Int.{ints, clamps}
use Rattle.std.proofs.lemmas.Bool.{cond_both, lt-ltb}
use Rattle.cf_num.proofs.Ring.{ring, mul_comm_z}
use Rattle.cf_linear.specs.Rows.{Row, Values, entry, value, is_zero, without}
use Rattle.cf_linear.specs.Systems.{System, EachRow}
use Rattle.cf_linear.specs.Steps.{lowers, uppers, free_of, pair_row, pairs_of, how_between, is_positive, dropped}
use Rattle.cf_linear.specs.Keep.{Keeps, update, how_value}
use Rattle.cf_linear.proofs.RowLemmas.{value-comb, zero_from_is_zero}
use Rattle.cf_linear.proofs.KindLemmas.{IsZero, IsNonneg, EachRow-append, EachRow-split, EachRow-filter, EachRow-with, EachRow-tested}
use Rattle.cf_linear.proofs.ValueLemmas.{value-split, value-update}
use Rattle.cf_linear.proofs.SideLemmas.{positive_so, negative_so}
use Rattle.cf_bounds.specs.Exact.{IsExact, IsFree}
use Rattle.cf_bounds.proofs.Arithmetic.{pair_from, lower_iff, upper_iff, pair_meets}

-- ---- the EachRow-tested of a row at x
abbrev pub Lower : ℕ → Row → Type 0
Lower x r = pos 0 <ℤ entry r x

abbrev pub Upper : ℕ → Row → Type 0
Upper x r = entry r x <ℤ pos 0

value-pair : (v : Values) (x : ℕ) (l u : Row) → value v (pair_row x l u) ≡ neg_ℤ (entry u x) *ℤ value v (without x l) +ℤ entry l x *ℤ value v (without x u)
value-pair v x l u = value-comb v (neg_ℤ (entry u x)) (without x l) (entry l x) (without x u)

-- ---- each pair holds
pair_holds : (v : Values) (x : ℕ) (l u : Row) → Lower x l → Upper x u → IsNonneg v l → IsNonneg v u → IsNonneg v (pair_row x l u)
pair_holds v x l u hl hu vl vu =
    let sl = value-split v x l in
    let su = value-split v x u in
    rw (value-pair v x l u) (pair_from (entry l x) (neg_ℤ (entry u x)) (value v (without x l)) (value v (without x u)) (v x) hl (omega (arith, ints))
    (omega (arith, ints)) (simp ring (omega (arith, ints))))

pairs_of_one : (v : Values) (x : ℕ) (l : Row) → Lower x l → IsNonneg v l → (high : List Row) → EachRow (Upper x) high → EachRow (IsNonneg v) high →
    EachRow (IsNonneg v) (map (λ u. pair_row x l u) high)
pairs_of_one v x l hl vl [] hu vu = tt
pairs_of_one v x l hl vl (u ∷ high) hu vu = (pair_holds v x l u hl hu.0 vl vu.0, pairs_of_one v x l hl vl high hu.1 vu.1)

pairs_hold : (v : Values) (x : ℕ) (low high : List Row) → EachRow (Lower x) low → EachRow (Upper x) high → EachRow (IsNonneg v) low →
    EachRow (IsNonneg v) high → EachRow (IsNonneg v) (pairs_of x low high)
pairs_hold v x [] high hl hu vl vu = tt
pairs_hold v x (l ∷ low) high hl hu vl vu =
    EachRow-append (IsNonneg v) (map (λ u. pair_row x l u) high) (pairs_of x low high) (pairs_of_one v x l hl.0 vl.0 high hu vu)
    (pairs_hold v x low high hl.1 hu vl.1 vu)

-- ---- a value between all bounds
abbrev low_at : Values → ℕ → Row → ℤ
low_at v x l = neg_ℤ (int_div_euclid (value v (without x l)) (entry l x))

abbrev high_at : Values → ℕ → Row → ℤ
high_at v x u = int_div_euclid (value v (without x u)) (neg_ℤ (entry u x))

abbrev top : Values → ℕ → ℤ → List Row → ℤ
top v x z rows = fold int_max z (map (λ (r, p). neg_ℤ (int_div_euclid (value v r) p)) (map (λ r. (without x r, entry r x)) rows))

abbrev bottom : Values → ℕ → ℤ → List Row → ℤ
bottom v x z rows = fold int_min z (map (λ (r, p). int_div_euclid (value v r) p) (map (λ r. (without x r, neg_ℤ (entry r x))) rows))

max_is : (P : ℤ → Type 0) (a b : ℤ) → P a → P b → P (int_max a b)
max_is P a b h k = cond_both (int_lt b a) a b P (λ e. h) (λ e. k)

max_above : (a b : ℤ) → (a ≤ℤ int_max a b) × (b ≤ℤ int_max a b)
max_above a b = omega (arith, ints, clamps)

min_below : (a b : ℤ) → (int_min a b ≤ℤ a) × (int_min a b ≤ℤ b)
min_below a b = omega (arith, ints, clamps)

top_is : (P : ℤ → Type 0) (v : Values) (x : ℕ) (z : ℤ) (rows : List Row) → P z → EachRow (λ l. P (low_at v x l)) rows → P (top v x z rows)
top_is P v x z [] h k = h
top_is P v x z (l ∷ rows) h k = top_is P v x (int_max z (low_at v x l)) rows (max_is P z (low_at v x l) h k.0) k.1

top_above : (v : Values) (x : ℕ) (z : ℤ) (rows : List Row) → (z ≤ℤ top v x z rows) × EachRow (λ l. low_at v x l ≤ℤ top v x z rows) rows
top_above v x z [] = (omega (arith, ints), tt)
top_above v x z (l ∷ rows) =
    let m = max_above z (low_at v x l) in
    let r = top_above v x (int_max z (low_at v x l)) rows in
    let r0 = r.0 in
    (omega (arith, ints, m.0, r0), (omega (arith, ints, m.1, r0), r.1))

bottom_below : (v : Values) (x : ℕ) (z : ℤ) (rows : List Row) → (bottom v x z rows ≤ℤ z) × EachRow (λ u. bottom v x z rows ≤ℤ high_at v x u) rows
bottom_below v x z [] = (omega (arith, ints), tt)
bottom_below v x z (u ∷ rows) =
    let m = min_below z (high_at v x u) in
    let r = bottom_below v x (int_min z (high_at v x u)) rows in
    let r0 = r.0 in
    (omega (arith, ints, m.0, r0), (omega (arith, ints, m.1, r0), r.1))

-- a row at a value of x
lower_at : (v : Values) (x : ℕ) (z : ℤ) (l : Row) → Lower x l → low_at v x l ≤ℤ z → IsNonneg (update v x z) l
lower_at v x z l h k = let i = (lower_iff (entry l x) (value v (without x l)) z h).1 k in rw (value-update v x z l) (omega (arith, ints))

upper_at : (v : Values) (x : ℕ) (z : ℤ) (u : Row) → Upper x u → z ≤ℤ high_at v x u → IsNonneg (update v x z) u
upper_at v x z u h k = let i = simp ring at ((upper_iff (neg_ℤ (entry u x)) (value v (without x u)) z (omega (arith, ints))).1 k) in
    rw (value-update v x z u) (omega (arith, ints, mul_comm_z (entry u x) z))

meets_at : (v : Values) (x : ℕ) (l u : Row) → Lower x l → Upper x u → IsExact x l u → IsNonneg v (pair_row x l u) → IsNonneg (update v x (low_at v x l)) u
meets_at v x l u hl hu ex h =
    let i = pair_meets (entry l x) (neg_ℤ (entry u x)) (value v (without x l)) (value v (without x u)) hl (omega (arith, ints)) ex
    (rw (value-pair v x l u) at h) in
    let j = simp ring at i in
    rw (value-update v x (low_at v x l) u) (simp ring (omega (arith, ints)))

free_at : (v : Values) (x : ℕ) (z : ℤ) (r : Row) → is_zero (entry r x) ≡ true → IsNonneg v r → IsNonneg (update v x z) r
free_at v x z r e h =
    let k = zero_from_is_zero (entry r x) e in
    let s = rw k at (value-split v x r) in
    rw (value-update v x z r, k) (omega (arith, ints))

-- ---- a row is of one of the three EachRow-tested
kind : (k : ℤ) → (is_zero k ≡ true) ⊎ ((is_positive k ≡ true) ⊎ (int_lt k (pos 0) ≡ true))
kind (pos zero) = inl refl
kind (pos (suc n)) = inr (inl (lt-ltb 0 (suc n) (omega arith)))
kind (negsuc n) = inr (inr refl)

each_of_rest : (Q : Row → Type 0) (b : Bool) (r : Row) (rows : List Row) → EachRow Q (cond b (r ∷ rows) rows) → EachRow Q rows
each_of_rest Q true r rows h = h.1
each_of_rest Q false r rows h = h

first_of : (Q : Row → Type 0) (b : Bool) (r : Row) (rows : List Row) → b ≡ true → EachRow Q (cond b (r ∷ rows) rows) → Q r
first_of Q true r rows e h = h.0
first_of Q false r rows e h = cc e

all_kinds : (Q : Row → Type 0) (x : ℕ) (rows : List Row) → EachRow Q (free_of x rows) → EachRow Q (lowers x rows) → EachRow Q (uppers x rows) → EachRow Q rows
all_kinds Q x [] f l u = tt
all_kinds Q x (r ∷ rows) f l u = (
  ⊎_elim (λ e. first_of Q (is_zero (entry r x)) r (free_of x rows) e f)
      (λ o. ⊎_elim (λ e. first_of Q (is_positive (entry r x)) r (lowers x rows) e l) (λ e. first_of Q (int_lt (entry r x) (pos 0)) r (uppers x rows) e u) o)
      (kind (entry r x)),
  all_kinds Q x rows (each_of_rest Q (is_zero (entry r x)) r (free_of x rows) f) (each_of_rest Q (is_positive (entry r x)) r (lowers x rows) l)
      (each_of_rest Q (int_lt (entry r x) (pos 0)) r (uppers x rows) u),
)

-- ---- the step
module _ (v : Values) (x : ℕ) where
  abbrev best_value : List Row → List Row → ℤ
  best_value low high = how_value v (how_between x low high)

  between : (low high : List Row) → EachRow (Lower x) low → EachRow (Upper x) high → EachRow (λ l. EachRow (IsExact x l) high) low →
      EachRow (IsNonneg v) (pairs_of x low high) →
      EachRow (IsNonneg (update v x (best_value low high))) low × EachRow (IsNonneg (update v x (best_value low high))) high
  between [] [] hl hu ex h = (tt, tt)
  between [] (u ∷ high) hl hu ex h =
      let z = bottom v x (high_at v x u) high in
      let b = bottom_below v x (high_at v x u) high in
      let below : EachRow (λ u. z ≤ℤ high_at v x u) (u ∷ high) = b in
      (tt, EachRow-with (Upper x) (λ u. z ≤ℤ high_at v x u) (IsNonneg (update v x z)) (λ r hr k. upper_at v x z r hr k) (u ∷ high) hu below)
  between (l ∷ low) high hl hu ex h =
      let z = top v x (low_at v x l) low in
      let above : EachRow (λ l. low_at v x l ≤ℤ z) (l ∷ low) = top_above v x (low_at v x l) low in
      let each = meets_all (l ∷ low) high hl hu ex h in (
        EachRow-with (Lower x) (λ l. low_at v x l ≤ℤ z) (IsNonneg (update v x z)) (λ r hr k. lower_at v x z r hr k) (l ∷ low) hl above,
        top_is (λ y. EachRow (IsNonneg (update v x y)) high) v x (low_at v x l) low each.0 each.1,
      )
    where
      meets_one : (l : Row) → Lower x l → (high : List Row) → EachRow (Upper x) high → EachRow (IsExact x l) high →
          EachRow (IsNonneg v) (map (λ u. pair_row x l u) high) → EachRow (IsNonneg (update v x (low_at v x l))) high
      meets_one l hl [] hu ex h = tt
      meets_one l hl (u ∷ high) hu ex h = (meets_at v x l u hl hu.0 ex.0 h.0, meets_one l hl high hu.1 ex.1 h.1)

      meets_all : (low high : List Row) → EachRow (Lower x) low → EachRow (Upper x) high → EachRow (λ l. EachRow (IsExact x l) high) low →
          EachRow (IsNonneg v) (pairs_of x low high) → EachRow (λ l. EachRow (IsNonneg (update v x (low_at v x l))) high) low
      meets_all [] high hl hu ex h = tt
      meets_all (l ∷ low) high hl hu ex h =
          let s = EachRow-split (IsNonneg v) (map (λ u. pair_row x l u) high) (pairs_of x low high) h in
          (meets_one l hl.0 high hu ex.0 s.0, meets_all low high hl.1 hu ex.1 s.1)

equation_at : (v : Values) (x : ℕ) (z : ℤ) (r : Row) → entry r x ≡ pos 0 → IsZero v r → IsZero (update v x z) r
equation_at v x z r k h =
    let s = rw k at (value-split v x r) in
    rw (value-update v x z r, k) (omega (arith, ints))

pub dropped_keeps : (m : System) (x : ℕ) → IsFree x m.equations → EachRow (λ l. EachRow (IsExact x l) (uppers x m.inequalities)) (lowers x m.inequalities) →
    Keeps m (dropped m x)
unfolding dropped
dropped_keeps m x free ex =
    let rows = m.inequalities in
    let low = lowers x rows in
    let high = uppers x rows in
    let hl = EachRow-tested (Lower x) (λ r. is_positive (entry r x)) (λ r e. positive_so (entry r x) e) rows in
    let hu = EachRow-tested (Upper x) (λ r. int_lt (entry r x) (pos 0)) (λ r e. negative_so (entry r x) e) rows in
    record {
      forth = λ v _ h. (
        v,
        (λ c l. refl),
        tt,
        tt,
        record {
          zero = h.zero;
          nonneg = EachRow-append (IsNonneg v) (free_of x rows) (pairs_of x low high) (EachRow-filter (IsNonneg v) (λ r. is_zero (entry r x)) rows h.nonneg)
              (pairs_hold v x low high hl hu (EachRow-filter (IsNonneg v) (λ r. is_positive (entry r x)) rows h.nonneg)
              (EachRow-filter (IsNonneg v) (λ r. int_lt (entry r x) (pos 0)) rows h.nonneg));
        },
      );
      back = λ v _ _ _ h.
          let s = EachRow-split (IsNonneg v) (free_of x rows) (pairs_of x low high) h.nonneg in
          let z = how_value v (how_between x low high) in
          let b = between v x low high hl hu ex s.1 in
          let zeros = EachRow-tested (λ r. is_zero (entry r x) ≡ true) (λ r. is_zero (entry r x)) (λ r e. e) rows in
          record {
            zero = EachRow-with (λ r. entry r x ≡ pos 0) (IsZero v) (IsZero (update v x z)) (λ r k i. equation_at v x z r k i) m.equations free h.zero;
            nonneg = all_kinds (IsNonneg (update v x z)) x rows
                (EachRow-with (λ r. is_zero (entry r x) ≡ true) (IsNonneg v) (IsNonneg (update v x z)) (λ r k i. free_at v x z r k i) (free_of x rows) zeros
                s.0) b.0 b.1;
          };
    }
