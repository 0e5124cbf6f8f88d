-- A formula at the greatest of its true test points, and beyond all of them.
use Rattle.std.proofs.Common.{◌≡◌, ◌≢◌, ℕ, ◌<◌, ℤ, pos, neg_ℤ, ◌+ℤ◌, ◌*ℤ◌, List, [], ◌∷◌, Bool, refl, ◌∙◌, arith, ◌⊎◌, inl, inr, ⊎_elim}
use Rattle.std.specs.Prelude.{◌≤ℤ◌, ◌<ℤ◌}
use Rattle.std.specs.Int.{int_div_euclid}
use Rattle.std.proofs.lemmas.Int.{ints}
use Rattle.cf_num.proofs.Ring.{ring, mul_comm_z}
use Rattle.cf_num.proofs.Orders.{mul-le_z, le_or_lt_z}
use Rattle.cf_linear.specs.Rows.{Row, Values, entry, value, without}
use Rattle.cf_linear.specs.Systems.{EachRow}
use Rattle.cf_linear.specs.Keep.{update}
use Rattle.cf_linear.proofs.KindLemmas.{Below, EachRow-split, EachRow-append, EachRow-weaker}
use Rattle.cf_linear.proofs.ValueLemmas.{value-update}
use Rattle.cf_formula.specs.Formulas.{Formula, always, never, at_least, equal, both, either, Holds, Throughout}
use Rattle.cf_formula.specs.Tight.{sign, coef, points, zeros, others, beyond}
use Rattle.cf_formula.proofs.RewritingLaws.{conj_two, disj_two}
use Rattle.cf_formula.proofs.RowLists.{InRows}
use Rattle.cf_formula.proofs.PointLemmas.{lower_iff, upper_iff, sign_cases, sign_both}

-- ---- the greatest bound that is at most z
abbrev pub Reached : (Row → ℤ) → ℤ → ℤ → Row → Type 0
Reached bound z y q = bound q ≤ℤ z → bound q ≤ℤ y

pub record Greatest (bound : Row → ℤ) (z : ℤ) (rows : List Row) : Type 0 where
  pub row : Row
  pub among : InRows row rows
  pub low : bound row ≤ℤ z
  pub reached : EachRow (Reached bound z (bound row)) rows

pub greatest_below : (bound : Row → ℤ) (z : ℤ) (rows : List Row) → EachRow (λ r. z <ℤ bound r) rows ⊎ Greatest bound z rows
greatest_below bound z [] = inl tt
greatest_below bound z (r ∷ rows) =
    ⊎_elim (λ low. inr (⊎_elim (first low) (second low) (greatest_below bound z rows)))
    (λ high. ⊎_elim (λ h. inl (high, h)) (λ g. inr (later g (λ i. absurd (omega (arith, ints))))) (greatest_below bound z rows))
    (le_or_lt_z (bound r) z)
  where
    first : bound r ≤ℤ z → EachRow (λ q. z <ℤ bound q) rows → Greatest bound z (r ∷ rows)
    first low h = record {
      row = r;
      among = inl refl;
      low = low;
      reached = ((λ i. omega (arith, ints)), EachRow-weaker (λ q. z <ℤ bound q) (Reached bound z (bound r)) (λ q h i. absurd (omega (arith, ints))) rows h);
    }

    later : (g : Greatest bound z rows) → Reached bound z (bound g.row) r → Greatest bound z (r ∷ rows)
    later g h = record { row = g.row; among = inr g.among; low = g.low; reached = (h, g.reached) }

    second : bound r ≤ℤ z → Greatest bound z rows → Greatest bound z (r ∷ rows)
    second low g =
        ⊎_elim
        (λ (le : bound g.row ≤ℤ bound r). record {
          row = r;
          among = inl refl;
          low = low;
          reached = (
            (λ i. omega (arith, ints)),
            EachRow-weaker (Reached bound z (bound g.row)) (Reached bound z (bound r)) (λ q h i. let j = h i in omega (arith, ints)) rows g.reached,
          );
        })
        (λ (lt : bound r <ℤ bound g.row). later g (λ i. omega (arith, ints)))
        (le_or_lt_z (bound g.row) (bound r))

-- ---- rows and their bounds at values of x, which are counted so that the bounds of the side are lower ones
module _ (v : Values) (lower : Bool) (x : ℕ) where
  abbrev pub at : ℤ → Values
  at y = update v x (sign lower *ℤ y)

  abbrev pub rest : Row → ℤ
  rest r = value v (without x r)

  abbrev pub bound : Row → ℤ
  bound r = neg_ℤ (int_div_euclid (rest r) (coef lower x r))

  abbrev pub cap : Row → ℤ
  cap r = int_div_euclid (rest r) (neg_ℤ (coef lower x r))

  abbrev pub Positive : Row → Type 0
  Positive r = pos 0 <ℤ coef lower x r

  abbrev pub Negative : Row → Type 0
  Negative r = coef lower x r <ℤ pos 0

  pub value-at : (y : ℤ) (r : Row) → value (at y) r ≡ coef lower x r *ℤ y +ℤ rest r
  value-at y r = value-update v x (sign lower *ℤ y) r ∙ simp ring (omega (arith, ints))

  pub reached_at : (y : ℤ) (r : Row) → Positive r → bound r ≤ℤ y → pos 0 ≤ℤ value (at y) r
  reached_at y r p h = rw (value-at y r) ((lower_iff (coef lower x r) (rest r) y p).1 h)

  pub reached_from : (y : ℤ) (r : Row) → Positive r → pos 0 ≤ℤ value (at y) r → bound r ≤ℤ y
  reached_from y r p h = (lower_iff (coef lower x r) (rest r) y p).0 (rw (value-at y r) at h)

  -- a row falls or rises with y
  pub falls : (y z : ℤ) (r : Row) → y ≤ℤ z → Positive r → value (at y) r ≤ℤ value (at z) r
  falls y z r h p = rw (value-at y r, value-at z r) (let i = mul-le_z (coef lower x r) y z (omega (arith, ints)) h in omega (arith, ints))

  pub rises : (y z : ℤ) (r : Row) → y ≤ℤ z → Negative r → value (at z) r ≤ℤ value (at y) r
  rises y z r h p =
      rw (value-at y r, value-at z r)
      (let i = simp ring at (mul-le_z (neg_ℤ (coef lower x r)) y z (omega (arith, ints)) h) in
      omega (arith, ints, mul_comm_z (coef lower x r) y, mul_comm_z (coef lower x r) z))

  pub stays : (y z : ℤ) (r : Row) → coef lower x r ≡ pos 0 → value (at y) r ≡ value (at z) r
  stays y z r e = rw (value-at y r, value-at z r, e) (omega (arith, ints))

  no_coef : (r : Row) → entry r x ≡ pos 0 → coef lower x r ≡ pos 0
  no_coef r e = rw e (omega (arith, ints))

  abbrev pub Apart : ℤ → Row → Type 0
  Apart z r = value (at z) r ≢ pos 0

  -- ---- at a lesser y that reaches each point that z reaches, where no equation that holds x is true at z
  pub holds_below : (y z : ℤ) → y ≤ℤ z → (f : Formula) → EachRow (Reached bound z y) (points lower x f) → EachRow (Apart z) (zeros x f) → Holds (at z) f →
      Holds (at y) f
  holds_below y z le always q a h = tt
  holds_below y z le never q a h = h
  holds_below y z le (at_least r) q a h =
      sign_cases (coef lower x r) [] [] (r ∷ []) (λ rows. EachRow (Reached bound z y) rows → pos 0 ≤ℤ value (at y) r)
      (λ n _. let i = rises y z r le n in omega (arith, ints))
      (λ e _. let i = stays y z r e in omega (arith, ints))
      (λ p q. reached_at y r p (q.0 (reached_from z r p h))) q
  holds_below y z le (equal r) q a h =
      sign_cases (entry r x) (r ∷ []) [] (r ∷ []) (λ rows. EachRow (Apart z) rows → value (at y) r ≡ pos 0)
      (λ n a. absurd (a.0 h)) (λ e _. stays y z r (no_coef r e) ∙ h) (λ p a. absurd (a.0 h)) a
  holds_below y z le (both f g) q a h =
      let s = EachRow-split (Reached bound z y) (points lower x f) (points lower x g) q in
      let b = EachRow-split (Apart z) (zeros x f) (zeros x g) a in
      (holds_below y z le f s.0 b.0 h.0, holds_below y z le g s.1 b.1 h.1)
  holds_below y z le (either f g) q a h =
      let s = EachRow-split (Reached bound z y) (points lower x f) (points lower x g) q in
      let b = EachRow-split (Apart z) (zeros x f) (zeros x g) a in
      ⊎_elim (λ i. inl (holds_below y z le f s.0 b.0 i)) (λ i. inr (holds_below y z le g s.1 b.1 i)) h

  -- ---- beyond all points
  pub holds_beyond : (z : ℤ) → at z 0 ≡ pos 1 → (f : Formula) → EachRow (λ q. z <ℤ bound q) (points lower x f) → EachRow (Apart z) (zeros x f) →
      Holds (at z) f →
      Holds (at z) (beyond lower x f)
  holds_beyond z one always q a h = tt
  holds_beyond z one never q a h = h
  holds_beyond z one (at_least r) q a h =
      sign_both (coef lower x r) [] [] (r ∷ []) always (at_least r) never (λ rows g. EachRow (λ q. z <ℤ bound q) rows → Holds (at z) g)
      (λ n _. tt) (λ e _. h) (λ p q. let i = reached_from z r p h in let j = q.0 in omega (arith, ints)) q
  holds_beyond z one (equal r) q a h =
      sign_both (entry r x) (r ∷ []) [] (r ∷ []) never (equal r) never (λ rows g. EachRow (Apart z) rows → Holds (at z) g)
      (λ n a. a.0 h) (λ e _. h) (λ p a. a.0 h) a
  holds_beyond z one (both f g) q a h =
      let s = EachRow-split (λ q. z <ℤ bound q) (points lower x f) (points lower x g) q in
      let b = EachRow-split (Apart z) (zeros x f) (zeros x g) a in
      (conj_two (at z) (beyond lower x f) (beyond lower x g)).1 (holds_beyond z one f s.0 b.0 h.0, holds_beyond z one g s.1 b.1 h.1)
  holds_beyond z one (either f g) q a h =
      let s = EachRow-split (λ q. z <ℤ bound q) (points lower x f) (points lower x g) q in
      let b = EachRow-split (Apart z) (zeros x f) (zeros x g) a in
      (disj_two (at z) one (beyond lower x f) (beyond lower x g)).1
      (⊎_elim (λ i. inl (holds_beyond z one f s.0 b.0 i)) (λ i. inr (holds_beyond z one g s.1 b.1 i)) h)

  pub beyond_holds : (y z : ℤ) → at z 0 ≡ pos 1 → (f : Formula) → EachRow (λ u. y ≤ℤ cap u) (others lower x f) → Holds (at z) (beyond lower x f) →
      Holds (at y) f
  beyond_holds y z one always q h = tt
  beyond_holds y z one never q h = h
  beyond_holds y z one (at_least r) q h =
      sign_both (coef lower x r) (r ∷ []) [] [] always (at_least r) never
      (λ rows g. EachRow (λ u. y ≤ℤ cap u) rows → Holds (at z) g → pos 0 ≤ℤ value (at y) r)
      (λ n q _. rw (value-at y r) ((upper_iff (coef lower x r) (rest r) y n).1 q.0))
      (λ e _ h. let i = stays y z r e in omega (arith, ints)) (λ p _ h. absurd h) q h
  beyond_holds y z one (equal r) q h =
      sign_cases (entry r x) never (equal r) never (λ g. Holds (at z) g → value (at y) r ≡ pos 0)
      (λ n h. absurd h) (λ e h. stays y z r (no_coef r e) ∙ h) (λ p h. absurd h) h
  beyond_holds y z one (both f g) q h =
      let s = EachRow-split (λ u. y ≤ℤ cap u) (others lower x f) (others lower x g) q in
      let k = (conj_two (at z) (beyond lower x f) (beyond lower x g)).0 h in
      (beyond_holds y z one f s.0 k.0, beyond_holds y z one g s.1 k.1)
  beyond_holds y z one (either f g) q h =
      let s = EachRow-split (λ u. y ≤ℤ cap u) (others lower x f) (others lower x g) q in
      let k = (disj_two (at z) one (beyond lower x f) (beyond lower x g)).0 h in
      ⊎_elim (λ i. inl (beyond_holds y z one f s.0 i)) (λ i. inr (beyond_holds y z one g s.1 i)) k

  -- ---- signs of the rows
  pub points_positive : (f : Formula) → EachRow Positive (points lower x f)
  points_positive always = tt
  points_positive never = tt
  points_positive (at_least r) = sign_cases (coef lower x r) [] [] (r ∷ []) (EachRow Positive) (λ n. tt) (λ e. tt) (λ p. (p, tt))
  points_positive (equal r) = tt
  points_positive (both f g) = EachRow-append Positive (points lower x f) (points lower x g) (points_positive f) (points_positive g)
  points_positive (either f g) = EachRow-append Positive (points lower x f) (points lower x g) (points_positive f) (points_positive g)

  pub others_negative : (f : Formula) → EachRow Negative (others lower x f)
  others_negative always = tt
  others_negative never = tt
  others_negative (at_least r) = sign_cases (coef lower x r) (r ∷ []) [] [] (EachRow Negative) (λ n. (n, tt)) (λ e. tt) (λ p. tt)
  others_negative (equal r) = tt
  others_negative (both f g) = EachRow-append Negative (others lower x f) (others lower x g) (others_negative f) (others_negative g)
  others_negative (either f g) = EachRow-append Negative (others lower x f) (others lower x g) (others_negative f) (others_negative g)

  pub points_below : (n : ℕ) (f : Formula) → Throughout (λ c. c < n) f → EachRow (Below n) (points lower x f)
  points_below n always t = tt
  points_below n never t = tt
  points_below n (at_least r) t = sign_cases (coef lower x r) [] [] (r ∷ []) (EachRow (Below n)) (λ n. tt) (λ e. tt) (λ p. (t, tt))
  points_below n (equal r) t = tt
  points_below n (both f g) t = EachRow-append (Below n) (points lower x f) (points lower x g) (points_below n f t.0) (points_below n g t.1)
  points_below n (either f g) t = EachRow-append (Below n) (points lower x f) (points lower x g) (points_below n f t.0) (points_below n g t.1)
