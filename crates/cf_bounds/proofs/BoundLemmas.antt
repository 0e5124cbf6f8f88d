-- A Bound step: the search, and the drop that it makes exact.
use Rattle.std.proofs.Common.{◌≡◌, ℕ, ◌<◌, ◌+◌, ℤ, pos, negsuc, neg_ℤ, ◌+ℤ◌, ◌*ℤ◌, List, [], ◌∷◌, ◌++◌, Bool, true, false, refl, sym, ◌∙◌, ap, arith, subst, inl, inr, ⊎_elim}
use Rattle.std.specs.Prelude.{◌<ℤ◌, unsigned_abs, nat_lt, int_lt}
use Rattle.std.proofs.lemmas.Int.{ints}
use Rattle.std.proofs.lemmas.Bool.{cond_both, eq-eqb, ne_eqb, and_cases, ltb-false}
use Rattle.cf_linear.specs.Rows.{Row, entry, without}
use Rattle.cf_linear.specs.Systems.{System, EachRow, then_answer}
use Rattle.cf_linear.specs.Steps.{lowers, uppers, is_positive, one_at, two_at, Found, searches, search_equation, search_bound, found_row, found_all, no_found, searched, dropped}
use Rattle.cf_linear.specs.Keep.{In, Formed}
use Rattle.cf_linear.specs.Solved.{search_columns, Rising, Owes}
use Rattle.cf_linear.proofs.RowLemmas.{entry-comb}
use Rattle.cf_linear.proofs.CombLemmas.{entry-without}
use Rattle.cf_linear.proofs.KindLemmas.{EachRow-append, EachRow-with, EachRow-weaker, EachRow-filter, EachRow-tested, search_columns-append, Rising-append, Rising-in, Rising-le, In-append, In-left, In-right}
use Rattle.cf_linear.proofs.SolvedLemmas.{step_then}
use Rattle.cf_linear.proofs.FormedLemmas.{Kinds, low_from}
use Rattle.cf_linear.proofs.SideLemmas.{positive_so, negative_so}
use Rattle.cf_bounds.specs.Exact.{IsExact, IsFree, AreExact}
use Rattle.cf_bounds.proofs.SearchLemmas.{by_row, found_new, found_kept, searched_keeps}
use Rattle.cf_bounds.proofs.DropLemmas.{Lower, Upper}
use Rattle.cf_bounds.proofs.OwesLemmas.{dropped_step}

-- ---- the new columns
pub record FoundColumns (lo : ℕ) (s : Found) : Type 0 where
  pub same : search_columns s.bounds ≡ s.columns
  pub rise : Rising lo s.next s.columns
  pub unknown_rise : Rising lo s.next s.unknowns
  pub apart : (c : ℕ) → In c s.columns → In c s.unknowns → ⊥

made_row : (lo : ℕ) (x : ℕ) (lower : Bool) (s : Found) (r : Row) → FoundColumns lo s → FoundColumns lo (found_row x lower s r)
made_row lo x lower s r h =
    by_row (FoundColumns lo) x lower s r
    (λ e. record {
      same = search_columns-append s.bounds ((s.next, unsigned_abs (entry r x)) ∷ []) ∙ ap (λ y. y ++ (s.next ∷ [])) h.same;
      rise = Rising-append lo s.next (s.next + 2) s.columns (s.next ∷ []) h.rise (omega arith, omega arith);
      unknown_rise = Rising-append lo s.next (s.next + 2) s.unknowns ((s.next + 1) ∷ []) h.unknown_rise (omega arith, omega arith);
      apart = λ c i j.
          ⊎_elim (λ p. ⊎_elim (λ q. h.apart c p q) (λ q. let l = Rising-in lo s.next c s.columns h.rise p in
          ⊎_elim (λ (t : c ≡ s.next + 1). absurd (omega arith)) (λ t. absurd t) q) (In-append c s.unknowns ((s.next + 1) ∷ []) j))
          (λ p. ⊎_elim (λ (t : c ≡ s.next).
          ⊎_elim (λ q. let l = Rising-in lo s.next c s.unknowns h.unknown_rise q in absurd (omega arith))
          (λ q. ⊎_elim (λ (u : c ≡ s.next + 1). absurd (omega arith)) (λ u. absurd u) q) (In-append c s.unknowns ((s.next + 1) ∷ []) j))
          (λ t. absurd t) p) (In-append c s.columns (s.next ∷ []) i);
    })
    (record { same = h.same; rise = h.rise; unknown_rise = h.unknown_rise; apart = h.apart })

pub made_all : (lo : ℕ) (x : ℕ) (lower : Bool) (rows : List Row) (s : Found) → FoundColumns lo s → FoundColumns lo (found_all x lower s rows)
made_all lo x lower [] s h = h
made_all lo x lower (r ∷ rows) s h = made_all lo x lower rows (found_row x lower s r) (made_row lo x lower s r h)

pub searched_step : (m : System) (x : ℕ) (lower : Bool) → Formed m → In x m.unknown → Owes m (searched m x lower)
unfolding searched
searched_step m x lower f i =
    let s = found_all x lower (no_found m) m.inequalities in
    let h = made_all m.next x lower m.inequalities (no_found m) (record { same = refl; rise = omega arith; unknown_rise = omega arith; apart = λ c i j. i }) in
    record {
      keeps = searched_keeps m x lower (low_from m f) (f.unknown_below x i);
      kept = λ v c k. refl;
      columns = record {
        constant = f.constant;
        below = f.below;
        grows = λ c k. In-left c m.known s.columns k;
        bound_known = λ c k. In-right c m.known s.columns (subst (λ y. In c y) h.same k);
        let_known = λ c k. absurd k;
        only = λ c k. ⊎_elim (λ j. inr (inl j)) (λ j. inr (inr (subst (λ y. In c y) (sym h.same) j))) (In-append c m.known s.columns k);
        over = tt;
        bounds_rise = subst (λ y. Rising m.next s.next y) (sym h.same) h.rise;
        lets_rise = Rising-le m.next s.next s.columns h.rise;
        apart = λ c k l. l;
      };
    }

pub searched_kinds : (m : System) (x : ℕ) (lower : Bool) → Formed m → Kinds (searched m x lower).system
unfolding searched
searched_kinds m x lower f =
    let s = found_all x lower (no_found m) m.inequalities in
    let h = made_all m.next x lower m.inequalities (no_found m) (record { same = refl; rise = omega arith; unknown_rise = omega arith; apart = λ c i j. i }) in
    let le = Rising-le m.next s.next s.columns h.rise in
    record {
      constant = In-left 0 m.known s.columns f.constant;
      below = λ c k. ⊎_elim (λ j. let b = f.below c j in omega arith) (λ j. (Rising-in m.next s.next c s.columns h.rise j).1) (In-append c m.known s.columns k);
      apart = λ c k l.
          ⊎_elim
          (λ p. ⊎_elim (λ q. f.apart c p q) (λ q. let b = f.below c p in let r = Rising-in m.next s.next c s.unknowns h.unknown_rise q in absurd (omega arith))
          (In-append c m.unknown s.unknowns l))
          (λ p. ⊎_elim (λ q. let b = f.unknown_below c q in let r = Rising-in m.next s.next c s.columns h.rise p in absurd (omega arith)) (λ q. h.apart c p q)
          (In-append c m.unknown s.unknowns l))
          (In-append c m.known s.columns k);
    }

-- ---- after the search the side is exact, and no equation has x
entry-gone : (x : ℕ) (r : Row) → entry (without x r) x ≡ pos 0
entry-gone x r = entry-without x x r ∙ rw (eq-eqb x x refl) refl

entry-at : (x : ℕ) → entry (one_at x) x ≡ pos 1
entry-at x = rw (eq-eqb x x refl) refl

entry-off : (x k : ℕ) → x < k → entry (one_at k) x ≡ pos 0
entry-off x k h = rw (ne_eqb k x (omega arith)) refl

no_sum : (a b : ℤ) → (c : ℤ) → c *ℤ pos 0 +ℤ pos 1 *ℤ (a *ℤ pos 0 +ℤ b *ℤ pos 0) ≡ pos 0
no_sum a b c =
    let i : a *ℤ pos 0 ≡ pos 0 = omega (arith, ints) in
    let j : b *ℤ pos 0 ≡ pos 0 = omega (arith, ints) in
    let k : c *ℤ pos 0 ≡ pos 0 = omega (arith, ints) in
    rw (i, j, k) refl

one_side : Bool → ℕ → Row → Type 0
one_side true x r = Lower x r → entry r x ≡ pos 1
one_side false x r = Upper x r → neg_ℤ (entry r x) ≡ pos 1

new_side : (lower : Bool) (x k : ℕ) → x < k → one_side lower x (search_bound x lower k)
unfolding one_side
new_side true x k h = λ l. entry-comb x (pos 1) (one_at x) (negsuc 0) (one_at (k + 1)) ∙ rw (entry-at x, entry-off x (k + 1) (omega arith)) refl
new_side false x k h = λ l.
    rw (entry-comb x (negsuc 0) (one_at x) (pos 1) (one_at (k + 1)), entry-at x, entry-off x (k + 1) (omega arith)) refl

kept_side : (lower : Bool) (x : ℕ) (r : Row) → searches x lower r ≡ false → one_side lower x r
unfolding one_side
kept_side true x r e = λ l.
    ⊎_elim (λ i. let a = ltb-false 1 (unsigned_abs (entry r x)) i in omega (arith, ints))
    (λ i. absurd (positive_not (entry r x) i l)) (and_cases (nat_lt 1 (unsigned_abs (entry r x))) (is_positive (entry r x)) e)
  where
    positive_not : (k : ℤ) → is_positive k ≡ false → pos 0 <ℤ k → ⊥
    positive_not (pos n) e h = let a = ltb-false 0 n e in absurd (omega (arith, ints))
    positive_not (negsuc n) e h = absurd (omega (arith, ints))
kept_side false x r e = λ l.
    ⊎_elim (λ i. let a = ltb-false 1 (unsigned_abs (entry r x)) i in omega (arith, ints))
    (λ i. absurd (negative_not (entry r x) i l)) (and_cases (nat_lt 1 (unsigned_abs (entry r x))) (int_lt (entry r x) (pos 0)) e)
  where
    negative_not : (k : ℤ) → int_lt k (pos 0) ≡ false → k <ℤ pos 0 → ⊥
    negative_not (pos n) e h = absurd (omega (arith, ints))
    negative_not (negsuc n) e h = absurd (cc e)

new_free : (lower : Bool) (x k : ℕ) (r : Row) → x < k → entry (search_equation x lower k r) x ≡ pos 0
new_free true x k r h =
    let p = neg_ℤ (pos (unsigned_abs (entry r x))) in
    entry-comb x (negsuc 0) (without x r) (pos 1) (two_at (pos 1) k p (k + 1)) ∙
    rw (entry-comb x (pos 1) (one_at k) p (one_at (k + 1)), entry-gone x r, entry-off x k h, entry-off x (k + 1) (omega arith)) (no_sum (pos 1) p (negsuc 0))
new_free false x k r h =
    let p = neg_ℤ (pos (unsigned_abs (entry r x))) in
    entry-comb x (pos 1) (without x r) (pos 1) (two_at (negsuc 0) k p (k + 1)) ∙
    rw (entry-comb x (negsuc 0) (one_at k) p (one_at (k + 1)), entry-gone x r, entry-off x k h, entry-off x (k + 1) (omega arith)) (no_sum (negsuc 0) p (pos 1))

record Sides (lower : Bool) (x : ℕ) (s : Found) : Type 0 where
  under : x < s.next
  rows : EachRow (one_side lower x) s.rows
  free : IsFree x s.equations

sides_row : (lower : Bool) (x : ℕ) (s : Found) (r : Row) → Sides lower x s → Sides lower x (found_row x lower s r)
sides_row lower x s r h =
    let u = h.under in
    cond_both (searches x lower r) (found_new x lower s r) (found_kept s r) (Sides lower x)
    (λ e. record {
      under = omega arith;
      rows = EachRow-append (one_side lower x) s.rows (search_bound x lower s.next ∷ []) h.rows (new_side lower x s.next u, tt);
      free = EachRow-append (λ r. entry r x ≡ pos 0) s.equations (search_equation x lower s.next r ∷ []) h.free (new_free lower x s.next r u, tt);
    })
    (λ e. record { under = u; rows = EachRow-append (one_side lower x) s.rows (r ∷ []) h.rows (kept_side lower x r e, tt); free = h.free })

sides_all : (lower : Bool) (x : ℕ) (rows : List Row) (s : Found) → Sides lower x s → Sides lower x (found_all x lower s rows)
sides_all lower x [] s h = h
sides_all lower x (r ∷ rows) s h = sides_all lower x rows (found_row x lower s r) (sides_row lower x s r h)

all_rows : (Q : Row → Type 0) → ((r : Row) → Q r) → (rows : List Row) → EachRow Q rows
all_rows Q f [] = tt
all_rows Q f (r ∷ rows) = (f r, all_rows Q f rows)

exact_side : (lower : Bool) (x : ℕ) (rows : List Row) → EachRow (one_side lower x) rows → AreExact x rows
unfolding one_side
exact_side true x rows h =
    EachRow-with (Lower x) (one_side true x) (λ l. EachRow (IsExact x l) (uppers x rows)) (λ l hl o. all_rows (IsExact x l) (λ u. inl (o hl)) (uppers x rows))
    (lowers x rows)
    (EachRow-tested (Lower x) (λ r. is_positive (entry r x)) (λ r e. positive_so (entry r x) e) rows)
    (EachRow-filter (one_side true x) (λ r. is_positive (entry r x)) rows h)
exact_side false x rows h =
    let ups = EachRow-with (Upper x) (one_side false x) (λ u. neg_ℤ (entry u x) ≡ pos 1) (λ u hu o. o hu) (uppers x rows)
    (EachRow-tested (Upper x) (λ r. int_lt (entry r x) (pos 0)) (λ r e. negative_so (entry r x) e) rows)
    (EachRow-filter (one_side false x) (λ r. int_lt (entry r x) (pos 0)) rows h) in
    all_rows (λ l. EachRow (IsExact x l) (uppers x rows))
    (λ l. EachRow-weaker (λ u. neg_ℤ (entry u x) ≡ pos 1) (IsExact x l) (λ u e. inr e) (uppers x rows) ups) (lowers x rows)

search_sides : (m : System) (x : ℕ) (lower : Bool) → Formed m → In x m.unknown → Sides lower x (found_all x lower (no_found m) m.inequalities)
search_sides m x lower f i = sides_all lower x m.inequalities (no_found m) (record { under = f.unknown_below x i; rows = tt; free = tt })

pub searched_exact : (m : System) (x : ℕ) (lower : Bool) → Formed m → In x m.unknown → AreExact x (searched m x lower).system.inequalities
unfolding searched
searched_exact m x lower f i = exact_side lower x (found_all x lower (no_found m) m.inequalities).rows (search_sides m x lower f i).rows

pub searched_free : (m : System) (x : ℕ) (lower : Bool) → Formed m → In x m.unknown → IsFree x m.equations → IsFree x (searched m x lower).system.equations
unfolding searched
searched_free m x lower f i none =
    let s = found_all x lower (no_found m) m.inequalities in
    EachRow-append (λ r. entry r x ≡ pos 0) m.equations s.equations none (search_sides m x lower f i).free

pub searched_in : (m : System) (x : ℕ) (lower : Bool) → In x m.unknown → In x (searched m x lower).system.unknown
unfolding searched
searched_in m x lower i = In-left x m.unknown (found_all x lower (no_found m) m.inequalities).unknowns i

-- the search and the drop
pub bound_step : (m : System) (x : ℕ) (lower : Bool) → Formed m → In x m.unknown → IsFree x m.equations →
    Owes m (then_answer (searched m x lower) (dropped (searched m x lower).system x))
bound_step m x lower f i none =
    step_then m (searched m x lower) (dropped (searched m x lower).system x) (searched_step m x lower f i)
    (dropped_step (searched m x lower).system x (searched_kinds m x lower f) (searched_in m x lower i) (searched_free m x lower f i none)
    (searched_exact m x lower f i))
