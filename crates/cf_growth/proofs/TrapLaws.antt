-- The two parts of a Bound step's factor make no more than the factor: a search has a bound whose norm without the unknown is at least 1.
use Rattle.std.proofs.Common.{◌≡◌, ℕ, ◌≤◌, ◌<◌, ◌*◌, List, [], ◌∷◌, Bool, false, refl, sym, ◌∙◌, ap, arith, max, map}
use Rattle.std.specs.Prelude.{unsigned_abs, nat_lt, nat_le}
use Rattle.std.proofs.lemmas.Bool.{cond_both, true≢false, leb-true, leb-false, ltb-true, and_parts}
use Rattle.cf_linear.specs.Rows.{Row, entry, is_zero}
use Rattle.cf_linear.specs.Systems.{System, EachRow, Answer}
use Rattle.cf_linear.specs.Steps.{searches, Found, found_row, found_all, no_found, searched, searched_by, bound_factor, Pick, greatest_of}
use Rattle.cf_linear.specs.Keep.{In}
use Rattle.cf_linear.proofs.BoolLemmas.{on_bool}
use Rattle.cf_linear.proofs.RowLemmas.{zero_from_is_zero}
use Rattle.cf_linear.proofs.KindLemmas.{EachRow-with}
use Rattle.cf_bounds.proofs.SearchLemmas.{found_new, found_kept}
use Rattle.cf_growth.specs.Tracing.{IsTight}
use Rattle.cf_growth.proofs.BoundGrowth.{IsSmall, search_factor, drop_norm, norms_small}

no_bounds : (x : ℕ) (lower : Bool) (rows : List Row) (s : Found) → EachRow (λ r. searches x lower r ≡ false) rows → (found_all x lower s rows).bounds ≡ s.bounds
no_bounds x lower [] s h = refl
no_bounds x lower (r ∷ rows) s h =
    no_bounds x lower rows (found_row x lower s r) h.1 ∙
    cond_both (searches x lower r) (found_new x lower s r) (found_kept s r) (λ (t : Found). t.bounds ≡ s.bounds) (λ e. absurd (true≢false (sym e ∙ h.0)))
    (λ _. refl)

above_one : (x : ℕ) (r : Row) → 1 < unsigned_abs (entry r x) → is_zero (entry r x) ≡ false
above_one x r l = on_bool (is_zero (entry r x)) (λ t. let z : unsigned_abs (entry r x) ≡ 0 = ap unsigned_abs (zero_from_is_zero (entry r x) t) in
    absurd (omega arith)) (λ f. f)

-- a row that has nothing but x is not searched
alone_rests : (us : List ℕ) (x : ℕ) (lower : Bool) → In x us → (r : Row) → IsTight us r → IsSmall x 0 r → searches x lower r ≡ false
alone_rests us x lower i r h k = on_bool (searches x lower r)
    (λ t.
    let p = and_parts (nat_lt 1 (unsigned_abs (entry r x))) _ t in
    let l = ltb-true 1 (unsigned_abs (entry r x)) p.0 in
    let a = h x i l in
    let b = k (above_one x r l) in
    absurd (omega arith))
    (λ f. f)

none_searched : (m : System) (c : Pick) → EachRow (λ r. searches c.unknown c.lower r ≡ false) m.inequalities → (searched_by m c).bounds ≡ []
unfolding searched_by searched
none_searched m c h =
    cond_both (nat_lt 1 c.product) (searched m c.unknown c.lower) (record { system = m; steps = []; back = []; bounds = [] }) (λ (a : Answer). a.bounds ≡ [])
    (λ _. no_bounds c.unknown c.lower m.inequalities (no_found m) h) (λ _. refl)

pub within_factor : (m : System) (c : Pick) → In c.unknown m.unknown → EachRow (IsTight m.unknown) m.inequalities →
    search_factor m c * max 1 (drop_norm m c) ≤ max 1 (bound_factor m c)
unfolding bound_factor
within_factor m c i h = on_bool (nat_le 1 (drop_norm m c))
    (λ t.
    let l = leb-true 1 (drop_norm m c) t in
    let e : max 1 (drop_norm m c) ≡ drop_norm m c = omega arith in
    rw e (omega arith))
    (λ t.
    let l = leb-false 1 (drop_norm m c) t in
    let small = norms_small c.unknown 0 0 m.inequalities (omega arith) in
    let none = none_searched m c (EachRow-with (IsTight m.unknown) (IsSmall c.unknown 0) (λ r. searches c.unknown c.lower r ≡ false)
    (alone_rests m.unknown c.unknown c.lower i) m.inequalities h small) in
    let one : search_factor m c ≡ 1 = ap (λ bs. max 1 (greatest_of (map (λ (k, n). n) bs))) none in
    let two : max 1 (drop_norm m c) ≡ 1 = omega arith in
    rw (one, two) (omega arith))
