-- Clean keeps the solutions.
use Rattle.std.proofs.Common.{◌≡◌, ℕ, ◌<◌, ◌≤◌, ◌+◌, ◌/◌, ◌%◌, ℤ, pos, negsuc, neg_ℤ, ◌+ℤ◌, ◌*ℤ◌, List, [], ◌∷◌, ◌++◌, Bool, true, false, not, cond, ◌==◌, refl, sym, ◌∙◌, ap, arith, suc, zero, subst, ◌⊎◌, inl, inr, ⊎_elim}
use Rattle.std.specs.Prelude.{◌≤ℤ◌, filter, map, unsigned_abs, nat_le, ◌||◌, if◌then◌else◌, Option, Some, None}
use Rattle.std.specs.List.{list_any, list_all, fold}
use Rattle.std.specs.Int.{int_div_euclid, int_rem_euclid}
use Rattle.std.proofs.lemmas.Int.{ints}
use Rattle.std.proofs.lemmas.Bool.{cond_both, leb-false, and_parts, eqb-true}
use Rattle.std.proofs.Math.Nat.{mul-div_cancel', div-add-mod}
use Rattle.cf_num.specs.Divisors.{gcd_of}
use Rattle.cf_num.proofs.Ring.{ring}
use Rattle.cf_num.proofs.DivisionLemmas.{int_div_euclid_once}
use Rattle.cf_num.proofs.DivisorLemmas.{gcd_of-is}
use Rattle.cf_linear.specs.Rows.{Row, Values, value, comb, same_row, Rises}
use Rattle.cf_linear.specs.Relations.{Divides}
use Rattle.cf_linear.specs.Systems.{System, EachRow, Step, floor_of, need_nonneg, need_zero}
use Rattle.cf_linear.specs.Steps.{has_column, has_unknown, unknown_part, known_part, common, divides_it, divided, Tightened, next_tightened, then_tighten, distinct_after, clean}
use Rattle.cf_linear.specs.Keep.{Over, Same, Keeps, AllFit, update}
use Rattle.cf_linear.proofs.RowLemmas.{value-comb, value-put, zero_from_is_zero}
use Rattle.cf_linear.proofs.RowTests.{same_row-is}
use Rattle.cf_linear.proofs.KindLemmas.{IsZero, IsNonneg, Below, EachRow-append, EachRow-split, EachRow-filter, EachRow-unfilter, EachRow-below_more, Below-more, Over-comb, Over-put, Over-filter}
use Rattle.cf_linear.proofs.ValueLemmas.{EachRow-same, one_z, value-same, value-parts, update-at, update-same, Same-trans, StepsBelow, AllFit-same, AllFit-append, AllFit-split, StepsBelow-append, StepsBelow-more}
use Rattle.cf_linear.proofs.FormedLemmas.{Low}
use Rattle.cf_bounds.proofs.Arithmetic.{tighten, zero_value, nonneg_value}

-- ---- equal rows
seen_has : (Q : Row → Type 0) (r : Row) (seen : List Row) → EachRow Q seen → list_any (same_row r) seen ≡ true → Q r
seen_has Q r [] h e = cc e
seen_has Q r (s ∷ seen) h e =
    cond_both (same_row r s) (pos 0) (pos 0) (λ _. Q r) (λ i. subst Q (sym (same_row-is r s i)) h.0)
    (λ i. seen_has Q r seen h.1 (rw i at e))

pub distinct_forth : (Q : Row → Type 0) (seen rows : List Row) → EachRow Q rows → EachRow Q (distinct_after seen rows)
distinct_forth Q seen [] h = tt
distinct_forth Q seen (r ∷ rows) h =
    cond_both (list_any (same_row r) seen) (distinct_after seen rows) (r ∷ distinct_after (r ∷ seen) rows) (λ ys. EachRow Q ys)
    (λ e. distinct_forth Q seen rows h.1) (λ e. (h.0, distinct_forth Q (r ∷ seen) rows h.1))

distinct_back : (Q : Row → Type 0) (seen rows : List Row) → EachRow Q seen → EachRow Q (distinct_after seen rows) → EachRow Q rows
distinct_back Q seen [] s h = tt
distinct_back Q seen (r ∷ rows) s h =
    cond_both (list_any (same_row r) seen) (distinct_after seen rows) (r ∷ distinct_after (r ∷ seen) rows) (λ ys. EachRow Q ys → EachRow Q (r ∷ rows))
    (λ e h. (seen_has Q r seen s e, distinct_back Q seen rows s h)) (λ e h. (h.0, distinct_back Q (r ∷ seen) rows (h.0, s) h.1)) h

-- ---- needs of rows without unknowns
zeros_fit : (v : Values) (rows : List Row) → EachRow (IsZero v) rows → AllFit v (map need_zero rows)
zeros_fit v [] h = tt
zeros_fit v (r ∷ rows) h = (h.0, zeros_fit v rows h.1)

zeros_from : (v : Values) (rows : List Row) → AllFit v (map need_zero rows) → EachRow (IsZero v) rows
zeros_from v [] h = tt
zeros_from v (r ∷ rows) h = (h.0, zeros_from v rows h.1)

nonnegs_fit : (v : Values) (rows : List Row) → EachRow (IsNonneg v) rows → AllFit v (map need_nonneg rows)
nonnegs_fit v [] h = tt
nonnegs_fit v (r ∷ rows) h = (h.0, nonnegs_fit v rows h.1)

nonnegs_from : (v : Values) (rows : List Row) → AllFit v (map need_nonneg rows) → EachRow (IsNonneg v) rows
nonnegs_from v [] h = tt
nonnegs_from v (r ∷ rows) h = (h.0, nonnegs_from v rows h.1)

zeros_below : (n : ℕ) (rows : List Row) → EachRow (Below n) rows → StepsBelow n (map need_zero rows)
zeros_below n [] h = tt
zeros_below n (r ∷ rows) h = (h.0, zeros_below n rows h.1)

nonnegs_below : (n : ℕ) (rows : List Row) → EachRow (Below n) rows → StepsBelow n (map need_nonneg rows)
nonnegs_below n [] h = tt
nonnegs_below n (r ∷ rows) h = (h.0, nonnegs_below n rows h.1)

-- ---- common factors
-- each entry is a multiple of g
abbrev pub EntriesDiv : ℕ → Row → Type 0
EntriesDiv g [] = Unit {0}
EntriesDiv g ((c, k) ∷ r) = Divides (pos g) k × EntriesDiv g r

divides_abs : (g : ℕ) (k : ℤ) → Divides (pos g) (pos (unsigned_abs k)) → Divides (pos g) k
divides_abs g (pos n) d = d
divides_abs g (negsuc n) d = (neg_ℤ d.0, let e = d.1 in simp ring (omega (arith, ints)))

divides_trans : (g h k : ℤ) → Divides g h → Divides h k → Divides g k
divides_trans g h k d e = (d.0 *ℤ e.0, let i = d.1 in e.1 ∙ rw i (simp ring (omega (arith, ints))))

pub common-divides : (r : Row) → EntriesDiv (common r) r
common-divides [] = tt
common-divides ((c, k) ∷ r) =
    let is = gcd_of-is (unsigned_abs k) (common r) in
    let g = gcd_of (unsigned_abs k) (common r) in
    let first : pos (unsigned_abs k) ≡ pos g *ℤ pos (unsigned_abs k / g) = ap pos (sym (mul-div_cancel' g is.0)) in
    let rest : pos (common r) ≡ pos g *ℤ pos (common r / g) = ap pos (sym (mul-div_cancel' g is.1)) in
    (divides_abs g k (pos (unsigned_abs k / g), first), all (common r) g (pos (common r / g), rest) r (common-divides r))
  where
    all : (h g : ℕ) → Divides (pos g) (pos h) → (r : Row) → EntriesDiv h r → EntriesDiv g r
    all h g d [] e = tt
    all h g d ((c, k) ∷ r) e = (divides_trans (pos g) (pos h) k d e.0, all h g d r e.1)

pub exact_quotient : (g : ℕ) (k : ℤ) → 0 < g → Divides (pos g) k → pos g *ℤ int_div_euclid k (pos g) ≡ k
exact_quotient g k h d =
    let f = int_div_euclid_once k (pos g) d.0 (omega (arith, ints)) (omega (arith, ints, d.1)) (omega (arith, ints, d.1)) in
    rw f (sym d.1)

value-divided : (v : Values) (g : ℕ) (r : Row) → 0 < g → EntriesDiv g r → pos g *ℤ value v (divided g r) ≡ value v r
value-divided v g [] h d = omega (arith, ints)
value-divided v g ((c, k) ∷ r) h d =
    let e = exact_quotient g k h d.0 in
    let again = value-divided v g r h d.1 in
    let t = simp ring at (ap (λ x. x *ℤ v c) e) in
    rw (value-put v c (int_div_euclid k (pos g)) (divided g r)) (simp ring (omega (arith, ints)))

divides_it-so : (g : ℕ) (k : ℤ) → 0 < g → divides_it g k ≡ true → Divides (pos g) k
divides_it-so g (pos n) h e =
    let i : n % g ≡ 0 = eqb-true (n % g) 0 e in
    (pos (n / g), ap pos (let d = div-add-mod n g in omega (arith, d)))
divides_it-so g (negsuc n) h e =
    let i = zero_from_is_zero (int_rem_euclid (negsuc n) (pos g)) e in
    (int_div_euclid (negsuc n) (pos g), let d = div-add-mod n g in omega (arith, ints, d))

-- each entry but a constant's is a multiple of g
abbrev Parted : ℕ → Row → Type 0
Parted g [] = Unit {0}
Parted g ((c, k) ∷ r) = ((c ≡ 0) ⊎ Divides (pos g) k) × Parted g r

parted_from : (us : List ℕ) (g : ℕ) (r : Row) → 0 < g → EntriesDiv g (unknown_part us r) →
    list_all (λ (c, k). (c == 0) || divides_it g k) (known_part us r) ≡ true → Parted g r
parted_from us g [] h d e = tt
parted_from us g ((c, k) ∷ r) h d e = by (has_column us c) (parted_from us g r h) d e
  where
    by : (b : Bool) → (EntriesDiv g (unknown_part us r) → list_all (λ (c, k). (c == 0) || divides_it g k) (known_part us r) ≡ true → Parted g r) →
        EntriesDiv g (cond b ((c, k) ∷ unknown_part us r) (unknown_part us r)) →
        list_all (λ (c, k). (c == 0) || divides_it g k) (cond (not b) ((c, k) ∷ known_part us r) (known_part us r)) ≡ true → Parted g ((c, k) ∷ r)
    by true again d e = (inr d.0, again d.1 e)
    by false again d e =
        let a = and_parts ((c == 0) || divides_it g k) (list_all (λ (c, k). (c == 0) || divides_it g k) (known_part us r)) e in (
          cond_both (c == 0) (pos 0) (pos 0) (λ _. (c ≡ 0) ⊎ Divides (pos g) k) (λ i. inl (eqb-true c 0 i)) (λ i. inr (divides_it-so g k h (rw i at a.0))),
          again d a.1,
        )

parted_above : (g c : ℕ) (r : Row) → Rises (suc c) r → Parted g r → EntriesDiv g r
parted_above g c [] s p = tt
parted_above g c ((d, k) ∷ r) s p = (⊎_elim (λ (i : d ≡ 0). absurd (let l = s.0 in omega arith)) (λ e. e) p.0, parted_above g d r s.2 p.1)

zero_sum : (f : ℤ) → f ≡ pos 0 → pos 0 ≡ pos 0 +ℤ f
zero_sum f e = rw e refl

-- with a column 0 of value 1, the divided row has the rounded value
divided_row : (v : Values) (g : ℕ) (r : Row) → 0 < g → v 0 ≡ pos 1 → Rises 0 r → Parted g r →
    (u : ℤ) × (c : ℤ) × (value v r ≡ pos g *ℤ u +ℤ c) × (value v (divided g r) ≡ u +ℤ int_div_euclid c (pos g))
divided_row v g [] h one s p = (
  pos 0,
  pos 0,
  omega (arith, ints),
  let f : int_div_euclid (pos 0) (pos g) ≡ pos 0 =
      int_div_euclid_once (pos 0) (pos g) (pos 0) (omega (arith, ints)) (omega (arith, ints)) (omega (arith, ints)) in
      zero_sum (int_div_euclid (pos 0) (pos g)) f,
)
divided_row v g ((zero, k) ∷ r) h one s p =
    let e = value-divided v g r h (parted_above g 0 r s.2 p.1) in
    let a : k *ℤ pos 1 ≡ k = omega (arith, ints) in
    let b : int_div_euclid k (pos g) *ℤ pos 1 ≡ int_div_euclid k (pos g) = omega (arith, ints) in
    (value v (divided g r), k, rw (one, a) (omega (arith, ints)), value-put v 0 (int_div_euclid k (pos g)) (divided g r) ∙ rw (one, b) (omega (arith, ints)))
divided_row v g ((suc c, k) ∷ r) h one s p =
    let d : Divides (pos g) k = ⊎_elim (λ (i : suc c ≡ 0). absurd (omega arith)) (λ e. e) p.0 in
    let e = value-divided v g ((suc c, k) ∷ r) h (d, parted_above g (suc c) r s.2 p.1) in
    let f : int_div_euclid (pos 0) (pos g) ≡ pos 0 =
    int_div_euclid_once (pos 0) (pos g) (pos 0) (omega (arith, ints)) (omega (arith, ints)) (omega (arith, ints)) in
    (value v (divided g ((suc c, k) ∷ r)), pos 0, sym e ∙ omega (arith, ints), rw f (omega (arith, ints)))

-- ---- one inequality
abbrev pub unknowns_of : List ℕ → Row → ℕ
unknowns_of us r = common (unknown_part us r)

abbrev pub floored : List ℕ → ℕ → Row → Row
floored us n r = comb (pos 1) (divided (unknowns_of us r) (unknown_part us r)) (pos 1) ((n, pos 1) ∷ [])

abbrev pub with_kept : Tightened → Row → Tightened
with_kept t r = record { next = t.next; made = t.made; steps = t.steps; rows = t.rows ++ (r ∷ []) }

abbrev pub with_floor : List ℕ → Tightened → Row → Tightened
with_floor us t r = record {
  next = t.next + 1;
  made = t.made ++ (t.next ∷ []);
  steps = t.steps ++ (floor_of t.next (known_part us r) (pos (unknowns_of us r)) ∷ []);
  rows = t.rows ++ (floored us t.next r ∷ []);
}

pub by_row : (P : Tightened → Type 0) (us : List ℕ) (t : Tightened) (r : Row) → P (with_kept t r) →
    (0 < unknowns_of us r → list_all (λ (c, k). (c == 0) || divides_it (unknowns_of us r) k) (known_part us r) ≡ true →
    P (with_kept t (divided (unknowns_of us r) r))) →
    (0 < unknowns_of us r → P (with_floor us t r)) → P (then_tighten us t r)
by_row P us t r f g h =
    let d = unknowns_of us r in
    let test = list_all (λ (c, k). (c == 0) || divides_it d k) (known_part us r) in
    let last : Option Step × Row = (if test then (None, divided d r) else (Some (floor_of t.next (known_part us r) (pos d)), floored us t.next r)) in
    cond_both (nat_le d 1) (None, r) last (λ y. P (next_tightened t y)) (λ _. f)
    (λ e. let i = leb-false d 1 e in
    cond_both test (None, divided d r) (Some (floor_of t.next (known_part us r) (pos d)), floored us t.next r) (λ y. P (next_tightened t y))
    (λ q. g (omega arith) q) (λ q. h (omega arith)))

-- the row's value in its parts
parts_at : (v : Values) (us : List ℕ) (r : Row) → 0 < unknowns_of us r →
    value v r ≡ pos (unknowns_of us r) *ℤ value v (divided (unknowns_of us r) (unknown_part us r)) +ℤ value v (known_part us r)
parts_at v us r h = value-parts v (λ (c, k). has_column us c) r ∙
    rw (value-divided v (unknowns_of us r) (unknown_part us r) h (common-divides (unknown_part us r))) refl

value-floored : (v : Values) (us : List ℕ) (n : ℕ) (r : Row) → value v (floored us n r) ≡ value v (divided (unknowns_of us r) (unknown_part us r)) +ℤ v n
value-floored v us n r = value-comb v (pos 1) (divided (unknowns_of us r) (unknown_part us r)) (pos 1) ((n, pos 1) ∷ []) ∙
    rw (one_z (v n)) (omega (arith, ints))

pub Over-divided : (Q : ℕ → Type 0) (g : ℕ) (r : Row) → Over Q r → Over Q (divided g r)
Over-divided Q g [] h = tt
Over-divided Q g ((c, k) ∷ r) h = Over-put Q c (int_div_euclid k (pos g)) (divided g r) h.0 (Over-divided Q g r h.1)

divided_iff : (v : Values) (us : List ℕ) (r : Row) → v 0 ≡ pos 1 → Rises 0 r → 0 < unknowns_of us r →
    list_all (λ (c, k). (c == 0) || divides_it (unknowns_of us r) k) (known_part us r) ≡ true →
    (IsNonneg v r → IsNonneg v (divided (unknowns_of us r) r)) × (IsNonneg v (divided (unknowns_of us r) r) → IsNonneg v r)
divided_iff v us r one s h e =
    let g = unknowns_of us r in
    let d = divided_row v g r h one s (parted_from us g r h (common-divides (unknown_part us r)) e) in
    let t = tighten (pos g) d.0 d.1 (omega (arith, ints)) in
    let a = d.2 in
    let b = d.3 in (
      λ u. subst (λ y. pos 0 ≤ℤ y) (sym b) (t.0 (subst (λ y. pos 0 ≤ℤ y) a u)),
      λ u. subst (λ y. pos 0 ≤ℤ y) (sym a) (t.1 (subst (λ y. pos 0 ≤ℤ y) b u)),
    )

floored_iff : (v : Values) (us : List ℕ) (n : ℕ) (r : Row) → 0 < unknowns_of us r → v n ≡ int_div_euclid (value v (known_part us r)) (pos (unknowns_of us r)) →
    (IsNonneg v r → IsNonneg v (floored us n r)) × (IsNonneg v (floored us n r) → IsNonneg v r)
floored_iff v us n r h f =
    let g = unknowns_of us r in
    let u = value v (divided g (unknown_part us r)) in
    let t = tighten (pos g) u (value v (known_part us r)) (omega (arith, ints)) in
    let a = parts_at v us r h in
    let b : value v (floored us n r) ≡ u +ℤ int_div_euclid (value v (known_part us r)) (pos g) = value-floored v us n r ∙ ap (λ y. u +ℤ y) f in (
      λ i. subst (λ y. pos 0 ≤ℤ y) (sym b) (t.0 (subst (λ y. pos 0 ≤ℤ y) a i)),
      λ i. subst (λ y. pos 0 ≤ℤ y) (sym a) (t.1 (subst (λ y. pos 0 ≤ℤ y) b i)),
    )

-- ---- what the tightening has so far
pub record Good (v : Values) (t : Tightened) : Type 0 where
  pub fits : AllFit v t.steps
  pub nonneg : EachRow (IsNonneg v) t.rows

pub record LowTight (t : Tightened) : Type 0 where
  pub steps : StepsBelow t.next t.steps
  pub nonneg : EachRow (Below t.next) t.rows

kept_low : (t : Tightened) (r : Row) → LowTight t → Below t.next r → LowTight (with_kept t r)
kept_low t r low b = record { steps = low.steps; nonneg = EachRow-append (Below t.next) t.rows (r ∷ []) low.nonneg (b, tt) }

floor_low : (us : List ℕ) (t : Tightened) (r : Row) → LowTight t → Below t.next r → LowTight (with_floor us t r)
floor_low us t r low b =
    let n = t.next in
    let q : ℕ → Type 0 = λ c. c < n + 1 in
    let b' = Below-more n (n + 1) (omega arith) r b in
    record {
      steps = StepsBelow-append (n + 1) t.steps (floor_of n (known_part us r) (pos (unknowns_of us r)) ∷ [])
          (StepsBelow-more n (n + 1) (omega arith) t.steps low.steps)
          ((omega arith, Over-filter q (λ (c, k). not (has_column us c)) r b'), tt);
      nonneg = EachRow-append (Below (n + 1)) t.rows (floored us n r ∷ []) (EachRow-below_more n (n + 1) (omega arith) t.rows low.nonneg) (
        Over-comb q (pos 1) (divided (unknowns_of us r) (unknown_part us r)) (pos 1) ((n, pos 1) ∷ [])
            (Over-divided q (unknowns_of us r) (unknown_part us r) (Over-filter q (λ (c, k). has_column us c) r b')) (omega arith, tt),
        tt,
      );
    }

row_low : (us : List ℕ) (t : Tightened) (r : Row) → LowTight t → Below t.next r → (t.next ≤ (then_tighten us t r).next) × LowTight (then_tighten us t r)
row_low us t r low b =
    by_row (λ s. (t.next ≤ s.next) × LowTight s) us t r (omega arith, kept_low t r low b)
    (λ h e. (omega arith, kept_low t (divided (unknowns_of us r) r) low (Over-divided (λ c. c < t.next) (unknowns_of us r) r b)))
    (λ h. (omega arith, floor_low us t r low b))

kept_forth : (t : Tightened) (r : Row) (v : Values) → Good v t → IsNonneg v r → (w : Values) × Same t.next v w × Good w (with_kept t r)
kept_forth t r v good up = (v, (λ c l. refl), record { fits = good.fits; nonneg = EachRow-append (IsNonneg v) t.rows (r ∷ []) good.nonneg (up, tt) })

row_forth : (us : List ℕ) (t : Tightened) (r : Row) (v : Values) → v 0 ≡ pos 1 → Rises 0 r → LowTight t → Below t.next r → Good v t → IsNonneg v r →
    (w : Values) × Same t.next v w × Good w (then_tighten us t r)
row_forth us t r v one s low b good up =
    by_row (λ x. (w : Values) × Same t.next v w × Good w x) us t r (kept_forth t r v good up)
    (λ h e. kept_forth t (divided (unknowns_of us r) r) v good ((divided_iff v us r one s h e).0 up))
    (λ h.
    let n = t.next in
    let g = unknowns_of us r in
    let k = known_part us r in
    let z = int_div_euclid (value v k) (pos g) in
    let w = update v n z in
    let same = update-same n v n z (omega arith) in
    let i = value-same n v w same k (Over-filter (λ c. c < n) (λ (c, k). not (has_column us c)) r b) in
    let f : w n ≡ int_div_euclid (value w k) (pos g) = update-at v n z ∙ ap (λ y. int_div_euclid y (pos g)) i in
    let up' : IsNonneg w r = subst (λ y. pos 0 ≤ℤ y) (value-same n v w same r b) up in (
      w,
      same,
      record {
        fits = AllFit-append w t.steps (floor_of n k (pos g) ∷ []) (AllFit-same n v w same t.steps low.steps good.fits) (f, tt);
        nonneg = EachRow-append (IsNonneg w) t.rows (floored us n r ∷ []) (EachRow-same nonneg_value n v w same t.rows low.nonneg good.nonneg)
            ((floored_iff w us n r h f).0 up', tt);
      },
    ))

kept_back : (t : Tightened) (r : Row) (v : Values) → Good v (with_kept t r) → Good v t × IsNonneg v r
kept_back t r v good = let s = EachRow-split (IsNonneg v) t.rows (r ∷ []) good.nonneg in (record { fits = good.fits; nonneg = s.0 }, s.1.0)

row_back : (us : List ℕ) (t : Tightened) (r : Row) (v : Values) → v 0 ≡ pos 1 → Rises 0 r → Good v (then_tighten us t r) → Good v t × IsNonneg v r
row_back us t r v one s =
    by_row (λ x. Good v x → Good v t × IsNonneg v r) us t r (kept_back t r v)
    (λ h e good. let b = kept_back t (divided (unknowns_of us r) r) v good in (b.0, (divided_iff v us r one s h e).1 b.1))
    (λ h good.
    let f = AllFit-split v t.steps (floor_of t.next (known_part us r) (pos (unknowns_of us r)) ∷ []) good.fits in
    let n = EachRow-split (IsNonneg v) t.rows (floored us t.next r ∷ []) good.nonneg in
    (record { fits = f.0; nonneg = n.0 }, (floored_iff v us t.next r h f.1.0).1 n.1.0))

abbrev pub tight : List ℕ → Tightened → List Row → Tightened
tight us t rows = fold (then_tighten us) t rows

pub all_low : (us : List ℕ) (rows : List Row) (t : Tightened) → LowTight t → EachRow (Below t.next) rows →
    (t.next ≤ (tight us t rows).next) × LowTight (tight us t rows)
all_low us [] t low b = (omega arith, low)
all_low us (r ∷ rows) t low b =
    let l = row_low us t r low b.0 in
    let le = l.0 in
    let a = all_low us rows (then_tighten us t r) l.1 (EachRow-below_more t.next (then_tighten us t r).next le rows b.1) in
    let le' = a.0 in
    (omega arith, a.1)

all_forth : (us : List ℕ) (rows : List Row) (t : Tightened) (v : Values) → v 0 ≡ pos 1 → EachRow (Rises 0) rows → 0 < t.next → LowTight t →
    EachRow (Below t.next) rows → Good v t → EachRow (IsNonneg v) rows →
    (w : Values) × Same t.next v w × Good w (tight us t rows)
all_forth us [] t v one s p low b good up = (v, (λ c l. refl), good)
all_forth us (r ∷ rows) t v one s p low b good up =
    let u = then_tighten us t r in
    let l = row_low us t r low b.0 in
    let le = l.0 in
    let f = row_forth us t r v one s.0 low b.0 good up.0 in
    let g = all_forth us rows u f.0 (sym (f.1 0 p) ∙ one) s.1 (omega arith) l.1 (EachRow-below_more t.next u.next le rows b.1) f.2
    (EachRow-same nonneg_value t.next v f.0 f.1 rows b.1 up.1) in
    (g.0, Same-trans t.next u.next v f.0 g.0 le f.1 g.1, g.2)

all_back : (us : List ℕ) (rows : List Row) (t : Tightened) (v : Values) → v 0 ≡ pos 1 → EachRow (Rises 0) rows → Good v (tight us t rows) →
    Good v t × EachRow (IsNonneg v) rows
all_back us [] t v one s good = (good, tt)
all_back us (r ∷ rows) t v one s good =
    let b = all_back us rows (then_tighten us t r) v one s.1 good in
    let c = row_back us t r v one s.0 b.0 in
    (c.0, (c.1, b.1))

-- ---- the step
pub clean_keeps : (m : System) → Low m → 0 < m.next → EachRow (Rises 0) m.inequalities → Keeps m (clean m)
unfolding clean
clean_keeps m low p rises =
    let us = m.unknown in
    let has : Row → Bool = has_unknown us in
    let zeros = filter (λ r. not (has_unknown us r)) m.equations in
    let nonnegs = filter (λ r. not (has_unknown us r)) m.inequalities in
    let rows = filter (has_unknown us) m.inequalities in
    let start : Tightened = record { next = m.next; made = []; steps = []; rows = [] } in
    let t = tight us start rows in
    record {
      forth = λ v one h.
          let f = all_forth us rows start v one (EachRow-filter (Rises 0) has m.inequalities rises) p (record { steps = tt; nonneg = tt })
          (EachRow-filter (Below m.next) has m.inequalities low.nonneg)
          (record { fits = tt; nonneg = tt }) (EachRow-filter (IsNonneg v) has m.inequalities h.nonneg) in
          let w = f.0 in
          let ze = EachRow-same zero_value m.next v w f.1 m.equations low.zero h.zero in
          let no = EachRow-same nonneg_value m.next v w f.1 m.inequalities low.nonneg h.nonneg in (
            w,
            f.1,
            tt,
            AllFit-append w (map need_zero zeros ++ map need_nonneg nonnegs) t.steps
                (AllFit-append w (map need_zero zeros) (map need_nonneg nonnegs)
                (zeros_fit w zeros (EachRow-filter (IsZero w) (λ r. not (has r)) m.equations ze))
                (nonnegs_fit w nonnegs (EachRow-filter (IsNonneg w) (λ r. not (has r)) m.inequalities no))) f.2.fits,
            record { zero = EachRow-filter (IsZero w) has m.equations ze; nonneg = distinct_forth (IsNonneg w) [] t.rows f.2.nonneg },
          );
      back = λ v one _ fit h.
          let g = AllFit-split v (map need_zero zeros ++ map need_nonneg nonnegs) t.steps fit in
          let f = AllFit-split v (map need_zero zeros) (map need_nonneg nonnegs) g.0 in
          let b = all_back us rows start v one (EachRow-filter (Rises 0) has m.inequalities rises)
          (record { fits = g.1; nonneg = distinct_back (IsNonneg v) [] t.rows tt h.nonneg }) in
          record {
            zero = EachRow-unfilter (IsZero v) has m.equations (zeros_from v zeros f.0) h.zero;
            nonneg = EachRow-unfilter (IsNonneg v) has m.inequalities (nonnegs_from v nonnegs f.1) b.1;
          };
    }
