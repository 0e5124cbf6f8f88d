-- What a Clean leaves, counted before it is made.
use Rattle.std.proofs.Common.{◌≡◌, ◌≢◌, ℕ, zero, suc, ◌+◌, ◌<◌, ◌≤◌, ◌==◌, ◌-◌, ◌%◌, ℤ, pos, negsuc, ◌+ℤ◌, ◌-ℤ◌, ◌*ℤ◌, ◌⊎◌, inl, inr, ⊎_elim, List, [], ◌∷◌, ◌++◌, Bool, true, false, not, ◌&&◌, ◌||◌, cond, refl, sym, ◌∙◌, ap, arith, subst, length, append_assoc, get_or, take, drop, drop-cons, add-one, ap₂, ◌<ℤ◌}
use Rattle.std.specs.Prelude.{filter, nat_lt, nat_le, unsigned_abs, Option, Some, None, Result, Ok, Err, if◌then◌else◌}
use Rattle.std.specs.List.{list_any, list_all, fold}
use Rattle.std.specs.Int.{int_div_euclid, int_rem_euclid}
use Rattle.std.proofs.lemmas.Int.{ints}
use Rattle.std.proofs.lemmas.Bool.{lt-ltb, le-ltb, ltb-true, ltb-false, leb-true, leb-false, eqb-true, eq-eqb, ne_eqb, and_parts, true≢false}
use Rattle.std.proofs.lemmas.List.{append-nil, length-append, take_more}
use Rattle.std.proofs.Math.ListN.{drop_of_length-le}
use Rattle.std.proofs.lemmas.List.Folds.{list_any-append}
use Rattle.std.proofs.Math.Nat.{div-add-mod}
use Rattle.cf_num.specs.Divisors.{gcd_of}
use Rattle.cf_num.proofs.DivisionLemmas.{int_div_euclid_once, int_div_euclid-one}
use Rattle.cf_num.proofs.DivisorLemmas.{gcd_of-is}
use Rattle.cf_linear.specs.declared.refusal.LimitKind.TheVariants.{Rows, Columns}
use Rattle.cf_linear.specs.declared.refusal.Refusal.TheVariants.{Limit}
use Rattle.cf_linear.specs.Rows.{Row, entry, is_zero, put, comb, same_row, Rises, IsRow}
use Rattle.cf_linear.specs.Relations.{Divides}
use Rattle.cf_linear.specs.RowParts.{divides_known, divided_by}
use Rattle.cf_linear.specs.Systems.{System, EachRow, rows_of, columns_of}
use Rattle.cf_linear.specs.Steps.{has_column, has_unknown, unknown_part, known_part, common, divides_it, divided, Tightened, then_tighten, tighten_all, distinct_after, clean}
use Rattle.cf_linear.specs.Stages.{limits, first_count}
use Rattle.cf_linear.specs.Keep.{Over, Formed}
use Rattle.cf_linear.proofs.BoolLemmas.{on_bool}
use Rattle.cf_linear.proofs.RowLemmas.{zero_from_is_zero, entry-comb}
use Rattle.cf_linear.proofs.RowTests.{same_row-is, same_row-refl}
use Rattle.cf_linear.proofs.Canonical.{entry-low, entry-head, row_ext}
use Rattle.cf_linear.proofs.CombLemmas.{entry-put, put-append}
use Rattle.cf_linear.proofs.FormedLemmas.{low_from}
use Rattle.cf_linear.proofs.KindLemmas.{Below, Below-more, EachRow-below_more, Over-comb, Over-filter}
use Rattle.cf_linear.proofs.MapLemmas.{put_nonzero}
use Rattle.cf_linear.proofs.PartLemmas.{Rises-divided}
use Rattle.cf_bounds.proofs.CleanLemmas.{EntriesDiv, common-divides, exact_quotient, unknowns_of, floored, with_kept, with_floor, tight, Over-divided}
use Rattle.cf_elim.specs.declared.fault.ElimFault.{ElimFault}
use Rattle.cf_elim.specs.declared.fault.ElimFault.TheVariants.{Refused, NoMemory}
use Rattle.cf_elim.specs.Stages.{CountIs, MayLackAt}
use Rattle.cf_cert.specs.Counting.{AreAtMost, divisor, is_divided, gets_column, is_equal, repeats, agrees}

-- ---- the divisor of a row
zero_divides : (k : ℤ) → Divides (pos 0) k → k ≡ pos 0
zero_divides k d = let e = d.1 in omega (arith, ints)

above_none : (g : ℕ) (k : ℤ) → k ≢ pos 0 → Divides (pos g) k → 0 < g
above_none zero k n d = absurd (n (zero_divides k d))
above_none (suc g) k n d = omega arith

-- it is above 0 exactly where the row holds an unknown
held_divisor : (us : List ℕ) (c : ℕ) (r : Row) → Rises c r → nat_lt 0 (divisor us r) ≡ has_unknown us r
held_divisor us c [] p = refl
held_divisor us c ((d, k) ∷ r) p = on_bool (has_column us d)
    (λ t.
    let e : Divides (pos (gcd_of (unsigned_abs k) (divisor us r))) k = (common-divides ((d, k) ∷ unknown_part us r)).0 in
    rw t (lt-ltb 0 (gcd_of (unsigned_abs k) (divisor us r)) (above_none (gcd_of (unsigned_abs k) (divisor us r)) k p.1 e)))
    (λ t. rw t (held_divisor us (suc d) r p.2))

-- ---- what is divided
divides_so : (g : ℕ) (k : ℤ) → 0 < g → Divides (pos g) k → divides_it g k ≡ true
divides_so g (pos n) h d =
    let e = exact_quotient g (pos n) h d in
    let f = div-add-mod n g in
    eq-eqb (n % g) 0 (omega (arith, ints, e, f))
divides_so g (negsuc n) h d =
    let e = exact_quotient g (negsuc n) h d in
    let f = div-add-mod n g in
    eq-eqb (g - 1 - n % g) 0 (omega (arith, ints, e, f))

or_true : (b : Bool) → (b || true) ≡ true
or_true true = refl
or_true false = refl

or_false : (b : Bool) → (b || false) ≡ b
or_false true = refl
or_false false = refl

or_swap : (a b : Bool) → (a || b) ≡ (b || a)
or_swap true b = sym (or_true b)
or_swap false b = sym (or_false b)

-- the unknowns are divided, so that of the rest the known part alone is asked
whole_divided : (us : List ℕ) (g : ℕ) (r : Row) → 0 < g → EntriesDiv g (unknown_part us r) →
    list_all (λ (c, k). (c == 0) || divides_it g k) (known_part us r) ≡ divides_known (pos g) r
whole_divided us g [] h d = refl
whole_divided us g ((c, k) ∷ r) h d = on_bool (has_column us c)
    (λ t.
    let dd : Divides (pos g) k × EntriesDiv g (unknown_part us r) = rw t at d in
    rw (t, divides_so g k h dd.0, or_true (c == 0)) (whole_divided us g r h dd.1))
    (λ t. rw t (ap (λ b. ((c == 0) || divides_it g k) && b) (whole_divided us g r h (rw t at d))))

one_divides : (r : Row) → divides_known (pos 1) r ≡ true
one_divides [] = refl
one_divides ((c, k) ∷ r) = rw (divides_so 1 k (omega arith) (k, omega (arith, ints)), or_true (c == 0)) (one_divides r)

put_some : (c : ℕ) (k : ℤ) (r : Row) → k ≢ pos 0 → put c k r ≡ (c, k) ∷ r
put_some c k r h = put-append c k r ∙ rw (put_nonzero c k h) refl

divided_one : (c : ℕ) (r : Row) → Rises c r → divided 1 r ≡ r
divided_one c [] p = refl
divided_one c ((d, k) ∷ r) p = rw (int_div_euclid-one k, divided_one (suc d) r p.2) (put_some d k r p.1)

-- a row that holds an unknown is divided, or gets a column
record IsKept (us : List ℕ) (t : Tightened) (r : Row) : Type 0 where
  divides : is_divided us r ≡ true
  column : gets_column us r ≡ false
  is : then_tighten us t r ≡ with_kept t (divided (divisor us r) r)

record IsFloored (us : List ℕ) (t : Tightened) (r : Row) : Type 0 where
  divides : is_divided us r ≡ false
  column : gets_column us r ≡ true
  is : then_tighten us t r ≡ with_floor us t r

tightens : (us : List ℕ) (t : Tightened) (r : Row) → Rises 0 r → has_unknown us r ≡ true → IsKept us t r ⊎ IsFloored us t r
tightens us t r p h =
    let d = divisor us r in
    let some : nat_lt 0 d ≡ true = held_divisor us 0 r p ∙ h in
    let above : 0 < d = ltb-true 0 d some in
    let whole = whole_divided us d r above (common-divides (unknown_part us r)) in
    on_bool (nat_le d 1)
    (λ e.
    let low = leb-true d 1 e in
    let one : d ≡ 1 = omega arith in
    let all : divides_known (pos d) r ≡ true = subst (λ (g : ℕ). divides_known (pos g) r ≡ true) (sym one) (one_divides r) in
    let same : divided d r ≡ r = subst (λ (g : ℕ). divided g r ≡ r) (sym one) (divided_one 0 r p) in
    inl (record { divides = rw (some, all) refl; column = rw (some, all) refl; is = rw e (ap (with_kept t) (sym same)) }))
    (λ e. on_bool (divides_known (pos d) r)
    (λ f. inl (record { divides = rw (some, f) refl; column = rw (some, f) refl; is = rw (e, whole ∙ f) refl }))
    (λ f. inr (record { divides = rw (some, f) refl; column = rw (some, f) refl; is = rw (e, whole ∙ f) refl })))

-- a row that holds none is neither
bare : (us : List ℕ) (r : Row) → Rises 0 r → has_unknown us r ≡ false → (is_divided us r ≡ false) × (gets_column us r ≡ false)
bare us r p h = let none : nat_lt 0 (divisor us r) ≡ false = held_divisor us 0 r p ∙ h in (rw none refl, rw none refl)

-- ---- columns
made_count : (us : List ℕ) (rows : List Row) (t : Tightened) → EachRow (Rises 0) rows →
    length (tight us t (filter (has_unknown us) rows)).made ≡ length t.made + length (filter (gets_column us) rows)
made_count us [] t p = omega arith
made_count us (r ∷ rows) t p = on_bool (has_unknown us r)
    (λ h. ⊎_elim
    (λ (k : IsKept us t r). rw (h, k.column) (subst (λ (s : Tightened). length (tight us s (filter (has_unknown us) rows)).made ≡ length t.made + length
    (filter (gets_column us) rows)) (sym k.is) (made_count us rows (with_kept t (divided (divisor us r) r)) p.1)))
    (λ (k : IsFloored us t r). rw (h, k.column) (subst (λ (s : Tightened). length (tight us s (filter (has_unknown us) rows)).made ≡ length t.made + suc (length
    (filter (gets_column us) rows))) (sym k.is)
    (made_count us rows (with_floor us t r) p.1 ∙ omega (arith, length-append t.made (t.next ∷ [])))))
    (tightens us t r p.0 h))
    (λ h. rw (h, (bare us r p.0 h).1) (made_count us rows t p.1))

-- ---- equal rows
-- whether s, divided, is the row q
abbrev is_twin : List ℕ → Row → Row → Bool
is_twin us q s = is_divided us s && same_row q (divided (divisor us s) s)

module _ (us : List ℕ) (r s : Row) where
  pub equal_not : is_divided us r ≡ false → false ≡ is_equal us r s
  equal_not e = rw e refl

  pub equal_other : is_divided us s ≡ false → false ≡ is_equal us r s
  equal_other e = on_bool (is_divided us r) (λ f. rw (f, e) refl) (λ f. rw f refl)

  pub equal_both : (g h : ℤ) (b : Bool) → g ≡ pos (divisor us r) → h ≡ pos (divisor us s) → is_divided us r ≡ true → is_divided us s ≡ true →
      b ≡ same_row (divided_by g r) (divided_by h s) → b ≡ is_equal us r s
  equal_both g h b ge he e f q = (rw (ge, he) at q) ∙ sym (rw (e, f) refl)

equal_any : (us : List ℕ) (r : Row) (before : List Row) → is_divided us r ≡ true →
    list_any (is_equal us r) before ≡ list_any (is_twin us (divided (divisor us r) r)) before
equal_any us r [] e = refl
equal_any us r (s ∷ before) e = rw (e, equal_any us r before e) refl

equal_none : (us : List ℕ) (r : Row) (before : List Row) → is_divided us r ≡ false → list_any (is_equal us r) before ≡ false
equal_none us r [] e = refl
equal_none us r (s ∷ before) e = rw (e, equal_none us r before e) refl

any_last : (p : Row → Bool) (rows : List Row) (r : Row) → list_any p (rows ++ (r ∷ [])) ≡ (list_any p rows || p r)
any_last p rows r = list_any-append p rows (r ∷ []) ∙ ap (λ b. list_any p rows || b) (or_false (p r))

low_entry : (n : ℕ) (r : Row) → Below n r → entry r n ≡ pos 0
low_entry n [] b = refl
low_entry n ((c, k) ∷ r) b =
    let l = b.0 in
    let e : c == n ≡ false = ne_eqb c n (λ q. omega arith) in
    rw (e, low_entry n r b.1) refl

-- a row that got the column n is none of those below it
floored_new : (us : List ℕ) (n : ℕ) (r : Row) → Below n r → Below n (floored us n r) → ⊥
floored_new us n r b low =
    let d = divided (unknowns_of us r) (unknown_part us r) in
    let none : entry d n ≡ pos 0 = low_entry n d
    (Over-divided (λ c. c < n) (unknowns_of us r) (unknown_part us r) (Over-filter (λ c. c < n) (λ (c, k). has_column us c) r b)) in
    let one : entry ((n, pos 1) ∷ []) n ≡ pos 1 = rw (eq-eqb n n refl) refl in
    let e = entry-comb n (pos 1) d (pos 1) ((n, pos 1) ∷ []) in
    let f : entry (floored us n r) n ≡ pos 1 = e ∙ rw (none, one) refl in
    one_some (sym f ∙ low_entry n (floored us n r) low)
  where
    one_some : pos 1 ≢ pos 0
    one_some e = absurd (let i = ap unsigned_abs e in omega (arith, i))

floored_below : (us : List ℕ) (n : ℕ) (r : Row) → Below n r → Below (n + 1) (floored us n r)
floored_below us n r b =
    let q : ℕ → Type 0 = λ c. c < n + 1 in
    Over-comb q (pos 1) (divided (unknowns_of us r) (unknown_part us r)) (pos 1) ((n, pos 1) ∷ [])
    (Over-divided q (unknowns_of us r) (unknown_part us r) (Over-filter q (λ (c, k). has_column us c) r (Below-more n (n + 1) (omega arith) r b)))
    (omega arith, tt)

not_same : (n : ℕ) (q s : Row) → Below n s → (Below n q → ⊥) → same_row q s ≡ false
not_same n q s b out = on_bool (same_row q s) (λ e. absurd (out (subst (Below n) (sym (same_row-is q s e)) b))) (λ e. e)

none_seen : (n : ℕ) (q : Row) (seen : List Row) → EachRow (Below n) seen → (Below n q → ⊥) → list_any (same_row q) seen ≡ false
none_seen n q [] b out = refl
none_seen n q (s ∷ seen) b out = rw (not_same n q s b.0 out, none_seen n q seen b.1 out) refl

-- of the rows before, those that were divided are the rows below the first new column that are seen
record Met (us : List ℕ) (first n : ℕ) (seen before : List Row) : Type 0 where
  same : (q : Row) → Below first q → list_any (same_row q) seen ≡ list_any (is_twin us q) before
  below : EachRow (Below n) seen
  low : first ≤ n

module _ (us : List ℕ) (first n : ℕ) (seen before : List Row) (m : Met us first n seen before) (r : Row) where
  abbrev row : Row
  row = divided (divisor us r) r

  met_other : is_divided us r ≡ false → Met us first n seen (before ++ (r ∷ []))
  met_other e = record {
    same = λ q b. m.same q b ∙ sym (any_last (is_twin us q) before r ∙ rw e (or_false (list_any (is_twin us q) before)));
    below = m.below;
    low = m.low;
  }

  met_again : is_divided us r ≡ true → Below first row → list_any (same_row row) seen ≡ true → Met us first n seen (before ++ (r ∷ []))
  met_again e l s = record {
    same = λ q b. on_bool (same_row q row)
        (λ f.
        let i : q ≡ row = same_row-is q row f in
        let j : list_any (same_row q) seen ≡ true = subst (λ (x : Row). list_any (same_row x) seen ≡ true) (sym i) s in
        j ∙ sym (any_last (is_twin us q) before r ∙ rw (e, f) (or_true (list_any (is_twin us q) before))))
        (λ f. m.same q b ∙ sym (any_last (is_twin us q) before r ∙ rw (e, f) (or_false (list_any (is_twin us q) before))));
    below = m.below;
    low = m.low;
  }

  met_new : is_divided us r ≡ true → Below first row → Met us first n (row ∷ seen) (before ++ (r ∷ []))
  met_new e l = record {
    same = λ q b. or_swap (same_row q row) (list_any (same_row q) seen) ∙ ap (λ x. x || same_row q row) (m.same q b) ∙
        sym (any_last (is_twin us q) before r ∙ rw e refl);
    below = (Below-more first n m.low row l, m.below);
    low = m.low;
  }

  met_floor : is_divided us r ≡ false → Below n r → Met us first (n + 1) (floored us n r ∷ seen) (before ++ (r ∷ []))
  met_floor e l =
      let low = m.low in
      record {
        same = λ q b.
            let other : same_row q (floored us n r) ≡ false = on_bool (same_row q (floored us n r))
            (λ f. absurd (floored_new us n r l (Below-more first n low (floored us n r) (subst (Below first) (same_row-is q (floored us n r) f) b))))
            (λ f. f) in
            rw other (m.same q b ∙ sym (any_last (is_twin us q) before r ∙ rw e (or_false (list_any (is_twin us q) before))));
        below = (floored_below us n r l, EachRow-below_more n (n + 1) (omega arith) seen m.below);
        low = omega arith;
      }

-- what the tightening adds of the rows, of which each repeat goes
record IsCounted (us : List ℕ) (t : Tightened) (seen before rows : List Row) : Type 0 where
  kept : List Row
  is : (tight us t (filter (has_unknown us) rows)).rows ≡ t.rows ++ kept
  count : length (distinct_after seen kept) + repeats us before rows ≡ length (filter (has_unknown us) rows)

module _ (us : List ℕ) (first : ℕ) where
  distinct_count : (rows : List Row) (t : Tightened) (seen before : List Row) → Met us first t.next seen before → EachRow (Below first) rows →
      EachRow (Rises 0) rows → IsCounted us t seen before rows
  distinct_count [] t seen before m b p = record { kept = []; is = sym (append-nil t.rows); count = refl }
  distinct_count (r ∷ rows) t seen before m b p =
      let q = divided (divisor us r) r in
      let next = before ++ (r ∷ []) in
      let held = filter (has_unknown us) rows in
      on_bool (has_unknown us r)
      (λ h. ⊎_elim
      (λ (k : IsKept us t r).
      let l : Below first q = Over-divided (λ c. c < first) (divisor us r) r b.0 in
      let s = equal_any us r before k.divides ∙ sym (m.same q l) in
      on_bool (list_any (same_row q) seen)
      (λ e.
      let i = distinct_count rows (with_kept t q) seen next (met_again us first t.next seen before m r k.divides l e) b.1 p.1 in
      let c = i.count in
      record {
        kept = q ∷ i.kept;
        is = rw h (subst (λ (x : Tightened). (tight us x held).rows ≡ t.rows ++ (q ∷ i.kept)) (sym k.is) (i.is ∙ append_assoc t.rows (q ∷ []) i.kept));
        count = rw (h, e, s ∙ e) (omega (arith, c));
      })
      (λ e.
      let i = distinct_count rows (with_kept t q) (q ∷ seen) next (met_new us first t.next seen before m r k.divides l) b.1 p.1 in
      let c = i.count in
      record {
        kept = q ∷ i.kept;
        is = rw h (subst (λ (x : Tightened). (tight us x held).rows ≡ t.rows ++ (q ∷ i.kept)) (sym k.is) (i.is ∙ append_assoc t.rows (q ∷ []) i.kept));
        count = rw (h, e, s ∙ e) (omega (arith, c));
      }))
      (λ (k : IsFloored us t r).
      let f = floored us t.next r in
      let l : Below t.next r = Below-more first t.next m.low r b.0 in
      let e : list_any (same_row f) seen ≡ false = none_seen t.next f seen m.below (floored_new us t.next r l) in
      let i = distinct_count rows (with_floor us t r) (f ∷ seen) next (met_floor us first t.next seen before m r k.divides l) b.1 p.1 in
      let c = i.count in
      record {
        kept = f ∷ i.kept;
        is = rw h (subst (λ (x : Tightened). (tight us x held).rows ≡ t.rows ++ (f ∷ i.kept)) (sym k.is) (i.is ∙ append_assoc t.rows (f ∷ []) i.kept));
        count = rw (h, e, equal_none us r before k.divides) (omega (arith, c));
      })
      (tightens us t r p.0 h))
      (λ h.
      let n = (bare us r p.0 h).0 in
      let i = distinct_count rows t seen next (met_other us first t.next seen before m r n) b.1 p.1 in
      let c = i.count in
      record {
        kept = i.kept;
        is = rw h i.is;
        count = rw (h, equal_none us r before n) (omega (arith, c));
      })

-- ---- the loops over rows
repeats_append : (us : List ℕ) (before rows : List Row) (r : Row) →
    repeats us before (rows ++ (r ∷ [])) ≡ repeats us before rows + (if list_any (is_equal us r) (before ++ rows) then 1 else 0)
repeats_append us before [] r = rw (append-nil before) (omega arith)
repeats_append us before (s ∷ rows) r =
    let i = repeats_append us (before ++ (s ∷ [])) rows r in
    let e : (before ++ (s ∷ [])) ++ rows ≡ before ++ (s ∷ rows) = append_assoc before (s ∷ []) rows in
    let j = rw e at i in
    omega (arith, j)

module _ (us : List ℕ) (rows : List Row) (i : ℕ) (h : i < length rows) (r : Row) (is : r ≡ get_or rows i r) (n : ℕ) (e : n ≡ repeats us [] (take i rows)) where
  last_repeats : repeats us [] (take (i + 1) rows) ≡ repeats us [] (take i rows) + (if list_any (is_equal us r) (take i rows) then 1 else 0)
  last_repeats = ap (repeats us []) (take_more rows i r h ∙ ap (λ (x : Row). take i rows ++ (x ∷ [])) (sym is)) ∙ repeats_append us [] (take i rows) r

  pub repeat_more : list_any (is_equal us r) (take i rows) ≡ true → n + 1 ≡ repeats us [] (take (i + 1) rows)
  repeat_more a = let l = rw a at last_repeats in omega (arith, l, e)

  pub repeat_same : list_any (is_equal us r) (take i rows) ≡ false → n ≡ repeats us [] (take (i + 1) rows)
  repeat_same a = let l = rw a at last_repeats in omega (arith, l, e)

-- ---- two rows
pub divided_positive : (us : List ℕ) (r : Row) (g : ℤ) → g ≡ pos (divisor us r) → is_divided us r ≡ true → pos 0 <ℤ g
divided_positive us r g e d =
    let a = and_parts (nat_lt 0 (divisor us r)) (divides_known (pos (divisor us r)) r) d in
    let l = ltb-true 0 (divisor us r) a.0 in
    omega (arith, ints, e, l)

-- ---- the system that is left
parts_length : (p : Row → Bool) (rows : List Row) → length (filter p rows) + length (filter (λ r. not (p r)) rows) ≡ length rows
parts_length p [] = refl
parts_length p (r ∷ rows) = let i = parts_length p rows in on_bool (p r) (λ e. rw e (omega (arith, i))) (λ e. rw e (omega (arith, i)))

abbrev start : System → Tightened
start m = record { next = m.next; made = []; steps = []; rows = [] }

pub rows_left : (m : System) → Formed m → rows_of (clean m).system + repeats m.unknown [] m.inequalities ≡ rows_of m
unfolding clean
rows_left m f =
    let us = m.unknown in
    let i = distinct_count us m.next m.inequalities (start m) [] [] (record { same = λ q b. refl; below = tt; low = omega arith }) (low_from m f).nonneg
    f.nonneg_rise in
    let count : length (distinct_after [] (tight us (start m) (filter (has_unknown us) m.inequalities)).rows) + repeats us [] m.inequalities ≡ length
    (filter (has_unknown us) m.inequalities) = rw i.is i.count in
    omega (arith, count, parts_length (has_unknown us) m.equations, parts_length (has_unknown us) m.inequalities)

pub columns_left : (m : System) → Formed m → columns_of (clean m).system ≡ columns_of m + length (filter (gets_column m.unknown) m.inequalities)
unfolding clean
columns_left m f =
    let us = m.unknown in
    let made = (tight us (start m) (filter (has_unknown us) m.inequalities)).made in
    let count : length made ≡ 0 + length (filter (gets_column us) m.inequalities) = made_count us m.inequalities (start m) f.nonneg_rise in
    omega (arith, count, length-append m.known made)

-- without repeats and new columns they are as many, or less
pub rows_low : (m : System) (n : ℕ) → Formed m → rows_of m ≤ n → rows_of (clean m).system ≤ n
rows_low m n f l = let e = rows_left m f in omega (arith, e)

filter_low : (p : Row → Bool) (rows : List Row) → length (filter p rows) ≤ length rows
filter_low p rows = let e = parts_length p rows in omega (arith, e)

pub columns_low : (m : System) (n : ℕ) → Formed m → columns_of m + length m.inequalities ≤ n → columns_of (clean m).system ≤ n
columns_low m n f l = let e = columns_left m f in let i = filter_low (gets_column m.unknown) m.inequalities in omega (arith, e, i)

-- ---- rows, and then columns
pub rows_within : (m : System) (r : Result (Unit {0}) ElimFault) → rows_of m ≤ limits.rows → AreAtMost Columns limits.columns (columns_of m) r →
    CountIs (first_count limits m) r
rows_within m (Ok u) l h = rw (le-ltb limits.rows (rows_of m) l, le-ltb limits.columns (columns_of m) h) refl
rows_within m (Err (Refused r)) l h = rw (le-ltb limits.rows (rows_of m) l, lt-ltb limits.columns (columns_of m) h.0) (ap Some (sym h.1))
rows_within m (Err NoMemory) l h = rw (le-ltb limits.rows (rows_of m) l, lt-ltb limits.columns (columns_of m) h.0) h.1

pub rows_out : (m : System) (f : ElimFault) → AreAtMost Rows limits.rows (rows_of m) (Err f) → CountIs (first_count limits m) (Err f)
rows_out m (Refused r) h = rw (lt-ltb limits.rows (rows_of m) h.0) (ap Some (sym h.1))
rows_out m NoMemory h = rw (lt-ltb limits.rows (rows_of m) h.0) h.1

-- ---- rows that are the same when they are divided
zero_quotient : (g : ℕ) → 0 < g → int_div_euclid (pos 0) (pos g) ≡ pos 0
zero_quotient g h = int_div_euclid_once (pos 0) (pos g) (pos 0) (omega (arith, ints)) (omega (arith, ints)) (omega (arith, ints))

divided_entry : (g c x : ℕ) (r : Row) → 0 < g → Rises c r → entry (divided g r) x ≡ int_div_euclid (entry r x) (pos g)
divided_entry g c x [] h p = sym (zero_quotient g h)
divided_entry g c x ((d, k) ∷ r) h p =
    entry-put x d (int_div_euclid k (pos g)) (divided g r) ∙
    rw (divided_entry g (suc d) x r h p.2) (on_bool (d == x)
    (λ e.
    let z : entry r x ≡ pos 0 = entry-low (suc d) r x p.2 (let q = eqb-true d x e in omega arith) in
    let w = zero_quotient g h in
    let s : k +ℤ pos 0 ≡ k = omega (arith, ints) in
    rw (e, z, w, s) (omega (arith, ints)))
    (λ e.
    let s : pos 0 +ℤ entry r x ≡ entry r x = omega (arith, ints) in
    rw (e, s) (omega (arith, ints))))

module _ (g h : ℕ) (s : Row) where
  -- an entry of the row r is 0, or both quotients are the same
  abbrev Agree : Row → ℕ → Type 0
  Agree r x = (entry r x ≡ pos 0) ⊎ (int_div_euclid (entry r x) (pos g) ≡ int_div_euclid (entry s x) (pos h))

  same_quotients : (a b : ℤ) → is_zero (a -ℤ b) ≡ true → a ≡ b
  same_quotients a b e = let z = zero_from_is_zero (a -ℤ b) e in omega (arith, ints)

  no_difference : (a b : ℤ) → a ≡ b → is_zero (a -ℤ b) ≡ true
  no_difference a b e = let z : a -ℤ b ≡ pos 0 = omega (arith, ints) in rw z refl

  agree_so : (c : ℕ) (r : Row) → Rises c r → agrees (pos g) (pos h) s r ≡ true → (x : ℕ) → Agree r x
  agree_so c [] p e x = inl refl
  agree_so c ((d, k) ∷ r) p e x =
      let a = and_parts (is_zero (int_div_euclid k (pos g) -ℤ int_div_euclid (entry s d) (pos h))) (agrees (pos g) (pos h) s r) e in
      on_bool (d == x)
      (λ i.
      let q = same_quotients (int_div_euclid k (pos g)) (int_div_euclid (entry s d) (pos h)) a.0 in
      subst (λ y. Agree ((d, k) ∷ r) y) (eqb-true d x i) (inr (ap (λ z. int_div_euclid z (pos g)) (entry-head c d k r p) ∙ q)))
      (λ i.
      let w : pos 0 +ℤ entry r x ≡ entry r x = omega (arith, ints) in
      rw (i, w) (agree_so (suc d) r p.2 a.1 x))

  agree_from : (c : ℕ) (r : Row) → Rises c r → ((x : ℕ) → Agree r x) → agrees (pos g) (pos h) s r ≡ true
  agree_from c [] p f = refl
  agree_from c ((d, k) ∷ r) p f =
      let is = entry-head c d k r p in
      let q : int_div_euclid k (pos g) ≡ int_div_euclid (entry s d) (pos h) = ⊎_elim (λ (z : entry ((d, k) ∷ r) d ≡ pos 0). absurd (p.1 (sym is ∙ z)))
      (λ (z : int_div_euclid (entry ((d, k) ∷ r) d) (pos g) ≡ int_div_euclid (entry s d) (pos h)). sym (ap (λ z. int_div_euclid z (pos g)) is) ∙ z) (f d) in
      rw (no_difference (int_div_euclid k (pos g)) (int_div_euclid (entry s d) (pos h)) q) (agree_from (suc d) r p.2 (λ x. on_bool (d == x)
      (λ i. inl (entry-low (suc d) r x p.2 (let l = eqb-true d x i in omega arith)))
      (λ i.
      let w : pos 0 +ℤ entry r x ≡ entry r x = omega (arith, ints) in
      let y : Agree ((d, k) ∷ r) x = f x in
      rw (i, w) at y)))

module _ (g h : ℕ) (r s : Row) (gp : 0 < g) (hp : 0 < h) (p : Rises 0 r) (q : Rises 0 s) where
  same_from : agrees (pos g) (pos h) s r ≡ true → agrees (pos h) (pos g) r s ≡ true → same_row (divided g r) (divided h s) ≡ true
  same_from e f =
      let each : (x : ℕ) → int_div_euclid (entry r x) (pos g) ≡ int_div_euclid (entry s x) (pos h) = λ x. ⊎_elim
      (λ (z : entry r x ≡ pos 0). ⊎_elim
      (λ (y : entry s x ≡ pos 0). rw (z, y) (zero_quotient g gp ∙ sym (zero_quotient h hp)))
      (λ (y : int_div_euclid (entry s x) (pos h) ≡ int_div_euclid (entry r x) (pos g)). sym y)
      (agree_so h g r 0 s q f x))
      (λ (z : int_div_euclid (entry r x) (pos g) ≡ int_div_euclid (entry s x) (pos h)). z)
      (agree_so g h s 0 r p e x) in
      let is : divided g r ≡ divided h s = row_ext 0 (divided g r) (divided h s) (Rises-divided 0 g r p) (Rises-divided 0 h s q)
      (λ x. divided_entry g 0 x r gp p ∙ each x ∙ sym (divided_entry h 0 x s hp q)) in
      subst (λ (y : Row). same_row (divided g r) y ≡ true) is (same_row-refl (divided g r))

  same_so : same_row (divided g r) (divided h s) ≡ true → (agrees (pos g) (pos h) s r && agrees (pos h) (pos g) r s) ≡ true
  same_so e =
      let is = same_row-is (divided g r) (divided h s) e in
      let each : (x : ℕ) → int_div_euclid (entry r x) (pos g) ≡ int_div_euclid (entry s x) (pos h) = λ x.
      sym (divided_entry g 0 x r gp p) ∙ ap (λ (y : Row). entry y x) is ∙ divided_entry h 0 x s hp q in
      rw (agree_from g h s 0 r p (λ x. inr (each x)), agree_from h g r 0 s q (λ x. inr (sym (each x)))) refl

  pub same_divided : (agrees (pos g) (pos h) s r && agrees (pos h) (pos g) r s) ≡ same_row (divided g r) (divided h s)
  same_divided = on_bool (same_row (divided g r) (divided h s))
      (λ e. same_so e ∙ sym e)
      (λ e. on_bool (agrees (pos g) (pos h) s r && agrees (pos h) (pos g) r s)
      (λ f. let a = and_parts (agrees (pos g) (pos h) s r) (agrees (pos h) (pos g) r s) f in absurd (true≢false (sym (same_from a.0 a.1) ∙ e)))
      (λ f. f ∙ sym e))

pub agrees_next : (g h : ℤ) (s r : Row) (i : ℕ) → i < length r →
    agrees g h s (drop i r) ≡ (is_zero (int_div_euclid (get_or r i (0, pos 0)).1 g -ℤ int_div_euclid (entry s (get_or r i (0, pos 0)).0) h) && agrees g h s
    (drop (i + 1) r))
agrees_next g h s r i l = rw (add-one, drop-cons r i (0, pos 0)) refl

pub agrees_end : (g h : ℤ) (s r : Row) (i : ℕ) → length r ≤ i → agrees g h s (drop i r) ≡ true
agrees_end g h s r i l = rw (drop_of_length-le r l) refl

natural : (g : ℤ) → pos 0 <ℤ g → g ≡ pos (unsigned_abs g)
natural g h = omega (arith, ints)

above : (g : ℤ) → pos 0 <ℤ g → 0 < unsigned_abs g
above g h = omega (arith, ints)

pub same_signed : (g h : ℤ) (r s : Row) → pos 0 <ℤ g → pos 0 <ℤ h → IsRow r → IsRow s →
    (agrees g h s r && agrees h g r s) ≡ same_row (divided_by g r) (divided_by h s)
same_signed g h r s gp hp p q =
    ap₂ (λ x y. agrees x y s r && agrees y x r s) (natural g gp) (natural h hp) ∙
    same_divided (unsigned_abs g) (unsigned_abs h) r s (above g gp) (above h hp) p.0 q.0
