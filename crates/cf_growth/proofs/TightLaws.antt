-- After a Clean, an unknown with a coefficient above 1 does not stand alone in its row; so where a search is made, some bound has a norm of at least 1 without it.
use Rattle.std.proofs.Common.{◌≡◌, ◌≢◌, ℕ, suc, ◌≤◌, ◌<◌, ◌+◌, ◌*◌, ℤ, pos, negsuc, ◌+ℤ◌, List, [], ◌∷◌, false, refl, sym, ◌∙◌, ap, arith, subst, cond, ◌==◌}
use Rattle.std.specs.Prelude.{filter, unsigned_abs, nat_le, ◌||◌, Option, Some, None, if◌then◌else◌}
use Rattle.std.specs.List.{fold, list_all}
use Rattle.std.specs.Int.{int_div_euclid}
use Rattle.std.proofs.lemmas.Int.{ints}
use Rattle.std.proofs.lemmas.Bool.{cond_both, eqb-true, eq-eqb, ne_eqb, true≢false, leb-true, leb-false}
use Rattle.std.proofs.Math.Nat.{mul-add}
use Rattle.cf_num.specs.Divisors.{gcd_by, gcd_of}
use Rattle.cf_num.proofs.DivisionLemmas.{int_div_euclid_once}
use Rattle.cf_linear.specs.Rows.{Row, norm, entry, is_zero, put, comb, without, Rises}
use Rattle.cf_linear.specs.Relations.{Divides}
use Rattle.cf_linear.specs.Systems.{System, EachRow, Step, floor_of}
use Rattle.cf_linear.specs.Steps.{has_column, has_unknown, unknown_part, known_part, common, divides_it, divided, one_at, tighten_row, Tightened, next_tightened, then_tighten, clean}
use Rattle.cf_linear.specs.Keep.{In, Over, IsColumn, Formed}
use Rattle.cf_linear.proofs.BoolLemmas.{on_bool}
use Rattle.cf_linear.proofs.RowLemmas.{zero_from_is_zero, entry-comb}
use Rattle.cf_linear.proofs.Canonical.{entry-low}
use Rattle.cf_linear.proofs.CombLemmas.{entry-put}
use Rattle.cf_linear.proofs.FormedLemmas.{column_below}
use Rattle.cf_linear.proofs.KindLemmas.{EachRow-append, EachRow-filter, EachRow-weaker, Over-weaker, Over-filter, Rises-filter}
use Rattle.cf_bounds.proofs.CleanLemmas.{EntriesDiv, common-divides, exact_quotient, Over-divided, distinct_forth}
use Rattle.cf_bounds.proofs.OwesLemmas.{has-in}
use Rattle.cf_growth.specs.Tracing.{IsTight}
use Rattle.cf_growth.proofs.NormLaws.{abs-mul, abs-add}

-- ---- rows and their norms
norm-without-put : (x c : ℕ) (k : ℤ) (r : Row) → norm (without x (put c k r)) ≡ (if c == x then 0 else unsigned_abs k) + norm (without x r)
norm-without-put x c k r = on_bool (is_zero k)
    (λ z. rw (z, zero_from_is_zero k z) (cond_both (c == x) 0 0 (λ n. norm (without x r) ≡ n + norm (without x r)) (λ _. omega arith) (λ _. omega arith)))
    (λ z. rw z (on_bool (c == x) (λ e. rw e (omega arith)) (λ e. rw e refl)))

-- another column has an entry of at most the norm without x
entry_within : (c x : ℕ) (r : Row) → c ≢ x → unsigned_abs (entry r c) ≤ norm (without x r)
entry_within c x [] n = omega arith
entry_within c x ((d, k) ∷ r) n =
    let h = entry_within c x r n in
    on_bool (d == x)
    (λ e. let f : d == c ≡ false = ne_eqb d c (λ q. n (sym q ∙ eqb-true d x e)) in rw (e, f) (let s = abs-add (pos 0) (entry r c) in omega arith))
    (λ e. rw e (on_bool (d == c) (λ f. rw f (let s = abs-add k (entry r c) in omega arith)) (λ f. rw f (let s = abs-add (pos 0) (entry r c) in omega arith))))

-- a row with nothing but x has the entry of x as its common divisor
gcd_zero : (a : ℕ) → gcd_of a 0 ≡ a
unfolding gcd_by
gcd_zero a = refl

common_alone : (c x : ℕ) (r : Row) → Rises c r → norm (without x r) ≡ 0 → common r ≡ unsigned_abs (entry r x)
common_alone c x [] p h = refl
common_alone c x ((d, k) ∷ r) p h = on_bool (d == x)
    (λ e.
    let z : entry r x ≡ pos 0 = entry-low (suc d) r x p.2 (let q = eqb-true d x e in omega arith) in
    let again : common r ≡ unsigned_abs (entry r x) = common_alone (suc d) x r p.2 (rw e at h) in
    let none : common r ≡ 0 = again ∙ ap unsigned_abs z in
    rw (e, none, z) (gcd_zero (unsigned_abs k) ∙ plus_none k))
    (λ e.
    let s : unsigned_abs k + norm (without x r) ≡ 0 = rw e at h in
    absurd (p.1 (none_abs k (omega arith))))
  where
    plus_none : (k : ℤ) → unsigned_abs k ≡ unsigned_abs (k +ℤ pos 0)
    plus_none k = omega (arith, ints)

    none_abs : (k : ℤ) → unsigned_abs k ≡ 0 → k ≡ pos 0
    none_abs k h = omega (arith, ints)

-- ---- the part of the unknowns
part_norm : (us : List ℕ) (x : ℕ) (r : Row) → norm (without x (unknown_part us r)) ≤ norm (without x r)
part_norm us x [] = omega arith
part_norm us x ((c, k) ∷ r) =
    let h = part_norm us x r in
    on_bool (has_column us c)
    (λ t. rw t (on_bool (c == x) (λ e. rw e h) (λ e. rw e (omega arith))))
    (λ t. rw t (on_bool (c == x) (λ e. rw e h) (λ e. rw e (omega arith))))

part_entry : (us : List ℕ) (x : ℕ) (r : Row) → In x us → entry (unknown_part us r) x ≡ entry r x
part_entry us x [] i = refl
part_entry us x ((c, k) ∷ r) i =
    let h = part_entry us x r i in
    on_bool (has_column us c)
    (λ t. rw (t, h) refl)
    (λ t.
    let n : c == x ≡ false = ne_eqb c x (λ e. true≢false (sym (has-in x us i) ∙ subst (λ y. has_column us y ≡ false) e t)) in
    rw (t, n, h) (no_plus (entry r x)))
  where
    no_plus : (z : ℤ) → z ≡ pos 0 +ℤ z
    no_plus z = omega (arith, ints)

-- ---- common factors
-- the norm of the unknowns' part without x is at most g times that of the divided row
divided_norm : (us : List ℕ) (g x : ℕ) (r : Row) → 0 < g → EntriesDiv g (unknown_part us r) →
    norm (without x (unknown_part us r)) ≤ g * norm (without x (divided g r))
divided_norm us g x [] h d = omega arith
divided_norm us g x ((c, k) ∷ r) h d =
    let q = int_div_euclid k (pos g) in
    let e = norm-without-put x c q (divided g r) in
    let zero_plus : 0 + norm (without x (divided g r)) ≡ norm (without x (divided g r)) = omega arith in
    on_bool (has_column us c)
    (λ t.
    let dd : Divides (pos g) k × EntriesDiv g (unknown_part us r) = rw t at d in
    let again = divided_norm us g x r h dd.1 in
    let is : g * unsigned_abs q ≡ unsigned_abs k = sym (abs-mul (pos g) q) ∙ ap unsigned_abs (exact_quotient g k h dd.0) in
    rw (t, e) (on_bool (c == x) (λ s. rw (s, zero_plus) again) (λ s. rw s (omega (arith, mul-add g (unsigned_abs q) (norm (without x (divided g r))))))))
    (λ t.
    let again = divided_norm us g x r h (rw t at d) in
    rw (t, e) (on_bool (c == x) (λ s. rw (s, zero_plus) again) (λ s. rw s (omega (arith, mul-add g (unsigned_abs q) (norm (without x (divided g r))))))))

-- each entry is divided
zero_quotient : (g : ℕ) → 0 < g → int_div_euclid (pos 0) (pos g) ≡ pos 0
zero_quotient g h = int_div_euclid_once (pos 0) (pos g) (pos 0) (omega (arith, ints)) (omega (arith, ints)) (omega (arith, ints))

divided_entry : (g c x : ℕ) (r : Row) → 0 < g → Rises c r → entry (divided g r) x ≡ int_div_euclid (entry r x) (pos g)
divided_entry g c x [] h p = sym (zero_quotient g h)
divided_entry g c x ((d, k) ∷ r) h p =
    entry-put x d (int_div_euclid k (pos g)) (divided g r) ∙
    rw (divided_entry g (suc d) x r h p.2) (on_bool (d == x)
    (λ e.
    let z : entry r x ≡ pos 0 = entry-low (suc d) r x p.2 (let q = eqb-true d x e in omega arith) in
    let w = zero_quotient g h in
    let s : k +ℤ pos 0 ≡ k = omega (arith, ints) in
    rw (e, z, w, s) (omega (arith, ints)))
    (λ e.
    let s : pos 0 +ℤ entry r x ≡ entry r x = omega (arith, ints) in
    rw (e, s) (omega (arith, ints))))

-- the quotient of a number by its absolute value
own_quotient : (g : ℕ) (k : ℤ) → 0 < g → unsigned_abs k ≡ g → unsigned_abs (int_div_euclid k (pos g)) ≤ 1
own_quotient g (pos n) h e =
    let i = int_div_euclid_once (pos n) (pos g) (pos 1) (omega (arith, ints)) (omega (arith, ints)) (omega (arith, ints)) in
    let j : unsigned_abs (int_div_euclid (pos n) (pos g)) ≡ 1 = ap unsigned_abs i in
    omega arith
own_quotient g (negsuc n) h e =
    let i = int_div_euclid_once (negsuc n) (pos g) (negsuc 0) (omega (arith, ints)) (omega (arith, ints)) (omega (arith, ints)) in
    let j : unsigned_abs (int_div_euclid (negsuc n) (pos g)) ≡ 1 = ap unsigned_abs i in
    omega arith

-- ---- rows that a Clean leaves
low_entry : (n : ℕ) (r : Row) → Over (λ c. c < n) r → entry r n ≡ pos 0
low_entry n [] o = refl
low_entry n ((c, k) ∷ r) o =
    let l = o.0 in
    let e : c == n ≡ false = ne_eqb c n (λ q. omega arith) in
    rw (e, low_entry n r o.1) refl

small_common : (us : List ℕ) (r : Row) → Rises 0 r → common (unknown_part us r) ≤ 1 → IsTight us r
small_common us r p l x i h = on_bool (nat_le 1 (norm (without x r))) (λ t. leb-true 1 (norm (without x r)) t)
    (λ t.
    let z = leb-false 1 (norm (without x r)) t in
    let y = part_norm us x r in
    let e = common_alone 0 x (unknown_part us r) (Rises-filter 0 (λ (c, k). has_column us c) r p) (omega arith) in
    let f = part_entry us x r i in
    let g : unsigned_abs (entry (unknown_part us r) x) ≡ unsigned_abs (entry r x) = ap unsigned_abs f in
    absurd (omega arith))

divided_tight : (us : List ℕ) (g : ℕ) (r : Row) → 0 < g → Rises 0 r → common (unknown_part us r) ≡ g → IsTight us (divided g r)
divided_tight us g r sg p e x i h = on_bool (nat_le 1 (norm (without x (divided g r)))) (λ t. leb-true 1 (norm (without x (divided g r))) t)
    (λ t.
    let z = leb-false 1 (norm (without x (divided g r))) t in
    let none : norm (without x (divided g r)) ≡ 0 = omega arith in
    let d : EntriesDiv g (unknown_part us r) = subst (λ n. EntriesDiv n (unknown_part us r)) e (common-divides (unknown_part us r)) in
    let y = divided_norm us g x r sg d in
    let w : g * norm (without x (divided g r)) ≡ g * 0 = ap (λ n. g * n) none in
    let alone = common_alone 0 x (unknown_part us r) (Rises-filter 0 (λ (c, k). has_column us c) r p) (omega arith) in
    let own : unsigned_abs (entry r x) ≡ g = sym (ap unsigned_abs (part_entry us x r i)) ∙ sym alone ∙ e in
    let q = own_quotient g (entry r x) sg own in
    let f : unsigned_abs (entry (divided g r) x) ≡ unsigned_abs (int_div_euclid (entry r x) (pos g)) = ap unsigned_abs (divided_entry g 0 x r sg p) in
    absurd (omega arith))

new_tight : (us : List ℕ) (n : ℕ) (r : Row) → Over (λ c. c < n) r → ((x : ℕ) → In x us → x < n) → IsTight us (comb (pos 1) r (pos 1) (one_at n))
new_tight us n r o low x i h =
    let s = comb (pos 1) r (pos 1) (one_at n) in
    let apart : n ≢ x = λ e. let l = low x i in omega arith in
    let z : entry r n ≡ pos 0 = low_entry n r o in
    let one : entry (one_at n) n ≡ pos 1 = rw (eq-eqb n n refl) refl in
    let e : entry s n ≡ pos 1 = entry-comb n (pos 1) r (pos 1) (one_at n) ∙ rw (z, one) refl in
    let w : unsigned_abs (entry s n) ≡ 1 = ap unsigned_abs e in
    let q = entry_within n x s apart in
    omega arith

tight_row : (us : List ℕ) (n : ℕ) (r : Row) → Rises 0 r → Over (λ c. c < n) r → ((x : ℕ) → In x us → x < n) → IsTight us (tighten_row us n r).1
tight_row us n r p o low =
    let Says : Option Step × Row → Type 0 = λ q. IsTight us q.1 in
    let g = common (unknown_part us r) in
    let whole = list_all (λ (c, k). (c == 0) || divides_it g k) (known_part us r) in
    let z : Option Step × Row = (None, r) in
    let a : Option Step × Row = (None, divided g r) in
    let b : Option Step × Row = (Some (floor_of n (known_part us r) (pos g)), comb (pos 1) (divided g (unknown_part us r)) (pos 1) (one_at n)) in
    cond_both (nat_le g 1) z (cond whole a b) Says (λ t. small_common us r p (leb-true g 1 t))
    (λ t.
    let l = leb-false g 1 t in
    cond_both whole a b Says (λ _. divided_tight us g r (omega arith) p refl)
    (λ _. new_tight us n (divided g (unknown_part us r))
    (Over-divided (λ c. c < n) g (unknown_part us r) (Over-filter (λ c. c < n) (λ (c, k). has_column us c) r o)) low))

tight_next : (us : List ℕ) (t : Tightened) (p : Option Step × Row) → EachRow (IsTight us) t.rows → IsTight us p.1 →
    EachRow (IsTight us) (next_tightened t p).rows × (t.next ≤ (next_tightened t p).next)
tight_next us t (None, r) h k = (EachRow-append (IsTight us) t.rows (r ∷ []) h (k, tt), omega arith)
tight_next us t (Some m, r) h k = (EachRow-append (IsTight us) t.rows (r ∷ []) h (k, tt), omega arith)

tight_all : (us : List ℕ) (n : ℕ) (rows : List Row) (t : Tightened) → n ≤ t.next → EachRow (Rises 0) rows → EachRow (Over (λ c. c < n)) rows →
    ((x : ℕ) → In x us → x < n) → EachRow (IsTight us) t.rows →
    EachRow (IsTight us) (fold (then_tighten us) t rows).rows
tight_all us n [] t l p o low h = h
tight_all us n (r ∷ rows) t l p o low h =
    let q = tight_row us t.next r p.0 (Over-weaker (λ c. c < n) (λ c. c < t.next) (λ c k. omega arith) r o.0) (λ x i. let k = low x i in omega arith) in
    let s = tight_next us t (tighten_row us t.next r) h q in
    let y = s.1 in
    tight_all us n rows (then_tighten us t r) (omega arith) p.1 o.1 low s.0

pub clean_tight : (m : System) → Formed m → EachRow (IsTight (clean m).system.unknown) (clean m).system.inequalities
unfolding clean
clean_tight m f =
    let rows = filter (has_unknown m.unknown) m.inequalities in
    let start : Tightened = record { next = m.next; made = []; steps = []; rows = [] } in
    let o : EachRow (Over (λ c. c < m.next)) m.inequalities =
    EachRow-weaker (Over (IsColumn m)) (Over (λ c. c < m.next)) (λ r o. Over-weaker (IsColumn m) (λ c. c < m.next) (column_below m f) r o) m.inequalities
    f.nonneg in
    distinct_forth (IsTight m.unknown) [] (fold (then_tighten m.unknown) start rows).rows
    (tight_all m.unknown m.next rows start (omega arith) (EachRow-filter (Rises 0) (has_unknown m.unknown) m.inequalities f.nonneg_rise)
    (EachRow-filter (Over (λ c. c < m.next)) (has_unknown m.unknown) m.inequalities o) (λ x i. f.unknown_below x i) tt)
