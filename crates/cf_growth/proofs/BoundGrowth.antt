-- A Bound step: search columns are at most the greatest search bound, and an unknown that is dropped is at most the greatest norm of its bounds, without its own entry.
use Rattle.std.proofs.Common.{◌≡◌, ◌≢◌, ℕ, ◌≤◌, ◌<◌, ◌+◌, ◌*◌, ℤ, pos, negsuc, neg_ℤ, List, [], ◌∷◌, Bool, true, false, not, refl, sym, ◌∙◌, ap, arith, subst, ◌⊎◌, inl, inr, ⊎_elim, max, map, ◌==◌}
use Rattle.std.specs.Prelude.{filter, unsigned_abs, nat_lt, int_lt}
use Rattle.std.specs.List.{fold}
use Rattle.std.specs.Int.{int_div_euclid, int_max, int_min}
use Rattle.std.proofs.lemmas.Int.{ints, clamps}
use Rattle.std.proofs.lemmas.Bool.{cond_both, eq-eqb, ne_eqb, true≢false}
use Rattle.std.proofs.Math.Nat.{mul-le-mul_left}
use Rattle.cf_linear.specs.Rows.{Row, Values, value, norm, entry, is_zero, without}
use Rattle.cf_linear.specs.Systems.{System, EachRow, Answer, then_answer}
use Rattle.cf_linear.specs.Steps.{is_positive, lowers, uppers, searches, search_bound, Found, found_row, found_all, no_found, searched, searched_by, how_between, dropped, bound, Pick, greatest_of}
use Rattle.cf_linear.specs.Arm.{negated}
use Rattle.cf_linear.specs.Keep.{In, Over, IsColumn, Within, how_value}
use Rattle.cf_linear.specs.Solved.{search_columns}
use Rattle.cf_linear.proofs.BoolLemmas.{on_bool}
use Rattle.cf_linear.proofs.RowLemmas.{zero_from_is_zero}
use Rattle.cf_linear.proofs.SubstituteLemmas.{two_entries}
use Rattle.cf_linear.proofs.FormedLemmas.{Kinds, one_kept}
use Rattle.cf_linear.proofs.KindLemmas.{EachRow-append, EachRow-with, EachRow-weaker, In-append, In-left, In-right, In-filter, Over-weaker, Over-without, Over-comb, search_columns-append}
use Rattle.cf_bounds.proofs.SearchLemmas.{found_new, found_kept}
use Rattle.cf_growth.specs.Norms.{IsBounded}
use Rattle.cf_growth.specs.Growing.{PairsWithin, HowWithin, Grows}
use Rattle.cf_growth.proofs.NormLaws.{times_more, times_le, bounded_more, value_bound, sums_bound, quotient_bound, norm-turned}
use Rattle.cf_growth.proofs.LetLaws.{greatest-first}
use Rattle.cf_growth.proofs.EndGrowth.{one_stood}
use Rattle.cf_growth.proofs.ThenLaws.{grows_none, grows_then}

-- ---- the search
-- where the row holds x, it has a norm of at most g without it
abbrev pub IsSmall : ℕ → ℕ → Row → Type 0
IsSmall x g r = is_zero (entry r x) ≡ false → norm (without x r) ≤ g

search_norm : (x k : ℕ) (lower : Bool) → x < k + 1 → norm (without x (search_bound x lower k)) ≡ 1
search_norm x k true h =
    let e : k + 1 == x ≡ false = ne_eqb (k + 1) x (λ q. omega arith) in
    rw (two_entries (pos 1) x (negsuc 0) (k + 1) h, eq-eqb x x refl, e) refl
search_norm x k false h =
    let e : k + 1 == x ≡ false = ne_eqb (k + 1) x (λ q. omega arith) in
    rw (two_entries (negsuc 0) x (pos 1) (k + 1) h, eq-eqb x x refl, e) refl

-- the search columns are those of the bounds, and the rows have small norms without x
record Searching (x g : ℕ) (s : Found) : Type 0 where
  under : x < s.next
  columns : (c : ℕ) → In c s.columns → In c (search_columns s.bounds)
  back : (c : ℕ) → In c (search_columns s.bounds) → In c s.columns
  rows : EachRow (IsSmall x g) s.rows

searching_row : (x g : ℕ) (lower : Bool) (s : Found) (r : Row) → 1 ≤ g → IsSmall x g r → Searching x g s → Searching x g (found_row x lower s r)
searching_row x g lower s r some h k =
    let u = k.under in
    cond_both (searches x lower r) (found_new x lower s r) (found_kept s r) (λ t. Searching x g t)
    (λ _. record {
      under = omega arith;
      columns = λ c i. subst (λ cs. In c cs) (sym (search_columns-append s.bounds ((s.next, unsigned_abs (entry r x)) ∷ [])))
          (⊎_elim (λ j. In-left c (search_columns s.bounds) (s.next ∷ []) (k.columns c j)) (λ j. In-right c (search_columns s.bounds) (s.next ∷ []) j)
          (In-append c s.columns (s.next ∷ []) i));
      back = λ c i. ⊎_elim (λ j. In-left c s.columns (s.next ∷ []) (k.back c j)) (λ j. In-right c s.columns (s.next ∷ []) j)
          (In-append c (search_columns s.bounds) (s.next ∷ [])
          (subst (λ cs. In c cs) (search_columns-append s.bounds ((s.next, unsigned_abs (entry r x)) ∷ [])) i));
      rows = EachRow-append (IsSmall x g) s.rows (search_bound x lower s.next ∷ []) k.rows
          ((λ _. let e = search_norm x s.next lower (omega arith) in omega arith), tt);
    })
    (λ _. record { under = u; columns = k.columns; back = k.back; rows = EachRow-append (IsSmall x g) s.rows (r ∷ []) k.rows (h, tt) })

searching_all : (x g : ℕ) (lower : Bool) (rows : List Row) (s : Found) → 1 ≤ g → EachRow (IsSmall x g) rows → Searching x g s →
    Searching x g (found_all x lower s rows)
searching_all x g lower [] s some h k = k
searching_all x g lower (r ∷ rows) s some h k = searching_all x g lower rows (found_row x lower s r) some h.1 (searching_row x g lower s r some h.0 k)

searching_none : (m : System) (x g : ℕ) → x < m.next → Searching x g (no_found m)
searching_none m x g l = record { under = l; columns = λ c i. i; back = λ c i. i; rows = tt }

bounds_within : (v : Values) (bs : List (ℕ × ℕ)) (a s c : ℕ) → Within v bs → fold max a (map (λ (k, n). n) bs) ≤ s → In c (search_columns bs) →
    unsigned_abs (v c) ≤ s
bounds_within v [] a s c w l i = absurd i
bounds_within v ((d, n) ∷ bs) a s c w l i =
    ⊎_elim (λ (e : c ≡ d).
    let h = greatest-first (max a n) (map (λ (k, n). n) bs) in
    let x = w.0 in
    let y = w.1 in
    let z : unsigned_abs (v c) ≡ unsigned_abs (v d) = ap (λ (q : ℕ). unsigned_abs (v q)) e in
    let t : unsigned_abs (v d) ≤ n = omega (arith, ints) in
    omega arith) (λ j. bounds_within v bs (max a n) s c w.2 l j) i

grows_searched : (m : System) (x s : ℕ) (lower : Bool) → x < m.next → 1 ≤ s → greatest_of (map (λ (k, n). n) (searched m x lower).bounds) ≤ s →
    Grows m (searched m x lower) s 1
unfolding searched
grows_searched m x s lower lx some l =
    let t = found_all x lower (no_found m) m.inequalities in
    let h = columns_all m.inequalities (no_found m) (λ c i. i) (λ c i. i) in
    record {
      forth_some = some;
      back_some = omega arith;
      known = λ v k st w f b c i.
          ⊎_elim (λ j. let q = b c j in let e = times_more s k some in omega arith)
          (λ j. let q = bounds_within v t.bounds 0 s c w l (h.0 c j) in let e = mul-le-mul_left s st in omega arith) (In-append c m.known t.columns i);
      lets = λ v k st w f b. tt;
      stood = λ v k b st w f h le hb c i.
          let q = hb c (⊎_elim (λ j. inl (In-left c m.known t.columns j)) (λ j. inr (In-left c m.unknown t.unknowns j)) i) in
          omega arith;
      back = λ v k b st w f h le hb. tt;
      stay = λ c i. In-left c m.known t.columns i;
      searches = λ c i. In-right c m.known t.columns (h.1 c i);
      over = tt;
      kept = λ v c i. refl;
    }
  where
    columns_all : (rows : List Row) (s : Found) → ((c : ℕ) → In c s.columns → In c (search_columns s.bounds)) →
        ((c : ℕ) → In c (search_columns s.bounds) → In c s.columns) →
        ((c : ℕ) → In c (found_all x lower s rows).columns → In c (search_columns (found_all x lower s rows).bounds)) ×
        ((c : ℕ) → In c (search_columns (found_all x lower s rows).bounds) → In c (found_all x lower s rows).columns)
    columns_all [] s f g = (f, g)
    columns_all (r ∷ rows) s f g = columns_all rows (found_row x lower s r)
        (cond_both (searches x lower r) (found_new x lower s r) (found_kept s r) (λ (t : Found). (c : ℕ) → In c t.columns → In c (search_columns t.bounds))
        (λ _ c i. subst (λ cs. In c cs) (sym (search_columns-append s.bounds ((s.next, unsigned_abs (entry r x)) ∷ [])))
        (⊎_elim (λ j. In-left c (search_columns s.bounds) (s.next ∷ []) (f c j)) (λ j. In-right c (search_columns s.bounds) (s.next ∷ []) j)
        (In-append c s.columns (s.next ∷ []) i))) (λ _. f))
        (cond_both (searches x lower r) (found_new x lower s r) (found_kept s r) (λ (t : Found). (c : ℕ) → In c (search_columns t.bounds) → In c t.columns)
        (λ _ c i. ⊎_elim (λ j. In-left c s.columns (s.next ∷ []) (g c j)) (λ j. In-right c s.columns (s.next ∷ []) j)
        (In-append c (search_columns s.bounds) (s.next ∷ [])
        (subst (λ cs. In c cs) (search_columns-append s.bounds ((s.next, unsigned_abs (entry r x)) ∷ [])) i))) (λ _. g))

-- ---- the drop
-- a bound's row without x is over columns that are left, and its norm is small
abbrev IsBound : (ℕ → Type 0) → ℕ → ℕ → Row → Type 0
IsBound Q x g r = Over Q (without x r) × (norm (without x r) ≤ g)

EachRow-kept : (p : Row → Bool) (Q : Row → Type 0) (rows : List Row) → EachRow (λ r. p r ≡ true → Q r) rows → EachRow Q (filter p rows)
EachRow-kept p Q [] h = tt
EachRow-kept p Q (r ∷ rows) h = on_bool (p r) (λ t. rw t (h.0 t, EachRow-kept p Q rows h.1)) (λ f. rw f (EachRow-kept p Q rows h.1))

positive_some : (k : ℤ) → is_positive k ≡ true → is_zero k ≡ false
positive_some k e = on_bool (is_zero k) (λ t. let z = zero_from_is_zero k t in let q : is_positive (pos 0) ≡ true = rw z at e in absurd (cc)) (λ f. f)

negative_some : (k : ℤ) → int_lt k (pos 0) ≡ true → is_zero k ≡ false
negative_some k e = on_bool (is_zero k) (λ t. let z = zero_from_is_zero k t in let q : int_lt (pos 0) (pos 0) ≡ true = rw z at e in absurd (cc)) (λ f. f)

module _ (Q : ℕ → Type 0) (x g b : ℕ) (v : Values) (some : 1 ≤ b) (sg : 1 ≤ g) (h : IsBounded Q b v) (k : Row → ℤ) where
  pairs_met : (rows : List Row) → EachRow (IsBound Q x g) rows → PairsWithin (g * b) v (map (λ r. (without x r, k r)) rows)
  pairs_met [] o = tt
  pairs_met (r ∷ rows) o =
      let t = negated (without x r) in
      let l : norm t ≤ norm (without x r) = norm-turned (negsuc 0) (without x r) refl in
      let m = o.0.1 in (
        sums_bound Q b (g * b) v some h (without x r) o.0.0 (times_more g b sg) (times_le (norm (without x r)) g b o.0.1),
        sums_bound Q b (g * b) v some h t (Over-comb Q (negsuc 0) (without x r) (pos 0) [] o.0.0 tt) (times_more g b sg) (times_le (norm t) g b (omega arith)),
        pairs_met rows o.1,
      )

  quotient_within : (r : Row) → IsBound Q x g r → unsigned_abs (int_div_euclid (value v (without x r)) (k r)) ≤ g * b
  quotient_within r o =
      let i = value_bound Q b v h (without x r) o.0 in
      let j = times_le (norm (without x r)) g b o.1 in
      let q = quotient_bound (value v (without x r)) (k r) in
      omega arith

  greatest_within : (z : ℤ) (rows : List Row) → unsigned_abs z ≤ g * b → EachRow (IsBound Q x g) rows →
      unsigned_abs (fold int_max z (map (λ (r, p). neg_ℤ (int_div_euclid (value v r) p)) (map (λ r. (without x r, k r)) rows))) ≤ g * b
  greatest_within z [] l o = l
  greatest_within z (r ∷ rows) l o =
      let i = quotient_within r o.0 in
      greatest_within (int_max z (neg_ℤ (int_div_euclid (value v (without x r)) (k r)))) rows
      (max_within (g * b) z (int_div_euclid (value v (without x r)) (k r)) l i) o.1
    where
      max_within : (n : ℕ) (z y : ℤ) → unsigned_abs z ≤ n → unsigned_abs y ≤ n → unsigned_abs (int_max z (neg_ℤ y)) ≤ n
      max_within n z y h k = omega (arith, ints, clamps)

  least_within : (z : ℤ) (rows : List Row) → unsigned_abs z ≤ g * b → EachRow (IsBound Q x g) rows →
      unsigned_abs (fold int_min z (map (λ (r, p). int_div_euclid (value v r) p) (map (λ r. (without x r, k r)) rows))) ≤ g * b
  least_within z [] l o = l
  least_within z (r ∷ rows) l o =
      let i = quotient_within r o.0 in
      least_within (int_min z (int_div_euclid (value v (without x r)) (k r))) rows (min_within (g * b) z (int_div_euclid (value v (without x r)) (k r)) l i) o.1
    where
      min_within : (n : ℕ) (z y : ℤ) → unsigned_abs z ≤ n → unsigned_abs y ≤ n → unsigned_abs (int_min z y) ≤ n
      min_within n z y h k = omega (arith, ints, clamps)

neg_within : (n : ℕ) (z : ℤ) → unsigned_abs z ≤ n → unsigned_abs (neg_ℤ z) ≤ n
neg_within n z h = omega (arith, ints)

how_met : (Q : ℕ → Type 0) (x g b : ℕ) (v : Values) → 1 ≤ b → 1 ≤ g → IsBounded Q b v → (low high : List Row) → EachRow (IsBound Q x g) low →
    EachRow (IsBound Q x g) high →
    HowWithin (g * b) v (how_between x low high) × (unsigned_abs (how_value v (how_between x low high)) ≤ g * b)
how_met Q x g b v s sg h [] [] o p = (tt, omega arith)
how_met Q x g b v s sg h [] (u ∷ high) o p =
    let k = λ (r : Row). neg_ℤ (entry r x) in (
      pairs_met Q x g b v s sg h k (u ∷ high) p,
      least_within Q x g b v s sg h k (int_div_euclid (value v (without x u)) (k u)) high
          (quotient_within Q x g b v s sg h k u p.0) p.1,
    )
how_met Q x g b v s sg h (l ∷ low) high o p =
    let k = λ (r : Row). entry r x in (
      pairs_met Q x g b v s sg h k (l ∷ low) o,
      greatest_within Q x g b v s sg h k (neg_ℤ (int_div_euclid (value v (without x l)) (k l))) low
          (neg_within (g * b) (int_div_euclid (value v (without x l)) (k l)) (quotient_within Q x g b v s sg h k l o.0)) o.1,
    )

grows_dropped : (m : System) (x g : ℕ) → Kinds m → In x m.unknown → EachRow (Over (IsColumn m)) m.inequalities → 1 ≤ g → EachRow (IsSmall x g) m.inequalities →
    Grows m (dropped m x) 1 g
unfolding dropped
grows_dropped m x g kinds i over sg small =
    let Q : ℕ → Type 0 = λ c. In c m.known ⊎ In c (filter (λ w. not (w == x)) m.unknown) in
    let all : EachRow (λ r. is_zero (entry r x) ≡ false → IsBound Q x g r) m.inequalities =
    EachRow-with (Over (IsColumn m)) (IsSmall x g) (λ r. is_zero (entry r x) ≡ false → IsBound Q x g r)
    (λ r o s z. (
      Over-weaker (λ c. IsColumn m c × (c ≢ x)) Q (λ c q. ⊎_elim (λ j. inl j) (λ j. inr (In-filter c x m.unknown j q.1)) q.0) (without x r)
          (Over-without (IsColumn m) x r o),
      s z,
    ))
    m.inequalities over small in
    let low : EachRow (IsBound Q x g) (lowers x m.inequalities) = EachRow-kept (λ r. is_positive (entry r x)) (IsBound Q x g) m.inequalities
    (EachRow-weaker (λ r. is_zero (entry r x) ≡ false → IsBound Q x g r) (λ r. is_positive (entry r x) ≡ true → IsBound Q x g r)
    (λ r f e. f (positive_some (entry r x) e)) m.inequalities all) in
    let high : EachRow (IsBound Q x g) (uppers x m.inequalities) = EachRow-kept (λ r. int_lt (entry r x) (pos 0)) (IsBound Q x g) m.inequalities
    (EachRow-weaker (λ r. is_zero (entry r x) ≡ false → IsBound Q x g r) (λ r. int_lt (entry r x) (pos 0) ≡ true → IsBound Q x g r)
    (λ r f e. f (negative_some (entry r x) e)) m.inequalities all) in
    let w = how_between x (lowers x m.inequalities) (uppers x m.inequalities) in
    record {
      forth_some = omega arith;
      back_some = sg;
      known = λ v k st wi l h c j. let q = h c j in omega arith;
      lets = λ v k st wi l h. tt;
      stood = λ v k b st wi l h le hb.
          let t = how_met Q x g b v (omega arith) sg hb (lowers x m.inequalities) (uppers x m.inequalities) low high in
          one_stood m.known m.unknown x (g * b) (how_value v w) v (bounded_more Q b (g * b) v (times_more g b sg) hb) t.1;
      back = λ v k b st wi l h le hb. ((how_met Q x g b v (omega arith) sg hb (lowers x m.inequalities) (uppers x m.inequalities) low high).0, tt);
      stay = λ c j. j;
      searches = λ c j. absurd j;
      over = tt;
      kept = one_kept m x w kinds i;
    }

-- ---- both
abbrev pub search_factor : System → Pick → ℕ
search_factor m c = max 1 (greatest_of (map (λ (k, n). n) (searched_by m c).bounds))

abbrev pub drop_norm : System → Pick → ℕ
drop_norm m c = greatest_of (map (λ r. norm (without c.unknown r)) (filter (λ r. not (is_zero (entry r c.unknown))) m.inequalities))

pub norms_small : (x a n : ℕ) (rows : List Row) → fold max a (map (λ r. norm (without x r)) (filter (λ r. not (is_zero (entry r x))) rows)) ≤ n →
    EachRow (IsSmall x n) rows
norms_small x a n [] h = tt
norms_small x a n (r ∷ rows) h = on_bool (is_zero (entry r x))
    (λ t. ((λ z. absurd (true≢false (sym t ∙ z))), norms_small x a n rows (rw t at h)))
    (λ f.
    let k : fold max (max a (norm (without x r))) (map (λ r. norm (without x r)) (filter (λ r. not (is_zero (entry r x))) rows)) ≤ n = rw f at h in (
      (λ _. let i = greatest-first (max a (norm (without x r))) (map (λ r. norm (without x r)) (filter (λ r. not (is_zero (entry r x))) rows)) in omega arith),
      norms_small x (max a (norm (without x r))) n rows k,
    ))

pub small_first : (m : System) (c : Pick) → EachRow (IsSmall c.unknown (max 1 (drop_norm m c))) m.inequalities
small_first m c = norms_small c.unknown 0 (max 1 (drop_norm m c)) m.inequalities (omega arith)

small_searched : (m : System) (c : Pick) (g : ℕ) → 1 ≤ g → c.unknown < m.next → EachRow (IsSmall c.unknown g) m.inequalities →
    EachRow (IsSmall c.unknown g) (searched_by m c).system.inequalities
unfolding searched_by searched
small_searched m c g s l h =
    cond_both (nat_lt 1 c.product) (searched m c.unknown c.lower) (record { system = m; steps = []; back = []; bounds = [] })
    (λ (a : Answer). EachRow (IsSmall c.unknown g) a.system.inequalities)
    (λ _. (searching_all c.unknown g c.lower m.inequalities (no_found m) s h (searching_none m c.unknown g l)).rows) (λ _. h)

grows_search : (m : System) (c : Pick) → c.unknown < m.next → Grows m (searched_by m c) (search_factor m c) 1
unfolding searched_by
grows_search m c l =
    cond_both (nat_lt 1 c.product) (searched m c.unknown c.lower) (record { system = m; steps = []; back = []; bounds = [] })
    (λ (a : Answer). Grows m a (max 1 (greatest_of (map (λ (k, n). n) a.bounds))) 1)
    (λ _. grows_searched m c.unknown (max 1 (greatest_of (map (λ (k, n). n) (searched m c.unknown c.lower).bounds))) c.lower l (omega arith) (omega arith))
    (λ _. grows_none m)

pub search_keeps : (m : System) (c : Pick) → In c.unknown m.unknown → In c.unknown (searched_by m c).system.unknown
unfolding searched_by searched
search_keeps m c i =
    cond_both (nat_lt 1 c.product) (searched m c.unknown c.lower) (record { system = m; steps = []; back = []; bounds = [] })
    (λ (a : Answer). In c.unknown a.system.unknown)
    (λ _. In-left c.unknown m.unknown (found_all c.unknown c.lower (no_found m) m.inequalities).unknowns i) (λ _. i)

-- the search and the drop, where the system between them is formed
pub grows_bound : (m : System) (c : Pick) → In c.unknown m.unknown → c.unknown < m.next → Kinds (searched_by m c).system →
    EachRow (Over (IsColumn (searched_by m c).system)) (searched_by m c).system.inequalities →
    Grows m (bound m c) (search_factor m c) (max 1 (drop_norm m c))
unfolding bound
grows_bound m c i l kinds over =
    let s = searched_by m c in
    let g = max 1 (drop_norm m c) in
    let d = grows_dropped s.system c.unknown g kinds (search_keeps m c i) over (omega arith) (small_searched m c g (omega arith) l (small_first m c)) in
    let h = grows_then m s (dropped s.system c.unknown) (search_factor m c) 1 1 g (grows_search m c l) d in
    let e : search_factor m c * 1 ≡ search_factor m c = omega arith in
    let f : 1 * g ≡ g = omega arith in
    subst (λ n. Grows m (then_answer s (dropped s.system c.unknown)) n g) e
    (subst (λ n. Grows m (then_answer s (dropped s.system c.unknown)) (search_factor m c * 1) n) f h)
