-- How many searches, lets, needs and unknowns a stage that goes on makes.
use Rattle.std.proofs.Common.{◌≡◌, ◌≢◌, ℕ, suc, ◌+◌, ◌-◌, ◌*◌, ◌^◌, ◌<◌, ◌≤◌, List, [], ◌∷◌, ◌++◌, length, map, Bool, true, false, not, Some, None, refl, sym}
use Rattle.std.proofs.Common.{◌∙◌, ap, arith, subst, inl, inr, ⊎_elim}
use Rattle.std.specs.Prelude.{nat_lt, min, filter, pos, unsigned_abs}
use Rattle.std.specs.List.{fold}
use Rattle.std.proofs.lemmas.Bool.{cond_both, ltb-true, ltb-false}
use Rattle.std.proofs.lemmas.List.{append-nil, length-append, length-map}
use Rattle.cf_linear.specs.declared.refusal.LimitKind.TheVariants.{Rows, Columns, Search}
use Rattle.cf_linear.specs.declared.refusal.Refusal.TheVariants.{Limit}
use Rattle.cf_linear.specs.Rows.{Row, entry}
use Rattle.cf_linear.specs.Systems.{System, EachRow, floor_of, need_zero, need_nonneg, Answer, rows_of, columns_of}
use Rattle.cf_linear.specs.Keep.{In, Over, IsColumn, Differ}
use Rattle.cf_linear.specs.Steps.{present, has_unknown, known_part, clean, Tightened, then_tighten, merge, mix, last, is_unit, Pick, pick, Found, found_row}
use Rattle.cf_linear.specs.Steps.{found_all, no_found, searched, searched_by, dropped, bound}
use Rattle.cf_linear.specs.Stages.{State, Taken, goes, stage, first_count, times_bound, clean_stage, equation_stage, row_stage, unknown_stage, bound_stage}
use Rattle.cf_linear.specs.Stages.{limits}
use Rattle.cf_linear.proofs.BoolLemmas.{on_bool}
use Rattle.cf_linear.proofs.FormedLemmas.{column_below}
use Rattle.cf_linear.proofs.KindLemmas.{Over-weaker}
use Rattle.cf_equation.proofs.StepLaws.{Differ-filter, In-present}
use Rattle.cf_bounds.proofs.CleanLemmas.{by_row, tight, unknowns_of}
use Rattle.cf_bounds.proofs.ExactLaws.{pick_in}
use Rattle.cf_bounds.proofs.SearchLemmas.{by_row as by_found}
use Rattle.cf_elim.specs.Stages.{IsReady}
use Rattle.cf_elim.proofs.BoundLaws.{plain_search}
use Rattle.cf_elim.proofs.EndLaws.{held, held_few, filter_all, filter_gone, merge_held, counts_few, last_lengths, merge_lengths, tuples_pick, doubled, one_of}
use Rattle.cf_elim.proofs.EndLaws.{count_passed, not_refused}
use Rattle.cf_elim.proofs.NextStageLaws.{clean_unknown}
use Rattle.cf_elim.proofs.StageLaws.{goes_parts}

-- ---- counts
-- known columns and needs
abbrev pub kept : System → ℕ
kept m = length m.known + m.needs

-- how many unknowns at most are computed before the next search
abbrev pub left : System → ℕ
left m = 2 * (length m.equations * 1001 + held m.unknown m.equations) + length m.unknown

counts_within : (m : System) → first_count limits m ≡ None → (rows_of m ≤ 1000) × (columns_of m ≤ 1000)
counts_within m e = on_bool (nat_lt 1000 (rows_of m))
    (λ t. let q : Some (Limit Rows (rows_of m)) ≡ None = rw t at e in cc)
    (λ t. on_bool (nat_lt 1000 (columns_of m))
    (λ v. let q : Some (Limit Columns (columns_of m)) ≡ None = rw (t, v) at e in cc)
    (λ v. (ltb-false 1000 (rows_of m) t, ltb-false 1000 (columns_of m) v)))

pub kept_few : (m : System) → first_count limits m ≡ None → kept m ≤ 2000
kept_few m e = let c = counts_within m e in let a = c.0 in let b = c.1 in omega arith

pub left_few : (m : System) → first_count limits m ≡ None → left m ≤ 2005000
left_few m e = let c = counts_few m e in let a = c.0 in let b = c.1 in let h = held_few m.unknown m.equations in omega arith

-- ---- a stage
-- no search: what is left falls by the unknowns that are computed; or a search, which at least doubles the tuples
pub data Back (s t : State) (a : Answer) : Type 0 where
  falls : s.tuples ≤ t.tuples → length a.back + left t.system ≤ left s.system → Back s t a
  doubles : 2 * s.tuples ≤ t.tuples → length a.back + left t.system ≤ 2005001 → Back s t a

pub record Counts (s t : State) (a : Answer) : Type 0 where
  pub counted : first_count limits s.system ≡ None → first_count limits t.system ≡ None
  pub kept_is : length a.bounds + length a.steps + kept s.system ≤ kept t.system
  pub few : s.tuples ≤ 1048576 → t.tuples ≤ 1048576
  pub back : Back s t a

counts_at : (s u t : State) (x a : Taken) → goes u x ≡ goes t a → Counts s u x.answer → Counts s t a.answer
counts_at s u t x a e h = let q = goes_parts u t x a e in subst (λ (y : Taken). Counts s t y.answer) q.1 (subst (λ y. Counts s y x.answer) q.0 h)

-- ---- Clean
tight_same : (us : List ℕ) (rows : List Row) (t : Tightened) → length t.steps ≡ length t.made → length (tight us t rows).steps ≡ length (tight us t rows).made
tight_same us [] t h = h
tight_same us (r ∷ rows) t h =
    tight_same us rows (then_tighten us t r)
    (by_row (λ (z : Tightened). length z.steps ≡ length z.made) us t r h (λ _ _. h)
    (λ _.
    let m = floor_of t.next (known_part us r) (pos (unknowns_of us r)) in
    omega (arith, length-append t.steps (m ∷ []), length-append t.made (t.next ∷ []), h)))

clean_kept : (m : System) → length (clean m).bounds + length (clean m).steps + kept m ≤ kept (clean m).system
unfolding clean
clean_kept m =
    let zeros = filter (λ r. not (has_unknown m.unknown r)) m.equations in
    let nonnegs = filter (λ r. not (has_unknown m.unknown r)) m.inequalities in
    let start : Tightened = record { next = m.next; made = []; steps = []; rows = [] } in
    let t = tight m.unknown start (filter (has_unknown m.unknown) m.inequalities) in
    let h = tight_same m.unknown (filter (has_unknown m.unknown) m.inequalities) start refl in
    omega (
      arith,
      h,
      length-append (map need_zero zeros ++ map need_nonneg nonnegs) t.steps,
      length-append (map need_zero zeros) (map need_nonneg nonnegs),
      length-map zeros need_zero,
      length-map nonnegs need_nonneg,
      length-append m.known t.made,
    )

clean_left : (m : System) → length m.unknown ≤ 1000 → length (clean m).back + left (clean m).system ≤ left m
unfolding clean
clean_left m lu =
    let rows = filter (has_unknown m.unknown) m.equations in
    let h = held_few m.unknown rows in
    ⊎_elim (λ (l : length rows < length m.equations). omega arith) (λ q. rw q (omega arith)) (filter_all (has_unknown m.unknown) m.equations)

clean_counts : (s t : State) (a : Taken) → clean_stage limits s ≡ goes t a → Counts s t a.answer
unfolding clean_stage
clean_counts s t a e =
    let x = count_passed (first_count limits s.system) _ t a e in
    let y = count_passed (first_count limits (clean s.system).system) _ t a x.1 in
    let c = counts_few (clean s.system).system y.0 in
    let few : length s.system.unknown ≤ 1000 = subst (λ (us : List ℕ). length us ≤ 1000) (clean_unknown s.system) c.1 in
    counts_at s _ t _ a y.1 (record { counted = λ _. y.0; kept_is = clean_kept s.system; few = λ l. l; back = falls (omega arith) (clean_left s.system few) })

-- ---- an equation step
last_kept : (m : System) (e : Row) (rest : List Row) (u : ℕ) →
    length (last m e rest u).bounds + length (last m e rest u).steps + kept m ≤ kept (last m e rest u).system
unfolding last
last_kept m e rest u = on_bool (is_unit (entry e u)) (λ t. rw t (omega arith)) (λ t. rw t (omega (arith, length-append m.known (m.next ∷ []))))

last_one : (m : System) (e : Row) (rest : List Row) (u : ℕ) → length (last m e rest u).back ≡ 1
unfolding last
last_one m e rest u = refl

merge_kept : (m : System) (e : Row) (x y : ℕ) → length (merge m e x y).bounds + length (merge m e x y).steps + kept m ≤ kept (merge m e x y).system
unfolding merge mix
merge_kept m e x y = omega arith

merge_two : (m : System) (e : Row) (x y : ℕ) → length (merge m e x y).back ≡ 2
unfolding merge mix
merge_two m e x y = refl

last_left : (m : System) (e : Row) (rest : List Row) (u : ℕ) → m.equations ≡ e ∷ rest → first_count limits (last m e rest u).system ≡ None →
    length (last m e rest u).back + left (last m e rest u).system ≤ left m
last_left m e rest u q n =
    let o = last_one m e rest u in
    let l = last_lengths m e rest u in
    let l0 = l.0 in
    let l1 = l.1 in
    let c = (counts_few (last m e rest u).system n).1 in
    let h = held_few (last m e rest u).system.unknown (last m e rest u).system.equations in
    let i : length m.equations ≡ suc (length rest) = ap length q in
    omega arith

merge_left : (m : System) (e : Row) (rest : List Row) (x y : ℕ) (us : List ℕ) → IsReady m → m.equations ≡ e ∷ rest → present m.unknown e ≡ x ∷ y ∷ us →
    length (merge m e x y).back + left (merge m e x y).system ≤ left m
merge_left m e rest x y us r q p =
    let f = r.formed in
    let over = subst (λ rows. EachRow (Over (IsColumn m)) rows) q f.zero in
    let low = Over-weaker (IsColumn m) (λ c. c < m.next) (column_below m f) e over.0 in
    let ix = In-present x m.unknown e (subst (λ xs. In x xs) (sym p) (inl refl)) in
    let iy = In-present y m.unknown e (subst (λ xs. In y xs) (sym p) (inr (inl refl))) in
    let d : Differ (x ∷ y ∷ us) = subst Differ p (Differ-filter _ m.unknown r.differ) in
    let n : x ≢ y = λ i. d.0 (inl i) in
    let h = merge_held m e rest x y f q low ix.0 iy.0 n ix.1 iy.1 in
    let i : held m.unknown m.equations ≡ length (present m.unknown e) = rw q refl in
    let l = merge_lengths m e x y in
    let l0 = l.0 in
    let l1 = l.1 in
    let o = merge_two m e x y in
    omega arith

equation_counts : (s t : State) (a : Taken) (e : Row) (rest : List Row) (us : List ℕ) → IsReady s.system → s.system.equations ≡ e ∷ rest →
    present s.system.unknown e ≡ us → equation_stage limits s e rest us ≡ goes t a → Counts s t a.answer
unfolding equation_stage
equation_counts s t a e rest [] r q p g =
    counts_at s _ t _ a g (record { counted = λ k. k; kept_is = omega arith; few = λ l. l; back = falls (omega arith) (omega arith) })
equation_counts s t a e rest (u ∷ []) r q p g =
    let x = count_passed (first_count limits (last s.system e rest u).system) _ t a g in
    counts_at s _ t _ a (not_refused _ _ _ t a x.1).1
    (record { counted = λ _. x.0; kept_is = last_kept s.system e rest u; few = λ l. l; back = falls (omega arith) (last_left s.system e rest u q x.0) })
equation_counts s t a e rest (u ∷ w ∷ us) r q p g =
    let x = count_passed (first_count limits (merge s.system e u w).system) _ t a g in
    counts_at s _ t _ a (not_refused _ _ _ t a x.1).1
    (record { counted = λ _. x.0; kept_is = merge_kept s.system e u w; few = λ l. l; back = falls (omega arith) (merge_left s.system e rest u w us r q p) })

-- ---- a Bound step
found_same : (x : ℕ) (lower : Bool) (rows : List Row) (s : Found) → length s.bounds ≡ length s.columns →
    length (found_all x lower s rows).bounds ≡ length (found_all x lower s rows).columns
found_same x lower [] s h = h
found_same x lower (r ∷ rows) s h =
    found_same x lower rows (found_row x lower s r)
    (by_found (λ (z : Found). length z.bounds ≡ length z.columns) x lower s r
    (λ _. let b : ℕ × ℕ = (s.next, unsigned_abs (entry r x)) in omega (arith, length-append s.bounds (b ∷ []), length-append s.columns (s.next ∷ []), h)) h)

searched_kept : (m : System) (x : ℕ) (lower : Bool) →
    length (searched m x lower).bounds + length (searched m x lower).steps + kept m ≤ kept (searched m x lower).system
unfolding searched
searched_kept m x lower =
    let s = found_all x lower (no_found m) m.inequalities in
    omega (arith, found_same x lower m.inequalities (no_found m) refl, length-append m.known s.columns)

search_kept : (m : System) (c : Pick) → length (searched_by m c).bounds + length (searched_by m c).steps + kept m ≤ kept (searched_by m c).system
unfolding searched_by
search_kept m c =
    cond_both (nat_lt 1 c.product) (searched m c.unknown c.lower) (record { system = m; steps = []; back = []; bounds = [] })
    (λ (a : Answer). length a.bounds + length a.steps + kept m ≤ kept a.system)
    (λ _. searched_kept m c.unknown c.lower) (λ _. omega arith)

searched_back : (m : System) (x : ℕ) (lower : Bool) → (searched m x lower).back ≡ []
unfolding searched
searched_back m x lower = refl

search_back : (m : System) (c : Pick) → (searched_by m c).back ≡ []
unfolding searched_by
search_back m c =
    cond_both (nat_lt 1 c.product) (searched m c.unknown c.lower) (record { system = m; steps = []; back = []; bounds = [] }) (λ (a : Answer). a.back ≡ [])
    (λ _. searched_back m c.unknown c.lower) (λ _. refl)

bound_kept : (m : System) (c : Pick) → length (bound m c).bounds + length (bound m c).steps + kept m ≤ kept (bound m c).system
unfolding bound dropped
bound_kept m c = rw (append-nil, append-nil) (search_kept m c)

bound_one : (m : System) (c : Pick) → length (bound m c).back ≡ 1
unfolding bound dropped
bound_one m c = rw (search_back m c) refl

dropped_left : (m : System) (x : ℕ) → In x m.unknown → m.equations ≡ [] → 1 + left (dropped m x).system ≤ left m
unfolding dropped
dropped_left m x i q = let s = filter_gone x m.unknown i in rw q (omega arith)

plain_left : (m : System) (c : Pick) → c.product ≤ 1 → In c.unknown m.unknown → m.equations ≡ [] → 1 + left (bound m c).system ≤ left m
unfolding bound
plain_left m c l i q = rw (plain_search m c l) (dropped_left m c.unknown i q)

plain_tuples : (m : System) (c : Pick) (n : ℕ) → c.product ≤ 1 → fold times_bound n (searched_by m c).bounds ≡ n
plain_tuples m c n l = rw (plain_search m c l) refl

bound_back : (s t : State) (c : Pick) → t.system ≡ (bound s.system c).system → t.tuples ≡ fold times_bound s.tuples (searched_by s.system c).bounds →
    t.tuples ≡ min (s.tuples * c.product) (2 ^ 64 - 1) → t.tuples ≤ 1048576 →
    first_count limits (bound s.system c).system ≡ None → In c.unknown s.system.unknown → s.system.equations ≡ [] → Back s t (bound s.system c)
bound_back s t c e n d l k i q =
    let o = bound_one s.system c in
    let same : left t.system ≡ left (bound s.system c).system = ap left e in
    on_bool (nat_lt 1 c.product)
    (λ g.
    let f = left_few (bound s.system c).system k in
    doubles (subst (λ z. 2 * s.tuples ≤ z) (sym d) (doubled s.tuples c.product (ltb-true 1 c.product g) (subst (λ z. z ≤ 1048576) d l))) (omega arith))
    (λ g.
    let one = ltb-false 1 c.product g in
    let p : t.tuples ≡ s.tuples = n ∙ plain_tuples s.system c s.tuples one in
    let h = plain_left s.system c one i q in
    falls (omega arith) (omega arith))

bound_counts : (s t : State) (a : Taken) (c : Pick) → In c.unknown s.system.unknown → s.system.equations ≡ [] →
    fold times_bound s.tuples (searched_by s.system c).bounds ≡ min (s.tuples * c.product) (2 ^ 64 - 1) →
    bound_stage limits s c ≡ goes t a → Counts s t a.answer
unfolding bound_stage
bound_counts s t a c i q d g =
    let n = fold times_bound s.tuples (searched_by s.system c).bounds in
    let x = not_refused (nat_lt 1048576 n) (Limit Search n) _ t a g in
    let y = count_passed (first_count limits (bound s.system c).system) _ t a x.1 in
    let l = ltb-false 1048576 n x.0 in
    let u : State = record { system = (bound s.system c).system; tuples = n; is_past_clean = false } in
    counts_at s u t _ a (not_refused _ _ _ t a y.1).1
    (record { counted = λ _. y.0; kept_is = bound_kept s.system c; few = λ _. l; back = bound_back s u c refl refl d l y.0 i q })

unknown_counts : (s t : State) (a : Taken) (us : List ℕ) → s.tuples ≤ 1048576 → s.system.equations ≡ [] → ((c : ℕ) → In c us → In c s.system.unknown) →
    unknown_stage limits s us ≡ goes t a → Counts s t a.answer
unfolding unknown_stage
unknown_counts s t a [] l q i g = cc
unknown_counts s t a (x ∷ us) l q i g =
    let c = pick s.system.inequalities x us in
    bound_counts s t a c (i c.unknown (pick_in s.system.inequalities x us)) q (tuples_pick s.system x us s.tuples (omega arith)) g

-- ---- one stage
row_counts : (s t : State) (a : Taken) (rows : List Row) → IsReady s.system → s.tuples ≤ 1048576 → s.system.equations ≡ rows →
    row_stage limits s rows ≡ goes t a → Counts s t a.answer
unfolding row_stage
row_counts s t a [] r l q g = unknown_counts s t a s.system.unknown l q (λ w i. i) g
row_counts s t a (e ∷ rest) r l q g = equation_counts s t a e rest (present s.system.unknown e) r q refl g

pub stage_counts : (s t : State) (a : Taken) → IsReady s.system → s.tuples ≤ 1048576 → stage limits s ≡ goes t a → Counts s t a.answer
unfolding stage
stage_counts s t a r l g = ⊎_elim
    (λ p. row_counts s t a s.system.equations r l refl p.1)
    (λ p. clean_counts s t a p.1) (one_of s.is_past_clean (row_stage limits s s.system.equations) (clean_stage limits s) t a g)
