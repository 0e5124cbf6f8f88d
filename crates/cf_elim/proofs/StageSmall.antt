-- Each stage that goes on leaves rows of the program, and makes lets, needs and unknowns of such rows.
use Rattle.std.proofs.Common.{◌≡◌, ◌≢◌, ℕ, ◌+◌, ◌<◌, ◌≤◌, ℤ, pos, neg_ℤ, List, [], ◌∷◌, ◌++◌, map, Bool, false, not, refl, sym, arith, subst, inl, inr, ⊎_elim}
use Rattle.std.specs.Prelude.{filter, nat_lt, int_lt, unsigned_abs}
use Rattle.std.proofs.lemmas.Bool.{cond_both}
use Rattle.cf_num.specs.Limit.{IsWithin}
use Rattle.cf_linear.specs.Rows.{Row, entry, is_zero, IsRow, AreBelow, without}
use Rattle.cf_linear.specs.Systems.{System, EachRow, Step, floor_of, need_nonneg, need_zero, need_divides, How, row_how, greatest, least, Answer, no_answer}
use Rattle.cf_linear.specs.Systems.{then_answer}
use Rattle.cf_linear.specs.Keep.{In}
use Rattle.cf_linear.specs.Steps.{present, has_unknown, known_part, has_column, divided, clean, Tightened, then_tighten, mix, merge, merge_passes, factors_of}
use Rattle.cf_linear.specs.Steps.{two_at, last, last_passes, is_unit, is_positive, solved_row, Pick, pick, Found, found_row, found_all, no_found}
use Rattle.cf_linear.specs.Steps.{search_equation, search_bound, searched, searched_by, lowers, uppers, free_of, pairs_of, how_between, dropped, drop_passes}
use Rattle.cf_linear.specs.Steps.{bound, bound_passes}
use Rattle.cf_linear.specs.Stages.{State, Taken, goes, stage, first_count, clean_stage, equation_stage, row_stage, unknown_stage, bound_stage, limits}
use Rattle.cf_linear.proofs.Joining.{AreBelow-raise}
use Rattle.cf_linear.proofs.KindLemmas.{EachRow-append, EachRow-filter}
use Rattle.cf_linear.proofs.PassingLemmas.{entry-within, neg_within}
use Rattle.cf_equation.proofs.StepLaws.{In-present}
use Rattle.cf_bounds.proofs.CleanLaws.{clean_below}
use Rattle.cf_bounds.proofs.CleanLemmas.{by_row, tight, unknowns_of, floored, distinct_forth}
use Rattle.cf_bounds.proofs.ExactLaws.{pick_in}
use Rattle.cf_bounds.proofs.SearchLemmas.{by_row as by_found}
use Rattle.cf_elim.specs.Stages.{IsReady}
use Rattle.cf_elim.proofs.EndLaws.{one_of, count_passed, not_refused}
use Rattle.cf_elim.proofs.SmallRows.{filter_small, without_small, divided_small, divisor_small, floored_small, solved_small, any_parts, all_subst_small}
use Rattle.cf_elim.proofs.SmallRows.{all_mixed_small, factors_small, two_small, search_small, search_bound_small, pairs_small}
use Rattle.cf_elim.proofs.StageLaws.{goes_parts}

-- ---- rows of the program, and divisors within the limit of numbers
abbrev pub StepSmall : Step → Type 0
StepSmall (floor_of c r g) = IsRow r × IsWithin g
StepSmall (need_nonneg r) = IsRow r
StepSmall (need_zero r) = IsRow r
StepSmall (need_divides g r) = IsRow r × IsWithin g

abbrev pub StepsSmall : List Step → Type 0
StepsSmall [] = Unit {0}
StepsSmall (m ∷ ms) = StepSmall m × StepsSmall ms

abbrev pub PairsSmall : List (Row × ℤ) → Type 0
PairsSmall [] = Unit {0}
PairsSmall ((r, k) ∷ bs) = IsRow r × IsWithin k × PairsSmall bs

abbrev pub HowSmall : How → Type 0
HowSmall (row_how r) = IsRow r
HowSmall (greatest bs) = PairsSmall bs
HowSmall (least bs) = PairsSmall bs

abbrev pub BackSmall : List (ℕ × How) → Type 0
BackSmall [] = Unit {0}
BackSmall ((x, w) ∷ ws) = HowSmall w × BackSmall ws

-- ---- a system, and what a step makes
pub record RowsSmall (m : System) : Type 0 where
  pub zero : EachRow IsRow m.equations
  pub nonneg : EachRow IsRow m.inequalities

pub record AnswerSmall (a : Answer) : Type 0 where
  pub rows : RowsSmall a.system
  pub steps : StepsSmall a.steps
  pub back : BackSmall a.back

pub steps_join : (ms ns : List Step) → StepsSmall ms → StepsSmall ns → StepsSmall (ms ++ ns)
steps_join [] ns h k = k
steps_join (m ∷ ms) ns h k = (h.0, steps_join ms ns h.1 k)

pub back_join : (vs ws : List (ℕ × How)) → BackSmall vs → BackSmall ws → BackSmall (vs ++ ws)
back_join [] ws h k = k
back_join ((x, v) ∷ vs) ws h k = (h.0, back_join vs ws h.1 k)

none_small : (m : System) → RowsSmall m → AnswerSmall (no_answer m)
none_small m r = record { rows = r; steps = tt; back = tt }

-- ---- Clean
zeros_small : (rows : List Row) → EachRow IsRow rows → StepsSmall (map (λ r. need_zero r) rows)
zeros_small [] h = tt
zeros_small (r ∷ rows) h = (h.0, zeros_small rows h.1)

nonnegs_small : (rows : List Row) → EachRow IsRow rows → StepsSmall (map (λ r. need_nonneg r) rows)
nonnegs_small [] h = tt
nonnegs_small (r ∷ rows) h = (h.0, nonnegs_small rows h.1)

record TightSmall (lo : ℕ) (t : Tightened) : Type 0 where
  low : lo ≤ t.next
  steps : StepsSmall t.steps
  rows : EachRow IsRow t.rows

tight_one : (lo : ℕ) (us : List ℕ) (t : Tightened) (r : Row) → AreBelow lo r → IsRow r → TightSmall lo t → TightSmall lo (then_tighten us t r)
tight_one lo us t r b p h =
    let low = h.low in
    by_row (TightSmall lo) us t r
    (record { low = low; steps = h.steps; rows = EachRow-append IsRow t.rows (r ∷ []) h.rows (p, tt) })
    (λ _ _. record {
      low = low;
      steps = h.steps;
      rows = EachRow-append IsRow t.rows (divided (unknowns_of us r) r ∷ []) h.rows (divided_small (unknowns_of us r) r p, tt);
    })
    (λ _. record {
      low = omega arith;
      steps = steps_join t.steps (floor_of t.next (known_part us r) (pos (unknowns_of us r)) ∷ []) h.steps
          ((filter_small (λ (c, k). not (has_column us c)) r p, divisor_small us r p), tt);
      rows = EachRow-append IsRow t.rows (floored us t.next r ∷ []) h.rows (floored_small us t.next r (AreBelow-raise lo t.next r low b) p, tt);
    })

tight_all : (lo : ℕ) (us : List ℕ) (rows : List Row) (t : Tightened) → EachRow (AreBelow lo) rows → EachRow IsRow rows → TightSmall lo t →
    TightSmall lo (tight us t rows)
tight_all lo us [] t b p h = h
tight_all lo us (r ∷ rows) t b p h = tight_all lo us rows (then_tighten us t r) b.1 p.1 (tight_one lo us t r b.0 p.0 h)

pub clean_small : (m : System) → IsReady m → RowsSmall m → AnswerSmall (clean m)
unfolding clean
clean_small m r h =
    let us = m.unknown in
    let has = has_unknown us in
    let zeros = filter (λ r. not (has_unknown us r)) m.equations in
    let nonnegs = filter (λ r. not (has_unknown us r)) m.inequalities in
    let rows = filter (has_unknown us) m.inequalities in
    let start : Tightened = record { next = m.next; made = []; steps = []; rows = [] } in
    let below = EachRow-filter (AreBelow m.next) has m.inequalities (clean_below m r.formed) in
    let t = tight_all m.next us rows start below (EachRow-filter IsRow has m.inequalities h.nonneg)
    (record { low = omega arith; steps = tt; rows = tt }) in
    record {
      rows = record { zero = EachRow-filter IsRow has m.equations h.zero; nonneg = distinct_forth IsRow [] (tight us start rows).rows t.rows };
      steps = steps_join (map need_zero zeros ++ map need_nonneg nonnegs) (tight us start rows).steps
          (steps_join (map need_zero zeros) (map need_nonneg nonnegs)
          (zeros_small zeros (EachRow-filter IsRow (λ r. not (has_unknown us r)) m.equations h.zero))
          (nonnegs_small nonnegs (EachRow-filter IsRow (λ r. not (has_unknown us r)) m.inequalities h.nonneg))) t.steps;
      back = tt;
    }

-- ---- an equation step
pub last_small : (m : System) (e : Row) (rest : List Row) (u : ℕ) → RowsSmall m → m.equations ≡ e ∷ rest → last_passes m e rest u ≡ false →
    AnswerSmall (last m e rest u)
unfolding last
last_small m e rest u h q p =
    let zo = subst (λ rows. EachRow IsRow rows) q h.zero in
    let k = without_small u e zo.0 in
    let s = solved_row (entry e u) (without u e) m.next in
    let o = solved_small (entry e u) (without u e) m.next k in
    let a = any_parts _ rest m.inequalities p in
    let w = entry-within e 0 u zo.0.0 zo.0.1 in
    let none : List Step = [] in
    record {
      rows = record { zero = all_subst_small u s rest o zo.1 a.0; nonneg = all_subst_small u s m.inequalities o h.nonneg a.1 };
      steps = cond_both (is_unit (entry e u)) none
          (need_divides (pos (unsigned_abs (entry e u))) (without u e) ∷ floor_of m.next (without u e) (pos (unsigned_abs (entry e u))) ∷ [])
          (λ y. StepsSmall y)
          (λ _. tt) (λ _. ((k, w), ((k, w), tt)));
      back = (o, tt);
    }

merge_small : (m : System) (e : Row) (rest : List Row) (x y : ℕ) → RowsSmall m → m.equations ≡ e ∷ rest → entry e x ≢ pos 0 → entry e y ≢ pos 0 →
    merge_passes m e x y ≡ false → AnswerSmall (merge m e x y)
unfolding merge mix merge_passes
merge_small m e rest x y h q hx hy p =
    let zo = subst (λ rows. EachRow IsRow rows) q h.zero in
    let f = factors_of (entry e x) (entry e y) in
    let w = factors_small (entry e x) (entry e y) hx hy (entry-within e 0 x zo.0.0 zo.0.1) (entry-within e 0 y zo.0.0 zo.0.1) in
    let u = m.next in
    let v = m.next + 1 in
    let first = two_small f.s u f.m v (omega arith) w.s w.m in
    let second = two_small f.t u f.n v (omega arith) w.t w.n in
    let a = any_parts _ m.equations m.inequalities p in
    record {
      rows = record {
        zero = all_mixed_small x y (two_at f.s u f.m v) (two_at f.t u f.n v) m.equations first second h.zero a.0;
        nonneg = all_mixed_small x y (two_at f.s u f.m v) (two_at f.t u f.n v) m.inequalities first second h.nonneg a.1;
      };
      steps = tt;
      back = (first, (second, tt));
    }

-- ---- a Bound step
record FoundSmall (lo : ℕ) (s : Found) : Type 0 where
  low : lo ≤ s.next
  zero : EachRow IsRow s.equations
  nonneg : EachRow IsRow s.rows

found_one : (lo x : ℕ) (lower : Bool) (s : Found) (r : Row) → x < lo → AreBelow lo r → IsRow r → FoundSmall lo s → FoundSmall lo (found_row x lower s r)
found_one lo x lower s r lx b p h =
    let low = h.low in
    by_found (FoundSmall lo) x lower s r
    (λ e. record {
      low = omega arith;
      zero = EachRow-append IsRow s.equations (search_equation x lower s.next r ∷ []) h.zero
          (search_small x s.next lower r (AreBelow-raise lo s.next r low b) e p, tt);
      nonneg = EachRow-append IsRow s.rows (search_bound x lower s.next ∷ []) h.nonneg (search_bound_small x s.next lower (omega arith), tt);
    })
    (record { low = low; zero = h.zero; nonneg = EachRow-append IsRow s.rows (r ∷ []) h.nonneg (p, tt) })

found_small : (lo x : ℕ) (lower : Bool) (rows : List Row) (s : Found) → x < lo → EachRow (AreBelow lo) rows → EachRow IsRow rows → FoundSmall lo s →
    FoundSmall lo (found_all x lower s rows)
found_small lo x lower [] s lx b p h = h
found_small lo x lower (r ∷ rows) s lx b p h = found_small lo x lower rows (found_row x lower s r) lx b.1 p.1 (found_one lo x lower s r lx b.0 p.0 h)

pub searched_small : (m : System) (x : ℕ) (lower : Bool) → IsReady m → In x m.unknown → RowsSmall m → AnswerSmall (searched m x lower)
unfolding searched
searched_small m x lower r i h =
    let s = found_all x lower (no_found m) m.inequalities in
    let f =
    found_small m.next x lower m.inequalities (no_found m) (r.formed.unknown_below x i) (clean_below m r.formed) h.nonneg
    (record { low = omega arith; zero = tt; nonneg = tt }) in
    record { rows = record { zero = EachRow-append IsRow m.equations s.equations h.zero f.zero; nonneg = f.nonneg }; steps = tt; back = tt }

search_answer_small : (m : System) (c : Pick) → IsReady m → In c.unknown m.unknown → RowsSmall m → AnswerSmall (searched_by m c)
unfolding searched_by
search_answer_small m c r i h =
    cond_both (nat_lt 1 c.product) (searched m c.unknown c.lower) (record { system = m; steps = []; back = []; bounds = [] }) (λ a. AnswerSmall a)
    (λ _. searched_small m c.unknown c.lower r i h) (λ _. none_small m h)

pairs_of_small : (x : ℕ) (k : Row → ℤ) (rows : List Row) → ((r : Row) → IsRow r → IsWithin (k r)) → EachRow IsRow rows →
    PairsSmall (map (λ r. (without x r, k r)) rows)
pairs_of_small x k [] f h = tt
pairs_of_small x k (r ∷ rows) f h = (without_small x r h.0, f r h.0, pairs_of_small x k rows f h.1)

how_small : (x : ℕ) (low high : List Row) → EachRow IsRow low → EachRow IsRow high → HowSmall (how_between x low high)
how_small x [] [] h k = (tt, tt)
how_small x [] (u ∷ high) h k = pairs_of_small x (λ r. neg_ℤ (entry r x)) (u ∷ high) (λ r p. neg_within (entry r x) (entry-within r 0 x p.0 p.1)) k
how_small x (l ∷ low) high h k = pairs_of_small x (λ r. entry r x) (l ∷ low) (λ r p. entry-within r 0 x p.0 p.1) h

pub dropped_small : (m : System) (x : ℕ) → RowsSmall m → drop_passes m x ≡ false → AnswerSmall (dropped m x)
unfolding dropped
dropped_small m x h p =
    let low = EachRow-filter IsRow (λ r. is_positive (entry r x)) m.inequalities h.nonneg in
    let high = EachRow-filter IsRow (λ r. int_lt (entry r x) (pos 0)) m.inequalities h.nonneg in
    record {
      rows = record {
        zero = h.zero;
        nonneg = EachRow-append IsRow (free_of x m.inequalities) (pairs_of x (lowers x m.inequalities) (uppers x m.inequalities))
            (EachRow-filter IsRow (λ r. is_zero (entry r x)) m.inequalities h.nonneg)
            (pairs_small x (lowers x m.inequalities) (uppers x m.inequalities) low high p);
      };
      steps = tt;
      back = (how_small x (lowers x m.inequalities) (uppers x m.inequalities) low high, tt);
    }

then_small : (a b : Answer) → AnswerSmall a → AnswerSmall b → AnswerSmall (then_answer a b)
then_small a b h k = record { rows = k.rows; steps = steps_join a.steps b.steps h.steps k.steps; back = back_join b.back a.back k.back h.back }

bound_small : (m : System) (c : Pick) → IsReady m → In c.unknown m.unknown → RowsSmall m → bound_passes m c ≡ false → AnswerSmall (bound m c)
unfolding bound bound_passes
bound_small m c r i h p =
    let s = search_answer_small m c r i h in
    then_small (searched_by m c) (dropped (searched_by m c).system c.unknown) s (dropped_small (searched_by m c).system c.unknown s.rows p)

-- ---- a stage
-- the step makes rows of the program, and leaves them
pub record Writes (t : State) (a : Answer) : Type 0 where
  pub rows : RowsSmall t.system
  pub steps : StepsSmall a.steps
  pub back : BackSmall a.back

writes_at : (u t : State) (x a : Taken) → goes u x ≡ goes t a → u.system ≡ x.answer.system → AnswerSmall x.answer → Writes t a.answer
writes_at u t x a e s h =
    let q = goes_parts u t x a e in
    let w : Writes u x.answer = record { rows = subst RowsSmall (sym s) h.rows; steps = h.steps; back = h.back } in
    subst (λ (y : Taken). Writes t y.answer) q.1 (subst (λ y. Writes y x.answer) q.0 w)

clean_writes : (s t : State) (a : Taken) → IsReady s.system → RowsSmall s.system → clean_stage limits s ≡ goes t a → Writes t a.answer
unfolding clean_stage
clean_writes s t a r h e =
    let x = count_passed (first_count limits s.system) _ t a e in
    writes_at _ t _ a (count_passed (first_count limits (clean s.system).system) _ t a x.1).1 refl (clean_small s.system r h)

equation_writes : (s t : State) (a : Taken) (e : Row) (rest : List Row) (us : List ℕ) → RowsSmall s.system → s.system.equations ≡ e ∷ rest →
    present s.system.unknown e ≡ us → equation_stage limits s e rest us ≡ goes t a → Writes t a.answer
unfolding equation_stage
equation_writes s t a e rest [] h q p g = writes_at _ t _ a g refl (none_small s.system h)
equation_writes s t a e rest (u ∷ []) h q p g =
    let x = count_passed (first_count limits (last s.system e rest u).system) _ t a g in
    let y = not_refused (last_passes s.system e rest u) _ _ t a x.1 in
    writes_at _ t _ a y.1 refl (last_small s.system e rest u h q y.0)
equation_writes s t a e rest (u ∷ w ∷ us) h q p g =
    let x = count_passed (first_count limits (merge s.system e u w).system) _ t a g in
    let y = not_refused (merge_passes s.system e u w) _ _ t a x.1 in
    let iu = In-present u s.system.unknown e (subst (λ xs. In u xs) (sym p) (inl refl)) in
    let iw = In-present w s.system.unknown e (subst (λ xs. In w xs) (sym p) (inr (inl refl))) in
    writes_at _ t _ a y.1 refl (merge_small s.system e rest u w h q iu.1 iw.1 y.0)

bound_writes : (s t : State) (a : Taken) (c : Pick) → IsReady s.system → In c.unknown s.system.unknown → RowsSmall s.system →
    bound_stage limits s c ≡ goes t a → Writes t a.answer
unfolding bound_stage
bound_writes s t a c r i h g =
    let x = not_refused _ _ _ t a g in
    let y = count_passed (first_count limits (bound s.system c).system) _ t a x.1 in
    let z = not_refused (bound_passes s.system c) _ _ t a y.1 in
    writes_at _ t _ a z.1 refl (bound_small s.system c r i h z.0)

unknown_writes : (s t : State) (a : Taken) (us : List ℕ) → IsReady s.system → ((c : ℕ) → In c us → In c s.system.unknown) → RowsSmall s.system →
    unknown_stage limits s us ≡ goes t a → Writes t a.answer
unfolding unknown_stage
unknown_writes s t a [] r i h g = cc
unknown_writes s t a (x ∷ us) r i h g =
    let c = pick s.system.inequalities x us in
    bound_writes s t a c r (i c.unknown (pick_in s.system.inequalities x us)) h g

row_writes : (s t : State) (a : Taken) (rows : List Row) → IsReady s.system → RowsSmall s.system → s.system.equations ≡ rows →
    row_stage limits s rows ≡ goes t a → Writes t a.answer
unfolding row_stage
row_writes s t a [] r h q g = unknown_writes s t a s.system.unknown r (λ w i. i) h g
row_writes s t a (e ∷ rest) r h q g = equation_writes s t a e rest (present s.system.unknown e) h q refl g

pub stage_writes : (s t : State) (a : Taken) → IsReady s.system → RowsSmall s.system → stage limits s ≡ goes t a → Writes t a.answer
unfolding stage
stage_writes s t a r h g = ⊎_elim
    (λ p. row_writes s t a s.system.equations r h refl p.1)
    (λ p. clean_writes s t a r h p.1) (one_of s.is_past_clean (row_stage limits s s.system.equations) (clean_stage limits s) t a g)
