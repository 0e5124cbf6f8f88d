-- What each stage that goes on owes, as a fact about the definitions.
use Rattle.std.proofs.Common.{◌≡◌, ◌≢◌, ℕ, ◌≤◌, List, [], ◌∷◌, true, false, length, refl, sym, ap, subst, arith, inl, inr, ⊎_elim}
use Rattle.std.specs.Prelude.{nat_lt}
use Rattle.std.proofs.lemmas.Bool.{cond_both, ltb-false, true≢false}
use Rattle.cf_linear.specs.Rows.{Row, Rises}
use Rattle.cf_linear.specs.Systems.{System, EachRow, Answer}
use Rattle.cf_linear.specs.Keep.{In, Over, IsColumn, Differ}
use Rattle.cf_linear.specs.Solved.{Owes}
use Rattle.cf_linear.specs.Steps.{present, clean, merge, last, Pick, pick, searched, searched_by, dropped, bound}
use Rattle.cf_linear.specs.Stages.{State, Taken, goes, stage, first_count, clean_stage, equation_stage, row_stage, unknown_stage, bound_stage, limits}
use Rattle.cf_linear.proofs.FormedLemmas.{kinds_from}
use Rattle.cf_linear.proofs.SolvedLemmas.{step_none, step_then}
use Rattle.cf_equation.proofs.MergeLaws.{merge_owes}
use Rattle.cf_equation.proofs.StepLaws.{Differ-filter, In-present, last_owes, last_formed, last_differs, only_unknown}
use Rattle.cf_bounds.specs.Exact.{AreExact}
use Rattle.cf_bounds.proofs.BoundLemmas.{searched_step, searched_exact, searched_in}
use Rattle.cf_bounds.proofs.ExactLaws.{pick_in, pick_exact}
use Rattle.cf_bounds.proofs.OwesLemmas.{clean_step, dropped_step}
use Rattle.cf_elim.specs.Stages.{IsReady, Settled}
use Rattle.cf_elim.proofs.EndLaws.{one_of, count_passed, not_refused, clean_ready, merge_ready, merge_lengths, searched_ready, bound_ready}
use Rattle.cf_elim.proofs.NextStageLaws.{clean_settles}
use Rattle.cf_elim.proofs.StageLaws.{goes_parts}

-- the step from s to t leaves the system of t, and owes what a step does
pub record Leads (s t : State) (a : Answer) : Type 0 where
  pub here : a.system ≡ t.system
  pub owes : Owes s.system a
  pub ready : IsReady t.system
  pub settled : Settled t

leads_at : (s u t : State) (x a : Taken) → goes u x ≡ goes t a → Leads s u x.answer → Leads s t a.answer
leads_at s u t x a e h = let q = goes_parts u t x a e in subst (λ (y : Taken). Leads s t y.answer) q.1 (subst (λ y. Leads s y x.answer) q.0 h)

-- ---- Clean
clean_leads : (s t : State) (a : Taken) → IsReady s.system → clean_stage limits s ≡ goes t a → Leads s t a.answer
unfolding clean_stage
clean_leads s t a r e =
    let x = count_passed (first_count limits s.system) _ t a e in
    let y = count_passed (first_count limits (clean s.system).system) _ t a x.1 in
    leads_at s _ t _ a y.1
    (record { here = refl; owes = clean_step s.system r.formed; ready = clean_ready s.system r; settled = clean_settles s.system s.tuples true })

-- ---- an equation step
merged_some : (m : System) (e : Row) (rest : List Row) (x y : ℕ) → m.equations ≡ e ∷ rest → (merge m e x y).system.equations ≡ [] → ⊥
merged_some m e rest x y q z =
    let l = (merge_lengths m e x y).1 in
    let a : length (merge m e x y).system.equations ≡ 0 = ap length z in
    let b : length m.equations ≡ length (e ∷ rest) = ap length q in
    absurd (omega arith)

equation_leads : (s t : State) (a : Taken) (e : Row) (rest : List Row) (us : List ℕ) → IsReady s.system → s.system.equations ≡ e ∷ rest →
    present s.system.unknown e ≡ us → equation_stage limits s e rest us ≡ goes t a → Leads s t a.answer
unfolding equation_stage
equation_leads s t a e rest [] r q p g =
    leads_at s _ t _ a g
    (record { here = refl; owes = step_none s.system r.formed.constant r.formed.below; ready = r; settled = λ c. absurd (true≢false (sym c)) })
equation_leads s t a e rest (u ∷ []) r q p g =
    let f = r.formed in
    let rise = subst (λ rows. EachRow (Rises 0) rows) q f.zero_rise in
    let over = subst (λ rows. EachRow (Over (IsColumn s.system)) rows) q f.zero in
    let only = only_unknown s.system e u over.0 rise.0 p in
    let i = In-present u s.system.unknown e (subst (λ xs. In u xs) (sym p) (inl refl)) in
    let x = count_passed (first_count limits (last s.system e rest u).system) _ t a g in
    leads_at s _ t _ a (not_refused _ _ _ t a x.1).1 (record {
      here = refl;
      owes = last_owes s.system e rest u f q i.0 i.1 only;
      ready = record { formed = last_formed s.system e rest u f q only; differ = last_differs s.system e rest u r.differ };
      settled = λ c. absurd (true≢false (sym c));
    })
equation_leads s t a e rest (u ∷ w ∷ us) r q p g =
    let iu = In-present u s.system.unknown e (subst (λ xs. In u xs) (sym p) (inl refl)) in
    let iw = In-present w s.system.unknown e (subst (λ xs. In w xs) (sym p) (inr (inl refl))) in
    let d : Differ (u ∷ w ∷ us) = subst Differ p (Differ-filter _ s.system.unknown r.differ) in
    let n : u ≢ w = λ k. d.0 (inl k) in
    let x = count_passed (first_count limits (merge s.system e u w).system) _ t a g in
    leads_at s _ t _ a (not_refused _ _ _ t a x.1).1 (record {
      here = refl;
      owes = merge_owes s.system e u w r.formed iu.0 iw.0 iu.1 iw.1;
      ready = merge_ready s.system e u w r iu.0 iw.0 n;
      settled = λ c z. absurd (merged_some s.system e rest u w q z);
    })

-- ---- a Bound step
-- the search owes, keeps its unknown, and makes each pair of its bounds exact
pub record Searches (m : System) (x : ℕ) (a : Answer) : Type 0 where
  pub owes : Owes m a
  pub unknown : In x a.system.unknown
  pub exact : AreExact x a.system.inequalities

search_leads : (m : System) (c : Pick) → IsReady m → In c.unknown m.unknown → (c.product ≤ 1 → AreExact c.unknown m.inequalities) →
    Searches m c.unknown (searched_by m c)
unfolding searched_by
search_leads m c r i x =
    cond_both (nat_lt 1 c.product) (searched m c.unknown c.lower) (record { system = m; steps = []; back = []; bounds = [] }) (λ a. Searches m c.unknown a)
    (λ _. record {
      owes = searched_step m c.unknown c.lower r.formed i;
      unknown = searched_in m c.unknown c.lower i;
      exact = searched_exact m c.unknown c.lower r.formed i;
    })
    (λ e. record { owes = step_none m r.formed.constant r.formed.below; unknown = i; exact = x (ltb-false 1 c.product e) })

bound_owes : (m : System) (c : Pick) → IsReady m → In c.unknown m.unknown → m.equations ≡ [] → (c.product ≤ 1 → AreExact c.unknown m.inequalities) →
    Owes m (bound m c)
unfolding bound
bound_owes m c r i q x =
    let h = searched_ready m c r i q in
    let k = search_leads m c r i x in
    step_then m (searched_by m c) (dropped (searched_by m c).system c.unknown) k.owes
    (dropped_step (searched_by m c).system c.unknown (kinds_from (searched_by m c).system h.0.formed) k.unknown h.1 k.exact)

bound_leads : (s t : State) (a : Taken) (c : Pick) → IsReady s.system → In c.unknown s.system.unknown → s.system.equations ≡ [] →
    (c.product ≤ 1 → AreExact c.unknown s.system.inequalities) →
    bound_stage limits s c ≡ goes t a → Leads s t a.answer
unfolding bound_stage
bound_leads s t a c r i q x g =
    let y = not_refused _ _ _ t a g in
    let z = count_passed (first_count limits (bound s.system c).system) _ t a y.1 in
    leads_at s _ t _ a (not_refused _ _ _ t a z.1).1
    (record { here = refl; owes = bound_owes s.system c r i q x; ready = bound_ready s.system c r i q; settled = λ c. absurd (true≢false (sym c)) })

unknown_leads : (s t : State) (a : Taken) (us : List ℕ) → IsReady s.system → s.system.equations ≡ [] → ((c : ℕ) → In c us → In c s.system.unknown) →
    unknown_stage limits s us ≡ goes t a → Leads s t a.answer
unfolding unknown_stage
unknown_leads s t a [] r q i g = cc
unknown_leads s t a (x ∷ us) r q i g =
    let c = pick s.system.inequalities x us in
    bound_leads s t a c r (i c.unknown (pick_in s.system.inequalities x us)) q (pick_exact s.system.inequalities x us) g

-- ---- one stage
row_leads : (s t : State) (a : Taken) (rows : List Row) → IsReady s.system → s.system.equations ≡ rows → row_stage limits s rows ≡ goes t a → Leads s t a.answer
unfolding row_stage
row_leads s t a [] r q g = unknown_leads s t a s.system.unknown r q (λ w i. i) g
row_leads s t a (e ∷ rest) r q g = equation_leads s t a e rest (present s.system.unknown e) r q refl g

pub stage_leads : (s t : State) (a : Taken) → IsReady s.system → stage limits s ≡ goes t a → Leads s t a.answer
unfolding stage
stage_leads s t a r g = ⊎_elim
    (λ p. row_leads s t a s.system.equations r refl p.1)
    (λ p. clean_leads s t a r p.1) (one_of s.is_past_clean (row_stage limits s s.system.equations) (clean_stage limits s) t a g)
