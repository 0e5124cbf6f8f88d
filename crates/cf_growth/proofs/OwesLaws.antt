-- The whole of an elimination keeps known columns, has let and search columns of its own, and computes each unknown from columns that are left.
use Rattle.std.proofs.Common.{◌≡◌, ℕ, ◌≤◌, List, [], ◌∷◌, Bool, false, Option, refl, sym, subst, inl, inr, ⊎_elim}
use Rattle.std.specs.Prelude.{nat_lt}
use Rattle.std.proofs.lemmas.Bool.{cond_both, ltb-false, true≢false}
use Rattle.cf_linear.specs.declared.refusal.Refusal.{Refusal}
use Rattle.cf_linear.specs.declared.refusal.Refusal.TheVariants.{Past}
use Rattle.cf_linear.specs.Rows.{Row, Rises}
use Rattle.cf_linear.specs.Systems.{System, EachRow, Answer}
use Rattle.cf_linear.specs.Keep.{In, Over, IsColumn, Formed}
use Rattle.cf_linear.specs.Solved.{Owes}
use Rattle.cf_linear.specs.Steps.{present, clean, Pick, pick, searched, searched_by, dropped, bound}
use Rattle.cf_linear.specs.Stages.{State, Taken, End, Trace, stop, more, goes, stage, ends_or, refused_if, first_count, clean_stage, equation_stage, row_stage, unknown_stage, bound_stage, limits}
use Rattle.cf_linear.proofs.FormedLemmas.{kinds_from}
use Rattle.cf_linear.proofs.SolvedLemmas.{step_then, step_none}
use Rattle.cf_equation.proofs.MergeLaws.{merge_owes}
use Rattle.cf_equation.proofs.StepLaws.{In-present, only_unknown, last_owes}
use Rattle.cf_bounds.specs.Exact.{AreExact}
use Rattle.cf_bounds.proofs.BoundLemmas.{searched_step, searched_exact}
use Rattle.cf_bounds.proofs.ExactLaws.{pick_in, pick_exact}
use Rattle.cf_bounds.proofs.OwesLemmas.{clean_step, dropped_step}
use Rattle.cf_elim.specs.Returning.{Returns}
use Rattle.cf_elim.proofs.ReturnLaws.{returns_none, returns_then}
use Rattle.cf_elim.proofs.StageLaws.{stage_says as stage_returns}
use Rattle.cf_growth.specs.Tracing.{Stands, all_of}
use Rattle.cf_growth.proofs.BoundGrowth.{search_keeps}
use Rattle.cf_elim.proofs.EndLaws.{one_of}
use Rattle.cf_elim.proofs.StageLaws.{ends_or_goes, refused_goes, goes_parts}
use Rattle.cf_growth.proofs.StageGrowth.{search_stands, stage_says}

owes_at : (s u t : State) (x a : Taken) → goes u x ≡ goes t a → Owes s.system x.answer → Owes s.system a.answer
owes_at s u t x a e h = let q = goes_parts u t x a e in subst (λ (y : Taken). Owes s.system y.answer) q.1 h

counted_owes : (s u t : State) (x a : Taken) (o : Option Refusal) (b : Bool) → ends_or o (refused_if b Past (goes u x)) ≡ goes t a → Owes s.system x.answer →
    Owes s.system a.answer
counted_owes s u t x a o b e h = owes_at s u t x a (refused_goes b Past (goes u x) t a (ends_or_goes o (refused_if b Past (goes u x)) t a e)).1 h

clean_owes : (s t : State) (a : Taken) → Stands s → clean_stage limits s ≡ goes t a → Owes s.system a.answer
unfolding clean_stage
clean_owes s t a h e = owes_at s _ t _ a (ends_or_goes (first_count limits (clean s.system).system) _ t a (ends_or_goes (first_count limits s.system) _ t a e))
    (clean_step s.system h.formed)

equation_owes : (s t : State) (a : Taken) (e : Row) (rest : List Row) (us : List ℕ) → Stands s → s.system.equations ≡ e ∷ rest →
    present s.system.unknown e ≡ us → equation_stage limits s e rest us ≡ goes t a → Owes s.system a.answer
unfolding equation_stage
equation_owes s t a e rest [] h q p g = owes_at s _ t _ a g (step_none s.system h.formed.constant h.formed.below)
equation_owes s t a e rest (u ∷ []) h q p g =
    let rise = subst (λ rows. EachRow (Rises 0) rows) q h.formed.zero_rise in
    let over = subst (λ rows. EachRow (Over (IsColumn s.system)) rows) q h.formed.zero in
    let i = In-present u s.system.unknown e (subst (λ xs. In u xs) (sym p) (inl refl)) in
    counted_owes s _ t _ a _ _ g (last_owes s.system e rest u h.formed q i.0 i.1 (only_unknown s.system e u over.0 rise.0 p))
equation_owes s t a e rest (u ∷ w ∷ us) h q p g =
    let iu = In-present u s.system.unknown e (subst (λ xs. In u xs) (sym p) (inl refl)) in
    let iw = In-present w s.system.unknown e (subst (λ xs. In w xs) (sym p) (inr (inl refl))) in
    counted_owes s _ t _ a _ _ g (merge_owes s.system e u w h.formed iu.0 iw.0 iu.1 iw.1)

search_owes : (m : System) (c : Pick) → Formed m → In c.unknown m.unknown → (c.product ≤ 1 → AreExact c.unknown m.inequalities) →
    Owes m (searched_by m c) × AreExact c.unknown (searched_by m c).system.inequalities
unfolding searched_by
search_owes m c f i x =
    cond_both (nat_lt 1 c.product) (searched m c.unknown c.lower) (record { system = m; steps = []; back = []; bounds = [] })
    (λ (a : Answer). Owes m a × AreExact c.unknown a.system.inequalities)
    (λ _. (searched_step m c.unknown c.lower f i, searched_exact m c.unknown c.lower f i))
    (λ t. (step_none m f.constant f.below, x (ltb-false 1 c.product t)))

bound_is_owed : (m : System) (c : Pick) → Stands (record { system = m; tuples = 0; is_past_clean = false }) → In c.unknown m.unknown → m.equations ≡ [] →
    (c.product ≤ 1 → AreExact c.unknown m.inequalities) → Owes m (bound m c)
unfolding bound
bound_is_owed m c h i q x =
    let f = search_stands m c h.formed h.differ i q in
    let o = search_owes m c h.formed i x in
    step_then m (searched_by m c) (dropped (searched_by m c).system c.unknown) o.0
    (dropped_step (searched_by m c).system c.unknown (kinds_from (searched_by m c).system f.0) (search_keeps m c i) f.2 o.1)

bound_owes : (s t : State) (a : Taken) (c : Pick) → Stands s → s.system.equations ≡ [] → In c.unknown s.system.unknown →
    (c.product ≤ 1 → AreExact c.unknown s.system.inequalities) → bound_stage limits s c ≡ goes t a → Owes s.system a.answer
unfolding bound_stage
bound_owes s t a c h q i x e =
    counted_owes s _ t _ a _ _ (refused_goes _ _ _ t a e).1
    (bound_is_owed s.system c (record { formed = h.formed; differ = h.differ; tight = λ z. absurd (true≢false (sym z)) }) i q x)

unknown_owes : (s t : State) (a : Taken) (us : List ℕ) → Stands s → s.system.equations ≡ [] → ((c : ℕ) → In c us → In c s.system.unknown) →
    unknown_stage limits s us ≡ goes t a → Owes s.system a.answer
unfolding unknown_stage
unknown_owes s t a [] h q i e = cc
unknown_owes s t a (x ∷ us) h q i e =
    let c = pick s.system.inequalities x us in
    bound_owes s t a c h q (i c.unknown (pick_in s.system.inequalities x us)) (pick_exact s.system.inequalities x us) e

row_owes : (s t : State) (a : Taken) (rows : List Row) → Stands s → s.system.equations ≡ rows → row_stage limits s rows ≡ goes t a → Owes s.system a.answer
unfolding row_stage
row_owes s t a [] h q e = unknown_owes s t a s.system.unknown h q (λ c i. i) e
row_owes s t a (r ∷ rows) h q e = equation_owes s t a r rows (present s.system.unknown r) h q refl e

stage_owes : (s t : State) (a : Taken) → Stands s → stage limits s ≡ goes t a → Owes s.system a.answer
unfolding stage
stage_owes s t a h e = ⊎_elim
    (λ p. row_owes s t a s.system.equations h refl p.1)
    (λ p. clean_owes s t a h p.1) (one_of s.is_past_clean (row_stage limits s s.system.equations) (clean_stage limits s) t a e)

pub trace_owes : (s : State) (taken : List Taken) (e : End) → Trace limits s taken e → Stands s →
    Owes s.system (all_of s.system taken) × Returns s.system (all_of s.system taken)
trace_owes s [] e (stop p) h = (step_none s.system h.formed.constant h.formed.below, returns_none s.system)
trace_owes s (a ∷ taken) e (more {t = t} p k) h =
    let y = stage_says limits s t a h p in
    let o = stage_owes s t a h p in
    let r = (stage_returns s t a (record { formed = h.formed; differ = h.differ }) p).returns in
    let again = subst (λ (x : System). Owes x (all_of x taken) × Returns x (all_of x taken)) (sym y.next) (trace_owes t taken e k y.stands) in
    (step_then s.system a.answer (all_of a.answer.system taken) o again.0, returns_then s.system a.answer (all_of a.answer.system taken) r again.1)
