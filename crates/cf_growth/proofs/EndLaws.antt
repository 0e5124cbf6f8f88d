-- A trace that ends solved leaves no unknown, so its case stays within the growth.
use Rattle.std.proofs.Common.{◌≡◌, ℕ, List, [], ◌∷◌, Bool, true, false, Option, Some, None, refl, sym, ◌∙◌, ap, subst, ◌⊎◌, inl, inr, ⊎_elim}
use Rattle.std.specs.Prelude.{if◌then◌else◌}
use Rattle.cf_linear.specs.declared.refusal.Refusal.{Refusal}
use Rattle.cf_linear.specs.declared.refusal.Refusal.TheVariants.{Past}
use Rattle.cf_linear.specs.Rows.{Row}
use Rattle.cf_linear.specs.Systems.{System}
use Rattle.cf_linear.specs.Steps.{present, Pick, pick}
use Rattle.cf_linear.specs.Stages.{Limits, State, Taken, End, Stage, Trace, stop, more, goes, ends, stage, solved, refused, first_state, ends_or, refused_if, row_stage, unknown_stage, clean_stage, equation_stage, bound_stage}
use Rattle.cf_growth.specs.Tracing.{Stands, all_of, CasesGrow}
use Rattle.cf_growth.proofs.StageGrowth.{stage_says}
use Rattle.cf_growth.proofs.TraceGrowth.{trace_together, first_stands, case_within}

not_solved : (o : Option Refusal) (b : Bool) (t : State) (a : Taken) → ends_or o (refused_if b Past (goes t a)) ≡ ends solved → ⊥
not_solved (Some r) b t a e = let q : refused r ≡ solved = cc in absurd (cc)
not_solved None true t a e = let q : refused Past ≡ solved = cc in absurd (cc)
not_solved None false t a e = absurd (cc)

not_refused : (b : Bool) (r : Refusal) (h : Stage) → refused_if b r h ≡ ends solved → h ≡ ends solved
not_refused true r h e = let q : refused r ≡ solved = cc in absurd (cc)
not_refused false r h e = e

not_counted : (o : Option Refusal) (h : Stage) → ends_or o h ≡ ends solved → h ≡ ends solved
not_counted (Some r) h e = let q : refused r ≡ solved = cc in absurd (cc)
not_counted None h e = e

clean_goes : (l : Limits) (s : State) → clean_stage l s ≡ ends solved → ⊥
unfolding clean_stage
clean_goes l s e = not_solved _ false _ _ (not_counted _ _ e)

equation_goes : (l : Limits) (s : State) (r : Row) (rest : List Row) (us : List ℕ) → equation_stage l s r rest us ≡ ends solved → ⊥
unfolding equation_stage
equation_goes l s r rest [] e = absurd (cc)
equation_goes l s r rest (u ∷ []) e = not_solved _ _ _ _ e
equation_goes l s r rest (u ∷ w ∷ us) e = not_solved _ _ _ _ e

bound_goes : (l : Limits) (s : State) (c : Pick) → bound_stage l s c ≡ ends solved → ⊥
unfolding bound_stage
bound_goes l s c e = not_solved _ _ _ _ (not_refused _ _ _ e)

unknown_end : (l : Limits) (s : State) (us : List ℕ) → s.system.unknown ≡ us → unknown_stage l s us ≡ ends solved → s.system.unknown ≡ []
unfolding unknown_stage
unknown_end l s [] q e = q
unknown_end l s (x ∷ us) q e = absurd (bound_goes l s (pick s.system.inequalities x us) e)

row_end : (l : Limits) (s : State) (rows : List Row) → row_stage l s rows ≡ ends solved → s.system.unknown ≡ []
unfolding row_stage
row_end l s [] e = unknown_end l s s.system.unknown refl e
row_end l s (r ∷ rows) e = absurd (equation_goes l s r rows (present s.system.unknown r) e)

one_of : (b : Bool) (g h : Stage) → (if b then g else h) ≡ ends solved → (g ≡ ends solved) ⊎ (h ≡ ends solved)
one_of true g h e = inl e
one_of false g h e = inr e

stage_end : (l : Limits) (s : State) → stage l s ≡ ends solved → s.system.unknown ≡ []
unfolding stage
stage_end l s e = ⊎_elim (λ p. row_end l s s.system.equations p) (λ p. absurd (clean_goes l s p))
    (one_of s.is_past_clean (row_stage l s s.system.equations) (clean_stage l s) e)

pub trace_done : (l : Limits) (s : State) (taken : List Taken) (e : End) → Trace l s taken e → e ≡ solved → Stands s →
    (all_of s.system taken).system.unknown ≡ []
trace_done l s [] e (stop p) q h = stage_end l s (p ∙ ap ends q)
trace_done l s (a ∷ taken) e (more {t = t} p k) q h =
    let y = stage_says l s t a h p in
    subst (λ (x : System). (all_of x taken).system.unknown ≡ []) (sym y.next) (trace_done l t taken e k q y.stands)

pub cases_grow : CasesGrow
cases_grow l levels m taken f d t =
    let s = first_stands m f d in
    let h = trace_together l (first_state m) taken solved t s in
    case_within levels m (all_of m taken) h.forth h.back _ h.grows h.within (trace_done l (first_state m) taken solved t refl s)
