-- A stage that ends solved stands at a clean state without equations and unknowns.
use Rattle.std.proofs.Common.{◌≡◌, ℕ, List, [], ◌∷◌, Bool, true, false, Option, Some, None, refl, ◌⊎◌, inl, inr, ⊎_elim}
use Rattle.std.specs.Prelude.{if◌then◌else◌}
use Rattle.cf_linear.specs.declared.refusal.Refusal.{Refusal}
use Rattle.cf_linear.specs.declared.refusal.Refusal.TheVariants.{Past}
use Rattle.cf_linear.specs.Rows.{Row}
use Rattle.cf_linear.specs.Steps.{present, Pick, pick}
use Rattle.cf_linear.specs.Stages.{State, solved, Taken, Stage, ends, goes, stage, ends_or, refused_if, clean_stage, equation_stage, row_stage, unknown_stage}
use Rattle.cf_linear.specs.Stages.{bound_stage, limits}
use Rattle.cf_elim.specs.Stages.{IsEnd}

or_not : (o : Option Refusal) (h : Stage) → ends_or o h ≡ ends solved → h ≡ ends solved
or_not (Some r) h e = cc
or_not None h e = e

if_not : (b : Bool) (r : Refusal) (h : Stage) → refused_if b r h ≡ ends solved → h ≡ ends solved
if_not true r h e = cc
if_not false r h e = e

goes_not : (t : State) (a : Taken) → goes t a ≡ ends solved → ⊥
goes_not t a e = cc

-- a step to a counted system
counted_not : (o : Option Refusal) (b : Bool) (t : State) (a : Taken) → ends_or o (refused_if b Past (goes t a)) ≡ ends solved → ⊥
counted_not o b t a e = goes_not t a (if_not b Past (goes t a) (or_not o (refused_if b Past (goes t a)) e))

clean_not : (s : State) → clean_stage limits s ≡ ends solved → ⊥
unfolding clean_stage
clean_not s e = goes_not _ _ (or_not _ _ (or_not _ _ e))

equation_not : (s : State) (e : Row) (rest : List Row) (us : List ℕ) → equation_stage limits s e rest us ≡ ends solved → ⊥
unfolding equation_stage
equation_not s e rest [] h = goes_not _ _ h
equation_not s e rest (u ∷ []) h = counted_not _ _ _ _ h
equation_not s e rest (u ∷ w ∷ us) h = counted_not _ _ _ _ h

bound_not : (s : State) (c : Pick) → bound_stage limits s c ≡ ends solved → ⊥
unfolding bound_stage
bound_not s c h = counted_not _ _ _ _ (if_not _ _ _ h)

unknown_none : (s : State) (us : List ℕ) → unknown_stage limits s us ≡ ends solved → us ≡ []
unfolding unknown_stage
unknown_none s [] h = refl
unknown_none s (x ∷ us) h = absurd (bound_not s (pick s.system.inequalities x us) h)

row_none : (s : State) (rows : List Row) → row_stage limits s rows ≡ ends solved → (rows ≡ []) × (s.system.unknown ≡ [])
unfolding row_stage
row_none s [] h = (refl, unknown_none s s.system.unknown h)
row_none s (e ∷ rest) h = absurd (equation_not s e rest (present s.system.unknown e) h)

one_of : (b : Bool) (g h : Stage) → (if b then g else h) ≡ ends solved → ((b ≡ true) × (g ≡ ends solved)) ⊎ (h ≡ ends solved)
one_of true g h e = inl (refl, e)
one_of false g h e = inr e

pub stage_ends_solved : (s : State) → stage limits s ≡ ends solved → IsEnd s (stage limits s)
unfolding stage
stage_ends_solved s h = ⊎_elim
    (λ c. let r = row_none s s.system.equations c.1 in record { is = h; clean = c.0; equations = r.0; unknown = r.1 })
    (λ c. absurd (clean_not s c)) (one_of s.is_past_clean (row_stage limits s s.system.equations) (clean_stage limits s) h)
