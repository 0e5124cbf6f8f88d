-- The steps of an elimination as calls write them, one stage after the other.
use Rattle.std.proofs.Common.{◌≡◌, ℕ, suc, ◌+◌, ◌-◌, ◌^◌, ◌<◌, List, [], ◌∷◌, ◌++◌, length, true, false, All, refl, sym, ◌∙◌, ap, arith}
use Rattle.std.proofs.Common.{subst, append_assoc, Result, Ok, Err}
use Rattle.std.specs.Prelude.{OnOk}
use Rattle.std.proofs.lemmas.List.{append-nil}
use Rattle.std.proofs.lemmas.List.Elements.{All-nil, All-append}
use Rattle.cf_linear.specs.Rows.{Row}
use Rattle.cf_linear.specs.Systems.{System}
use Rattle.cf_linear.specs.Steps.{Pick}
use Rattle.cf_linear.specs.Stages.{limits, State, End, solved, ends, goes, stage, Taken, first_state}
use Rattle.cf_bounds.specs.Picking.{picked}
use Rattle.cf_equation.specs.Equations.{first_of, first_present}
use Rattle.cf_elim.specs.declared.act.Act.{Act}
use Rattle.cf_elim.specs.declared.act.Act.TheVariants.{Clean, Last}
use Rattle.cf_elim.specs.declared.output.StepOutput.{StepOutput}
use Rattle.cf_elim.specs.declared.stage.State.{State as DeclaredState}
use Rattle.cf_elim.specs.Acts.{IsSpelledAct, equation_acts, bound_acts, unknown_acts, row_acts, acts_at, acts_for, traced, AreAdded, IsMerge, AreStepsOf}
use Rattle.cf_elim.specs.Stages.{IsEnd, GoesOn, state_of, made_answer}
use Rattle.cf_linear.specs.Views.{system_of}

pub past_acts : (s : State) → s.is_past_clean ≡ true → acts_at s ≡ row_acts s.system s.system.equations
unfolding acts_at
past_acts s e = rw e refl

pub clean_acts : (s : State) → s.is_past_clean ≡ false → acts_at s ≡ Clean ∷ []
unfolding acts_at
clean_acts s e = rw e refl

pub ends_acts : (s : State) (n : ℕ) (e : End) → stage limits s ≡ ends e → acts_for (suc n) limits s ≡ []
unfolding acts_for
ends_acts s n e p = rw (p, acts_for) refl

pub goes_acts : (s t : State) (a : Taken) (n : ℕ) → stage limits s ≡ goes t a → acts_for (suc n) limits s ≡ acts_at s ++ acts_for n limits t
unfolding acts_for
goes_acts s t a n p = rw (p, acts_for) refl

-- ---- the steps of a stage
pub clean_added : (s : State) (old new : List Act) → s.is_past_clean ≡ false → AreAdded old (Clean ∷ []) new → AreAdded old (acts_at s) new
clean_added s old new e h = subst (λ xs. AreAdded old xs new) (sym (clean_acts s e)) h

first_row : (m : System) (rows : List Row) → m.equations ≡ rows → 0 < length rows → row_acts m rows ≡ equation_acts (first_of m) (first_present m)
first_row m [] e l = absurd (omega arith)
first_row m (r ∷ rest) e l =
    let f : first_of m ≡ r = rw e refl in
    rw f refl

pub rows_added : (s : State) (old new : List Act) → s.is_past_clean ≡ true → 0 < length s.system.equations →
    AreAdded old (equation_acts (first_of s.system) (first_present s.system)) new → AreAdded old (acts_at s) new
rows_added s old new e l h =
    subst (λ xs. AreAdded old xs new) (sym (past_acts s e ∙ first_row s.system s.system.equations refl l)) h

no_row : (m : System) → m.equations ≡ [] → row_acts m m.equations ≡ unknown_acts m m.unknown
no_row m e = rw e refl

-- the steps of the first equation, whose unknowns are us
pub nothing_added : (e : Row) (us : List ℕ) (old : List Act) → us ≡ [] → AreAdded old (equation_acts e us) old
nothing_added e us old n = subst (λ xs. AreAdded old (equation_acts e xs) old) (sym n) (record { is = sym (append-nil old); spelled = All-nil IsSpelledAct })

pub one_added : (e : Row) (us : List ℕ) (u : ℕ) (old new : List Act) → us ≡ u ∷ [] → AreAdded old (Last 0 ∷ []) new → AreAdded old (equation_acts e us) new
one_added e us u old new n h = subst (λ xs. AreAdded old (equation_acts e xs) new) (sym n) h

pub several_added : (e : Row) (us : List ℕ) (x y : ℕ) (ws : List ℕ) (old new : List Act) → us ≡ x ∷ y ∷ ws → (act : Act) → IsMerge e x y act →
    AreAdded old (act ∷ []) new → AreAdded old (equation_acts e us) new
several_added e us x y ws old new n act k h =
    subst (λ xs. AreAdded old (equation_acts e xs) new) (sym n) (subst (λ a. AreAdded old (a ∷ []) new) k.is h)

-- those of the pick
pub bound_added : (m : System) (p : Pick) (old new : List Act) → 0 < length m.unknown → p ≡ picked m.inequalities m.unknown →
    AreAdded old (bound_acts p) new → AreAdded old (unknown_acts m m.unknown) new
bound_added m p old new l e h = by m.unknown l (subst (λ c. AreAdded old (bound_acts c) new) e h)
  where
    by : (us : List ℕ) → 0 < length us → AreAdded old (bound_acts (picked m.inequalities us)) new → AreAdded old (unknown_acts m us) new
    by [] k a = absurd (omega arith)
    by (x ∷ us) k a = a

pub unknowns_added : (s : State) (old new : List Act) → s.is_past_clean ≡ true → s.system.equations ≡ [] →
    AreAdded old (unknown_acts s.system s.system.unknown) new → AreAdded old (acts_at s) new
unknowns_added s old new e q h = subst (λ xs. AreAdded old xs new) (sym (past_acts s e ∙ no_row s.system q)) h

end_acts : (s : State) → s.is_past_clean ≡ true → s.system.equations ≡ [] → s.system.unknown ≡ [] → acts_at s ≡ []
end_acts s e q u = past_acts s e ∙ no_row s.system q ∙ ap (unknown_acts s.system) u

pub end_added : (s : State) (old : List Act) → s.is_past_clean ≡ true → s.system.equations ≡ [] → s.system.unknown ≡ [] → AreAdded old (acts_at s) old
end_added s old e q u =
    subst (λ xs. AreAdded old xs old) (sym (end_acts s e q u)) (record { is = sym (append-nil old); spelled = All-nil IsSpelledAct })

-- what was added before a call that may run out of memory
pub on_ok : {T E : Type 0} {A : Type 0} (r : Result T E) → A → OnOk r A
on_ok (Ok x) a = a
on_ok (Err f) a = tt

-- ---- one stage after the other
-- n stages from the first system m led to the state s, and these are their steps
pub record AreTaken (m : System) (s : State) (acts : List Act) (n : ℕ) : Type 0 where
  pub onward : (k : ℕ) → acts_for (n + k) limits (first_state m) ≡ acts ++ acts_for k limits s
  pub spelled : All IsSpelledAct acts

pub none_taken : (m : System) (acts : List Act) → acts ≡ [] → AreTaken m (first_state m) acts 0
none_taken m acts e = record {
  onward = λ k.
      let z : 0 + k ≡ k = omega arith in
      ap (λ j. acts_for j limits (first_state m)) z ∙ ap (λ xs. xs ++ acts_for k limits (first_state m)) (sym e);
  spelled = subst (All IsSpelledAct) (sym e) (All-nil IsSpelledAct);
}

taken_on : (m : System) (s t : State) (a : Taken) (acts more : List Act) (n : ℕ) → AreTaken m s acts n → stage limits s ≡ goes t a →
    AreAdded acts (acts_at s) more → AreTaken m t more (n + 1)
taken_on m s t a acts more n h p w = record {
  onward = λ k.
      ap (λ j. acts_for j limits (first_state m)) (next n k) ∙ h.onward (suc k) ∙ ap (λ xs. acts ++ xs) (goes_acts s t a k p) ∙
      sym (append_assoc acts (acts_at s) (acts_for k limits t)) ∙ ap (λ xs. xs ++ acts_for k limits t) (sym w.is);
  spelled = subst (All IsSpelledAct) (sym w.is) (All-append IsSpelledAct acts (acts_at s) h.spelled w.spelled);
}
  where
    next : (n k : ℕ) → n + 1 + k ≡ n + suc k
    next n k = omega arith

pub one_taken : (m : System) (s : State) (t : DeclaredState) (p : StepOutput) (acts more : List Act) (n : ℕ) → AreTaken m s acts n →
    GoesOn s.system (stage limits s) t p → AreAdded acts (acts_at s) more → AreTaken m (state_of t) more (n + 1)
one_taken m s t p acts more n h g w =
    taken_on m s (state_of t) (record { answer = made_answer (system_of t.system) p; factor = g.factor }) acts more n h g.is w

all_stages : (n : ℕ) → n < 2 ^ 64 → (k : ℕ) × (2 ^ 64 ≡ n + suc k)
all_stages n l = (2 ^ 64 - n - 1, omega arith)

pub all_taken : (m : System) (s : State) (acts more : List Act) (n : ℕ) → AreTaken m s acts n → n < 2 ^ 64 → IsEnd s (stage limits s) →
    AreAdded acts (acts_at s) more → AreStepsOf m more
unfolding traced
all_taken m s acts more n h l e w =
    let all = all_stages n l in
    let same : more ≡ acts = w.is ∙ ap (λ xs. acts ++ xs) (end_acts s e.clean e.equations e.unknown) ∙ append-nil acts in
    record {
      are = same ∙ sym (append-nil acts) ∙ ap (λ xs. acts ++ xs) (sym (ends_acts s all.0 solved e.is)) ∙ sym (h.onward (suc all.0)) ∙
          ap (λ j. acts_for j limits (first_state m)) (sym all.1);
      spelled = subst (All IsSpelledAct) (sym same) h.spelled;
    }
