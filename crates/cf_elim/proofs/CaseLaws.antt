-- The end of an elimination: a solved case, or a refusal.
use Rattle.std.proofs.Common.{◌≡◌, ℕ, ◌+◌, ◌<◌, ◌^◌, false, [], ◌++◌, Err, refl, sym, ◌∙◌, subst}
use Rattle.std.specs.Prelude.{reverse}
use Rattle.std.proofs.lemmas.List.{map-append, reverse-append, reverse-reverse}
use Rattle.cf_linear.specs.declared.system.System.{System as DeclaredSystem}
use Rattle.cf_linear.specs.Systems.{System, Answer, no_answer, then_answer}
use Rattle.cf_linear.specs.Stages.{solved, refused, stage, first_state, run, limits}
use Rattle.cf_linear.specs.Chooses.{made_of}
use Rattle.cf_linear.specs.Solved.{Owes, SolvedBy}
use Rattle.cf_linear.specs.Views.{system_of, step_of, back_of, bound_of}
use Rattle.cf_elim.specs.declared.fault.ElimFault.{ElimFault}
use Rattle.cf_elim.specs.declared.fault.ElimFault.TheVariants.{Refused, NoMemory}
use Rattle.cf_elim.specs.declared.output.StepOutput.{StepOutput}
use Rattle.cf_elim.specs.declared.output.RunOutput.{RunOutput}
use Rattle.cf_elim.specs.declared.solved.CaseParts.{CaseParts}
use Rattle.cf_elim.specs.declared.stage.State.{State}
use Rattle.cf_elim.specs.Acts.{AreStepsOf}
use Rattle.cf_elim.specs.Cases.{case_answer, IsSolvedCase}
use Rattle.cf_elim.specs.Eliminated.{EndIs}
use Rattle.cf_elim.specs.Returning.{Returns}
use Rattle.cf_tree.specs.Typing.{AreBounds}
use Rattle.cf_elim.specs.Stages.{state_of, made_answer, whole_answer, IsReady, GoesOn, IsEnd, StageIs}
use Rattle.cf_elim.proofs.RunLaws.{SoFar, so_far_none, so_far_more, so_far_end, so_far_solved, so_far_bounds}
use Rattle.cf_elim.proofs.SearchLaws.{bounds_of}

pub whole_none : (m : System) (w : RunOutput) → w.bounds.items ≡ [] → w.steps.items ≡ [] → w.later.items ≡ [] → whole_answer m w ≡ no_answer m
whole_none m w b s l = rw (b, s, l) refl

pub whole_more : (m n : System) (v w : RunOutput) (p : StepOutput) → w.bounds.items ≡ v.bounds.items ++ p.bounds.items →
    w.steps.items ≡ v.steps.items ++ p.steps.items → w.later.items ≡ v.later.items ++ reverse p.back.items →
    whole_answer n w ≡ then_answer (whole_answer m v) (made_answer n p)
whole_more m n v w p b s l =
    rw (
      b,
      s,
      l,
      map-append bound_of v.bounds.items p.bounds.items,
      map-append step_of v.steps.items p.steps.items,
      reverse-append v.later.items (reverse p.back.items),
      reverse-reverse p.back.items,
      map-append back_of p.back.items (reverse v.later.items),
    ) refl

-- the loop of `eliminate`
pub begins : (s : DeclaredSystem) (w : RunOutput) → IsReady (system_of s) → w.bounds.items ≡ [] → w.steps.items ≡ [] → w.later.items ≡ [] →
    SoFar (system_of s) (state_of (record { system = s; tuples = 1; is_past_clean = false })) (whole_answer (system_of s) w) 0
begins s w r b st l = subst (λ a. SoFar (system_of s) (first_state (system_of s)) a 0) (sym (whole_none (system_of s) w b st l)) (so_far_none (system_of s) r)

pub steps_on : (m : System) (c t : State) (v w : RunOutput) (p : StepOutput) (n : ℕ) → SoFar m (state_of c) (whole_answer (system_of c.system) v) n →
    GoesOn (system_of c.system) (stage limits (state_of c)) t p →
    w.bounds.items ≡ v.bounds.items ++ p.bounds.items → w.steps.items ≡ v.steps.items ++ p.steps.items → w.later.items ≡ v.later.items ++ reverse p.back.items →
    SoFar m (state_of t) (whole_answer (system_of t.system) w) (n + 1)
steps_on m c t v w p n h g b s l =
    subst (λ a. SoFar m (state_of t) a (n + 1)) (sym (whole_more (system_of c.system) (system_of t.system) v w p b s l))
    (so_far_more m (state_of c) (state_of t) (whole_answer (system_of c.system) v) (made_answer (system_of t.system) p) g.factor n h g.is refl g.owes g.ready
    g.settled)

pub ends_solved : (m : System) (c : State) (w : RunOutput) (n : ℕ) → SoFar m (state_of c) (whole_answer (system_of c.system) w) n → n < 2 ^ 64 →
    IsEnd (state_of c) (stage limits (state_of c)) → (run limits m).end ≡ solved
ends_solved m c w n h l e = (so_far_end m (state_of c) (whole_answer (system_of c.system) w) n solved h l e.is).0

pub ends_case : (m : System) (c : State) (w : RunOutput) (n : ℕ) (p : CaseParts) → SoFar m (state_of c) (whole_answer (system_of c.system) w) n → n < 2 ^ 64 →
    IsEnd (state_of c) (stage limits (state_of c)) →
    system_of p.first ≡ m → p.bounds.items ≡ w.bounds.items → p.steps.items ≡ w.steps.items → p.back.items ≡ reverse w.later.items →
    AreStepsOf m p.acts.items → IsSolvedCase p
ends_case m c w n p h l e f b s k t =
    let last = system_of c.system in
    let r = so_far_end m (state_of c) (whole_answer last w) n solved h l e.is in
    let q : case_answer p last ≡ whole_answer last w = rw (b, s, k) refl in
    let a = whole_answer last w in
    record {
      ends = subst (λ (x : System). (run limits x).end ≡ solved) (sym f) r.0;
      last = last;
      made = subst (λ (x : System). case_answer p last ≡ made_of x (run limits x)) (sym f) (q ∙ sym r.1);
      solves = subst (λ (x : System). SolvedBy x (case_answer p last)) (sym f)
          (subst (λ a. SolvedBy m a) (sym q) (so_far_solved m (state_of c) (whole_answer last w) n (stage limits (state_of c)) h e));
      owes = subst (λ (x : System). Owes x (case_answer p last)) (sym f) (subst (λ x. Owes m x) (sym q) h.owes);
      done = e.unknown;
      returns = subst (λ (x : System). Returns x (case_answer p last)) (sym f) (subst (λ x. Returns m x) (sym q) h.returns);
      bounds = subst (λ (x : Answer). AreBounds (bounds_of x.bounds)) (sym q) (so_far_bounds m (state_of c) a n h);
      acts = subst (λ (x : System). AreStepsOf x p.acts.items) (sym f) t;
    }

pub ends_refused : (m : System) (c : State) (w : RunOutput) (n : ℕ) (f : ElimFault) → SoFar m (state_of c) (whole_answer (system_of c.system) w) n →
    n < 2 ^ 64 → StageIs (state_of c) (stage limits (state_of c)) (Err f) → EndIs (run limits m).end (Err f)
ends_refused m c w n (Refused r) h l e = (so_far_end m (state_of c) (whole_answer (system_of c.system) w) n (refused r) h l e).0
ends_refused m c w n NoMemory h l e = tt
