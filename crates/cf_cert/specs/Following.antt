-- What the calls that follow the steps of a case answer.
use Rattle.std.specs.Prelude.{◌≡◌, ℕ, ◌++◌, map, reverse, Result, Ok, Err, if◌then◌else◌}
use Rattle.std.specs.List.{fold}
use Rattle.cf_linear.specs.Stages.{times_bound}
use Rattle.cf_linear.specs.Systems.{System, then_answer}
use Rattle.cf_linear.specs.Views.{system_of, bound_of}
use Rattle.cf_elim.specs.declared.output.RunOutput.{RunOutput}
use Rattle.cf_elim.specs.declared.output.StepOutput.{StepOutput}
use Rattle.cf_elim.specs.Stages.{IsReady, made_answer, whole_answer}
use Rattle.cf_cert.specs.declared.follow.Way.{Way}
use Rattle.cf_cert.specs.declared.follow.CaseFault.{CaseFault}
use Rattle.cf_cert.specs.declared.follow.CaseFault.TheVariants.{Rejected as CaseRejected, NoMemory as CaseNoMemory}
use Rattle.cf_cert.specs.declared.next.ApplyFault.{ApplyFault}
use Rattle.cf_cert.specs.declared.next.ApplyFault.TheVariants.{Rejected, NoMemory}
use Rattle.cf_cert.specs.declared.next.Next.{Next}
use Rattle.cf_cert.specs.declared.verdict.Why.TheVariants.{Left}
use Rattle.cf_cert.specs.Applying.{Applied}
use Rattle.cf_cert.specs.Certifying.{Followed, is_over}
use Rattle.cf_cert.specs.Stepping.{MayLackMemory}

-- what the steps make, or the first one that does not apply, or want of memory
abbrev pub CaseIs : Followed → Result StepOutput CaseFault → Type 0
CaseIs f (Ok p) = (m : System) × (f ≡ Ok (made_answer m p))
CaseIs f (Err (CaseRejected i w)) = f ≡ Err (i, w)
CaseIs f (Err CaseNoMemory) = Unit {0}

-- the fault of step i as one of the case
abbrev pub at_step : ℕ → ApplyFault → CaseFault
at_step i (Rejected w) = CaseRejected i w
at_step i NoMemory = CaseNoMemory

-- what a step leaves, behind n tuples and what the steps before it made
pub record IsAdded (before : RunOutput) (n : ℕ) (x : Next) (w : Way) : Type 0 where
  pub system : w.system ≡ x.system
  pub tuples : w.tuples ≡ fold times_bound n (map bound_of x.made.bounds.items)
  pub bounds : w.whole.bounds.items ≡ before.bounds.items ++ x.made.bounds.items
  pub steps : w.whole.steps.items ≡ before.steps.items ++ x.made.steps.items
  pub later : w.whole.later.items ≡ before.later.items ++ reverse x.made.back.items

-- one step more, which applied
pub record IsAdvanced (v : Way) (a : Applied) (w : Way) : Type 0 where
  pub made : StepOutput
  pub is : a ≡ Ok (made_answer (system_of w.system) made)
  pub ready : IsReady (system_of w.system)
  pub tuples : w.tuples ≡ fold times_bound v.tuples (map bound_of made.bounds.items)
  pub whole : whole_answer (system_of w.system) w.whole ≡ then_answer (whole_answer (system_of v.system) v.whole) (made_answer (system_of w.system) made)

-- one step more, or why it does not apply, or want of memory
abbrev pub WayIs : Way → Applied → Result Way ApplyFault → Type 0
WayIs v a (Ok w) = IsAdvanced v a w
WayIs v a (Err (Rejected w)) = a ≡ Err w
WayIs v a (Err NoMemory) = MayLackMemory a

-- the end of the case, which has the number i
abbrev pub end_of : Way → ℕ → Followed
end_of w i = (if is_over (system_of w.system) then Ok (whole_answer (system_of w.system) w.whole) else Err (i, Left))
