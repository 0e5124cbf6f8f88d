-- What a solved case keeps.
use Rattle.std.specs.Prelude.{◌≡◌, [], map}
use Rattle.cf_linear.specs.Systems.{System, Answer}
use Rattle.cf_linear.specs.Stages.{solved, run, limits}
use Rattle.cf_linear.specs.Chooses.{made_of}
use Rattle.cf_linear.specs.Solved.{Owes, SolvedBy}
use Rattle.cf_linear.specs.Views.{system_of, step_of, back_of, bound_of}
use Rattle.cf_tree.specs.Typing.{AreBounds}
use Rattle.cf_elim.specs.Acts.{AreStepsOf}
use Rattle.cf_elim.specs.Returning.{Returns}
use Rattle.cf_elim.specs.declared.solved.CaseParts.{CaseParts}

-- the parts, and the last system
abbrev pub case_answer : CaseParts → System → Answer
case_answer p last = record { system = last; steps = map step_of p.steps.items; back = map back_of p.back.items; bounds = map bound_of p.bounds.items }

-- the elimination of the first system is not refused, the parts are what it makes, and they solve the system; no unknown is left, unknowns come
-- back from columns that are left, divisors are at least 1, and the searches have few tuples; the steps are those that the elimination takes
pub record IsSolvedCase (p : CaseParts) : Type 0 where
  pub ends : (run limits (system_of p.first)).end ≡ solved
  pub last : System
  pub made : case_answer p last ≡ made_of (system_of p.first) (run limits (system_of p.first))
  pub solves : SolvedBy (system_of p.first) (case_answer p last)
  pub owes : Owes (system_of p.first) (case_answer p last)
  pub done : last.unknown ≡ []
  pub returns : Returns (system_of p.first) (case_answer p last)
  pub bounds : AreBounds (map (λ (c, p). p) (case_answer p last).bounds)
  pub acts : AreStepsOf (system_of p.first) p.acts.items
