use Rattle.cf_linear.specs.Views.{system_of}
use Rattle.cf_elim.specs.Stages.{state_of, whole_answer}
use Rattle.cf_elim.proofs.ActLaws.{AreTaken}
use Rattle.cf_elim.proofs.RunLaws.{SoFar}
use Rattle.cf_elim.proofs.elimination.eliminate.Given as goal

abbrev pub invariant-loop-taken : goal.invariant-loop-taken
invariant-loop-taken l =
    SoFar (system_of l.fn.system) (state_of l.current) (whole_answer (system_of l.current.system) l.whole) l.taken ×
    AreTaken (system_of l.fn.system) (state_of l.current) l.acts.items l.taken
