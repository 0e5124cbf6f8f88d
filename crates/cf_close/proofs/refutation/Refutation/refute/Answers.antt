use Rattle.cf_close.proofs.RefutationLemmas.{complete_left, conflict_refutes}
use Rattle.cf_close.proofs.refutation.Refutation.refute.Goals as goal

pub invariant_of-self : goal.invariant_of-self
invariant_of-self c =
    complete_left c.self.inside.problem c.self.inside.closed c.leave.new.closed c.self.inside.top c.leave.new.top c.self.inside.rest.items c.leave.new.rest.items
    c.self.invariant (conflict_refutes c.self.inside.problem c.self.inside.top (rw c.facts.ensures at c.in_ok-check_conflict.ensures)) c.leave.ensures
