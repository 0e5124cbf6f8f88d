use Rattle.cf_close.proofs.RefutationLemmas.{complete_by, complete_left, division_replaces, division_refutes}
use Rattle.cf_close.proofs.refutation.Refutation.tighten.Goals as goal

pub invariant_of-self : goal.invariant_of-self
invariant_of-self c =
    complete_by c.self.inside.problem c.self.inside.closed c.self.inside.top c.set_fact.new.self _ c.self.inside.rest.items c.self.invariant c.set_fact.ensures
    (division_replaces c.set_fact.result c.self.inside.problem c.args.place c.self.inside.top c.in-Ok-Tighter.fact
    (rw (c.facts.ensures, c.in-Ok-Tighter.field-0-is) at c.in-Ok-Tighter.ensures))

pub invariant_of-self-in-Ok-Closed : goal.invariant_of-self-in-Ok-Closed
invariant_of-self-in-Ok-Closed c =
    complete_left c.self.inside.problem c.self.inside.closed c.leave.new.closed c.self.inside.top c.leave.new.top c.self.inside.rest.items c.leave.new.rest.items
    c.self.invariant (division_refutes c.self.inside.problem c.self.inside.top (rw (c.facts.ensures, c.in-Ok-Closed.field-0-is) at c.in-Ok-Closed.ensures)) c.leave.ensures
