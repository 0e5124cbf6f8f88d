use Rattle.cf_close.proofs.RefutationLemmas.{complete_by, sum_replaces}
use Rattle.cf_close.proofs.refutation.Refutation.replace.Goals as goal

pub invariant_of-self : goal.invariant_of-self
invariant_of-self c =
    complete_by c.self.inside.problem c.self.inside.closed c.self.inside.top c.set_fact.new.self _ c.self.inside.rest.items c.self.invariant c.set_fact.ensures
    (sum_replaces c.set_fact.result c.self.inside.problem c.args.place c.self.inside.top c.in_ok-fact.fact (rw c.facts.ensures at c.in_ok-fact.ensures))
