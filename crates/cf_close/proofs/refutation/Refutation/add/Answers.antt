use Rattle.cf_close.proofs.RefutationLemmas.{complete_by, sum_added}
use Rattle.cf_close.proofs.refutation.Refutation.add.Goals as goal

pub invariant_of-self : goal.invariant_of-self
invariant_of-self c =
    complete_by c.self.inside.problem c.self.inside.closed c.self.inside.top c.push_fact.new.self _ c.self.inside.rest.items c.self.invariant c.push_fact.ensures
    (sum_added c.push_fact.result c.self.inside.problem c.self.inside.top c.in_ok-fact.fact (rw c.facts.ensures at c.in_ok-fact.ensures))
