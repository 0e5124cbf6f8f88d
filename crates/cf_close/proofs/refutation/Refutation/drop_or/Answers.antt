use Rattle.cf_close.proofs.RefutationLemmas.{complete_by, or_left}
use Rattle.cf_close.proofs.refutation.Refutation.drop_or.Goals as goal

pub invariant_of-self : goal.invariant_of-self
invariant_of-self c =
    complete_by c.self.inside.problem c.self.inside.closed c.self.inside.top c.remove_or.new.self _ c.self.inside.rest.items c.self.invariant c.remove_or.ensures
    (or_left c.remove_or.result c.self.inside.problem c.args.or c.self.inside.top)
