use Rattle.cf_close.proofs.BranchLemmas.{none_is_left}
use Rattle.cf_close.proofs.RefutationLemmas.{complete_left}
use Rattle.cf_close.proofs.refutation.Refutation.refute_or.Goals as goal

pub invariant_of-self : goal.invariant_of-self
invariant_of-self c =
    complete_left c.self.inside.problem c.self.inside.closed c.leave.new.closed c.self.inside.top c.leave.new.top c.self.inside.rest.items c.leave.new.rest.items
    c.self.invariant (none_is_left c.self.inside.problem c.self.inside.top c.args.or (c.has_no_branch.ensures c.if-not-has_no_branch.false)) c.leave.ensures
