use Rattle.std.proofs.Common.{refl}
use Rattle.cf_close.proofs.RefutationLemmas.{complete_by}
use Rattle.cf_close.proofs.refutation.Refutation.take_branch.Goals as goal

pub invariant_of-self : goal.invariant_of-self
invariant_of-self c =
    complete_by c.self.inside.problem c.self.inside.closed c.self.inside.top c.in_ok-top.top c.in_ok-top.top c.self.inside.rest.items c.self.invariant refl
    c.in_ok-top.ensures
