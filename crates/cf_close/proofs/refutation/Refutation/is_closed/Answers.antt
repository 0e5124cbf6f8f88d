use Rattle.std.proofs.Common.{subst}
use Rattle.cf_close.specs.Problems.{HasNone}
use Rattle.cf_close.proofs.RefutationLemmas.{none_when}
use Rattle.cf_close.proofs.refutation.Refutation.is_closed.Goals as goal

pub returns : goal.returns
returns c = λ e. subst (λ p. HasNone p) c.self.view_is
    (none_when c.self.inside.problem c.self.inside.closed c.self.inside.top c.self.inside.rest.items e c.self.invariant)
