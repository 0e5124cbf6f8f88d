use Rattle.cf_close.proofs.RefutationLemmas.{left_some}
use Rattle.cf_close.proofs.refutation.leave.Goals as goal

pub returns-in-Some : goal.returns-in-Some
returns-in-Some c = left_some c.args.rest.now.items c.pop.new.self.items c.in-Some.next c.in-Some.ensures.items
