use Rattle.std.proofs.Common.{subst}
use Rattle.std.specs.Prelude.{IfOk, slice_set}
use Rattle.cf_close.specs.Nodes.{IsMade, removed}
use Rattle.cf_close.proofs.node.narrowed.Goals as goal

pub returns-in-Some : goal.returns-in-Some
returns-in-Some c =
    subst (λ b. IfOk c.with_fewer.result (λ r. IsMade c.args.node.now.facts (slice_set c.args.node.now.ors c.args.or (removed c.args.branch b)) r))
    c.in-Some.ensures.1 c.with_fewer.ensures
