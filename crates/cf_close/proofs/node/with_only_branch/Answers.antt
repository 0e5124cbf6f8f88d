use Rattle.cf_close.proofs.BranchLemmas.{one_is_left}
use Rattle.cf_close.proofs.node.with_only_branch.Goals as goal

pub returns-in-Some : goal.returns-in-Some
returns-in-Some c =
    one_is_left c.taken.result c.args.problem.now c.args.node.now c.in-Some.only.now c.args.or (c.has_one_branch.ensures c.if-not-has_one_branch.false)
    c.in-Some.ensures c.taken.ensures
