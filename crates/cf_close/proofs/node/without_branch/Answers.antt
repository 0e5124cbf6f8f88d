use Rattle.cf_close.proofs.BranchLemmas.{branch_fails}
use Rattle.cf_close.proofs.node.without_branch.Goals as goal

pub returns-in-Some : goal.returns-in-Some
returns-in-Some c =
    branch_fails c.with_conflict.result c.args.problem.now c.args.node.now c.in-Some.fails.now c.args.or c.args.branch c.in-Some.ensures c.with_conflict.ensures
