use Rattle.cf_close.proofs.BranchLemmas.{or_splits}
use Rattle.cf_close.proofs.node.split_or.Goals as goal

pub returns-in-Some : goal.returns-in-Some
returns-in-Some c =
    or_splits (λ s. s.first) (λ s. s.second) c.split_by.result c.args.problem.now c.args.node.now c.in-Some.holds.now c.args.or c.args.branch
    c.in-Some.ensures c.split_by.ensures
