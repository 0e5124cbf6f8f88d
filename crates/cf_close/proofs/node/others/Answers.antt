use Rattle.cf_close.proofs.BranchLemmas.{other_plain, other_below}
use Rattle.cf_close.proofs.node.others.Goals as goal

pub returns-in-Some : goal.returns-in-Some
returns-in-Some c =
    other_below c.with_opposite.result c.args.holds.now c.args.node.now c.in_ok-rest.rest c.args.or c.args.branch c.in-Some.row.now
    c.in-Some.ensures c.in_ok-rest.ensures c.with_opposite.ensures

pub returns-in-None : goal.returns-in-None
returns-in-None c = other_plain c.args.holds.now c.args.node.now c.in_ok-rest.rest c.args.or c.args.branch c.in_ok-rest.ensures
