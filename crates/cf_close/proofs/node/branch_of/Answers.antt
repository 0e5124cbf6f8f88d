use Rattle.cf_close.proofs.node.branch_of.Goals as goal

pub returns-in-Some : goal.returns-in-Some
returns-in-Some c = c.conjunction_at.ensures c.args.node.now c.args.or c.args.branch c.in-Some.ensures
