use Rattle.cf_close.proofs.node.check_branch.Goals as goal

pub returns : goal.returns
returns c = rw c.facts.ensures at c.check_conflict.ensures
