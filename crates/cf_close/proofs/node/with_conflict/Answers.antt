use Rattle.cf_close.proofs.node.with_conflict.Goals as goal

pub returns : goal.returns
returns c = record { fails = rw c.facts.ensures at c.in_ok-check_branch.ensures; made = c.in_ok-rest.ensures }
