use Rattle.cf_close.proofs.node.split_by.Goals as goal

pub returns : goal.returns
returns c = record { made = c.in_ok-first.ensures; other = c.in_ok-second.ensures }
