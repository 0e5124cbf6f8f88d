use Rattle.cf_close.proofs.NodeLemmas.{below_by}
use Rattle.cf_close.proofs.node.with_opposite.Goals as goal

pub returns : goal.returns
returns c =
    below_by c.args.row.now c.args.node c.push_fact.new.self c.in_ok-fact.fact c.in_ok-fact.ensures (rw c.in_ok-push_fact.was at c.push_fact.ensures)
