use Rattle.cf_close.proofs.NodeLemmas.{row_cuts}
use Rattle.cf_close.proofs.node.split_row.Goals as goal

pub returns : goal.returns
returns c =
    row_cuts c.args.node.now c.in_ok-one.one c.in_ok-two.two c.in_ok-first.first c.in_ok-second.second c.args.row.now
    c.in_ok-one.ensures c.in_ok-first.ensures c.in_ok-two.ensures c.in_ok-second.ensures
