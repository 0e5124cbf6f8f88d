use Rattle.std.proofs.Common.{pos, negsuc}
use Rattle.cf_linear.proofs.PassingLemmas.{gives_row, only_units, one, minus_one}
use Rattle.cf_linear.proofs.written.subtracted.Goals as goal

pub returns-clause-gives : goal.returns-clause-gives
returns-clause-gives c =
    let p = c.combine.ensures.rows in
    gives_row (pos 1) c.args.left.now (negsuc 0) c.args.right.now c.combine.result p.0 p.1
    (only_units (pos 1) c.args.left.now (negsuc 0) c.args.right.now one minus_one p.0 p.1)
    c.combine.ensures.value c.combine.ensures.fits c.combine.ensures.past
