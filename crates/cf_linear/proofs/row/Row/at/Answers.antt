use Rattle.std.proofs.Common.{length, ◌<◌}
use Rattle.cf_linear.proofs.MapLemmas.{back, within_from_get}
use Rattle.cf_linear.proofs.row.Row.at.Goals as goal

pub returns-clause-fits : goal.returns-clause-fits
returns-clause-fits c =
    let h : c.args.i < length c.self.inside.entries.entries = rw c.self.view_is c.requires in
    let w = within_from_get c.self.inside.entries.entries c.args.i c.in-Some.column.now c.in-Some.k.now h c.in-Some.ensures.entry c.self.invariant.1 in
    rw (back c.in-Some.k.now w) w
