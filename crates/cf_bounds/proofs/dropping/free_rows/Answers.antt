use Rattle.std.proofs.Common.{rules}
use Rattle.cf_linear.specs.Rows.{entry, is_zero}
use Rattle.cf_bounds.proofs.ListLemmas.{to_held}
use Rattle.cf_bounds.proofs.dropping.free_rows.Goals as goal

pub loop-row-preserved : goal.loop-row-preserved
loop-row-preserved c =
    to_held (λ r. is_zero (entry r c.args.unknown)) c.loop-row.left.items c.pop.new.self.items c.in-Some.row _ c.in-Some.ensures.items (search rules)
    c.loop-row.out.items c.add_row.new.out.items _ c.in_ok-add_row.ensures c.loop-row.invariant
