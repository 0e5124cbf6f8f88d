use Rattle.std.proofs.Common.{[], rules}
use Rattle.cf_linear.specs.Steps.{distinct_after}
use Rattle.cf_bounds.proofs.ListLemmas.{distinct_start, distinct_step, distinct_done}
use Rattle.cf_bounds.proofs.cleaning.distinct.Goals as goal

pub loop-row-init : goal.loop-row-init
loop-row-init c = distinct_start c.args.rows.items c.reverse.new.self.items c.new-out.result.items c.reverse.ensures.items c.new-out.ensures.items

pub loop-row-preserved : goal.loop-row-preserved
loop-row-preserved c =
    distinct_step c.loop-row.left.items c.pop.new.self.items c.loop-row.out.items c.add_row.new.out.items (distinct_after [] c.args.rows.items) c.in-Some.row _
    c.in-Some.ensures.items c.in_ok-add_row.ensures (cc) c.loop-row.invariant

pub returns : goal.returns
returns c = distinct_done c.loop-row.left.items c.loop-row.out.items (distinct_after [] c.args.rows.items) (search rules) c.loop-row.invariant
