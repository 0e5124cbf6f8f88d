use Rattle.cf_linear.specs.Steps.{has_unknown}
use Rattle.cf_bounds.proofs.ListLemmas.{to_held, to_bare}
use Rattle.cf_bounds.proofs.cleaning.parted.Goals as goal

pub loop-row-preserved : goal.loop-row-preserved
loop-row-preserved c = record {
  held =
      to_held (has_unknown c.args.unknown.now) c.loop-row.left.items c.pop.new.self.items c.in-Some.row _ c.in-Some.ensures.items (cc)
      c.loop-row.held.items c.add_to_one.new.first.items _ c.in_ok-add_to_one.ensures.first c.loop-row.invariant.held;
  bare =
      to_bare (has_unknown c.args.unknown.now) c.loop-row.left.items c.pop.new.self.items c.in-Some.row _ c.in-Some.ensures.items (cc)
      c.loop-row.bare.items c.add_to_one.new.others.items _ c.in_ok-add_to_one.ensures.others c.loop-row.invariant.bare;
}
