use Rattle.cf_tree.specs.Occurs.{rel_holds}
use Rattle.cf_tree.specs.RelView.{rel_tree}
use Rattle.cf_choose.proofs.LevelLemmas.{held_more}
use Rattle.cf_choose.proofs.levels.held.Goals as goal

pub loop-x-preserved : goal.loop-x-preserved
loop-x-preserved c =
    held_more (λ x. rel_holds x (rel_tree c.args.rel.now)) c.loop-x.x-index c.args.levels.now c.rel_holds.result c.loop-x.out.items
    c.push_if.new.items.items _ c.loop-x-test.true c.rel_holds.ensures
    c.in_ok-push_if.ensures c.loop-x.invariant
