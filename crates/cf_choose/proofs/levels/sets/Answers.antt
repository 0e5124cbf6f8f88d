use Rattle.std.proofs.Common.{◌+◌, refl}
use Rattle.cf_linear.specs.Layout.{is_set}
use Rattle.cf_choose.proofs.LevelLemmas.{levels_more}
use Rattle.cf_choose.proofs.levels.sets.Goals as goal

pub loop-i-preserved : goal.loop-i-preserved
loop-i-preserved c =
    levels_more is_set c.args.first c.loop-i.i c.args.bases.now _ c.is_set.result (c.args.first + c.loop-i.i) c.loop-i.levels.items
    c.push_if.new.items.items _ c.loop-i-test.true c.is_set.ensures refl
    c.in_ok-push_if.ensures c.loop-i.invariant
