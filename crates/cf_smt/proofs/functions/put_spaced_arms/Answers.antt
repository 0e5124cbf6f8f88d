use Rattle.cf_smt.specs.Goals.{spaced_arm}
use Rattle.cf_smt.proofs.EachLaws.{next_each}
use Rattle.cf_smt.proofs.functions.put_spaced_arms.Goals as goal

pub loop-k-preserved : goal.loop-k-preserved
loop-k-preserved c =
    next_each (spaced_arm c.args.setting.now) c.args.n c.loop-k.k c.loop-k.out.items _ _ c.loop-k-test.true
    c.in_ok-put_spaced_arm.ensures c.loop-k.invariant
