use Rattle.cf_smt.specs.Goals.{denied_at}
use Rattle.cf_smt.proofs.EachLaws.{next_each}
use Rattle.cf_smt.proofs.goals.put_denied_each.Goals as goal

pub loop-i-preserved : goal.loop-i-preserved
loop-i-preserved c =
    next_each (denied_at c.args.setting.now c.args.name.now c.args.bounds.now) c.args.n c.loop-i.i c.loop-i.out.items _ _ c.loop-i-test.true
    c.in_ok-put_denied_at.ensures c.loop-i.invariant
