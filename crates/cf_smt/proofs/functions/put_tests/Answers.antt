use Rattle.cf_smt.specs.Goals.{test_text}
use Rattle.cf_smt.proofs.EachLaws.{next_each}
use Rattle.cf_smt.proofs.functions.put_tests.Goals as goal

pub loop-k-preserved : goal.loop-k-preserved
loop-k-preserved c =
    next_each (test_text c.args.setting.now c.args.output.now) c.args.n c.loop-k.k c.loop-k.out.items _ _ c.loop-k-test.true
    c.in_ok-put_test.ensures c.loop-k.invariant
