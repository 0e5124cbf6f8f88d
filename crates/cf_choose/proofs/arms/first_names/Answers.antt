use Rattle.std.proofs.Common.{arith}
use Rattle.cf_linear.specs.Views.{plain_layout}
use Rattle.cf_choose.proofs.LevelLemmas.{named_before}
use Rattle.cf_choose.proofs.arms.first_names.Goals as goal

pub loop-i-preserved : goal.loop-i-preserved
loop-i-preserved c = record {
  within = omega (arith, c.loop-i.invariant.within);
  same = named_before (plain_layout c.args.layout.now) c.args.layout.now.numbers.items _ c.loop-i.names c.name.new.self c.loop-i.i c.index-level.result.now
      c.number_column.result _ c.loop-i-test.true c.loop-i.invariant.within
      c.index-level.ensures c.number_column.ensures c.in_ok-name.ensures.named c.loop-i.invariant.same;
}
