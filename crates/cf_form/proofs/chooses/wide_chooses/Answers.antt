use Rattle.std.proofs.Common.{arith}
use Rattle.cf_form.proofs.ChooseWalk.{def_found}
use Rattle.cf_form.proofs.chooses.wide_chooses.Goals as goal

pub loop-index-preserved : goal.loop-index-preserved
loop-index-preserved c =
    def_found c.args.defs.now c.loop-index.index c.index-defs-index.result c.loop-index.all.items c.collect.new.all.items (omega (arith, c.loop-index-test.true))
    c.loop-index.invariant c.in_ok-collect.ensures
