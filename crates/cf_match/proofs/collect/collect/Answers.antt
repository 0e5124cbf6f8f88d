use Rattle.std.proofs.Common.{◌<◌, length, arith}
use Rattle.cf_match.proofs.LoopSteps.{def_found}
use Rattle.cf_match.proofs.collect.collect.Goals as goal

pub loop-def-preserved : goal.loop-def-preserved
loop-def-preserved c =
    let l : c.loop-def.def-index < length c.args.defs.now = omega (arith, c.loop-def-test.true) in
    def_found c.args.defs.now c.loop-def.def-index c.def-item.result _ _ l c.def-item.is c.loop-def.invariant c.in_ok-collect_expr.ensures
