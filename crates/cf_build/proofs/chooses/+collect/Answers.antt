use Rattle.std.proofs.Common.{◌<◌, length, arith}
use Rattle.cf_build.proofs.LoopSteps.{expr_found, none_behind, formed_behind}
use Rattle.cf_build.proofs.chooses.+collect.Goals as goal

pub collect_all-loop-expr-preserved : goal.collect_all-loop-expr-preserved
collect_all-loop-expr-preserved t c =
    let l : c.loop-expr.expr-index < length c.args.exprs.now = omega (arith, c.loop-expr-test.true) in (
      expr_found c.args.exprs.now c.loop-expr.expr-index c.expr-item.result _ _ _ l c.expr-item.is c.loop-expr.invariant.0 c.in_ok-collect_expr.ensures,
      none_behind c.args.exprs.now c.loop-expr.expr-index c.expr-item.result l c.expr-item.is c.loop-expr.invariant.1,
      formed_behind c.args.exprs.now c.loop-expr.expr-index c.expr-item.result l c.expr-item.is c.loop-expr.invariant.2,
    )
