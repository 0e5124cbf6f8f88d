use Rattle.std.proofs.Common.{◌<◌, length, arith}
use Rattle.cf_tree.specs.ExprView.{expr_tree}
use Rattle.cf_program.specs.NoForm.{HasNoForm}
use Rattle.cf_program.specs.NoMatch.{HasNoMatch}
use Rattle.cf_build.proofs.LoopSteps.{def_found, all_here}
use Rattle.cf_build.proofs.chooses.collect.Goals as goal

pub collect_expr-requires : goal.collect_expr-requires
collect_expr-requires c = record {
  no_match =
      all_here (λ d. HasNoMatch (expr_tree d.body)) c.args.defs.now c.loop-def.def-index c.def-item.result (omega (arith, c.loop-def-test.true)) c.def-item.is
      c.requires.no_match;
  no_form =
      all_here (λ d. HasNoForm (expr_tree d.body)) c.args.defs.now c.loop-def.def-index c.def-item.result (omega (arith, c.loop-def-test.true)) c.def-item.is
      c.requires.no_form;
}

pub loop-def-preserved : goal.loop-def-preserved
loop-def-preserved c =
    let l : c.loop-def.def-index < length c.args.defs.now = omega (arith, c.loop-def-test.true) in
    def_found c.args.defs.now c.loop-def.def-index c.def-item.result _ _ l c.def-item.is c.loop-def.invariant c.in_ok-collect_expr.ensures
