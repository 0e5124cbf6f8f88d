use Rattle.std.proofs.Common.{◌+◌, ◌-◌, ◌∙◌, length, sym, ap, arith}
use Rattle.cf_tree.specs.CodeTree.{no_codes}
use Rattle.cf_tree.specs.CodeView.{code_trees}
use Rattle.cf_stmt.specs.Made.{vars_then}
use Rattle.cf_stmt.proofs.SumSteps.{count_trees, var_turn, var_end}
use Rattle.cf_stmt.proofs.boxed.variables.Goals as goal

pub loop-back-preserved : goal.loop-back-preserved
loop-back-preserved c = var_turn (code_trees c.loop-back.all.items) _ (length c.args.parts.now - 1 - c.loop-back.back)
    (length c.args.parts.now - c.loop-back.back) (length c.args.parts.now - (c.loop-back.back + 1)) (vars_then 0 (length c.args.parts.now) no_codes)
    c.in_ok-push_variable.ensures (omega (arith, c.loop-back-test.true)) (omega arith) c.loop-back.invariant

pub returns : goal.returns
returns c =
    var_end (code_trees c.loop-back.all.items) (length c.args.parts.now - c.loop-back.back) (vars_then 0 (length c.args.parts.now) no_codes)
    (omega (arith, c.loop-back-test.false)) c.loop-back.invariant
    ∙ ap (λ n. vars_then 0 n no_codes) (sym (count_trees c.args.parts.now))
