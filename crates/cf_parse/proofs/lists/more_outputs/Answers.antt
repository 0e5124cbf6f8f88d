use Rattle.std.proofs.Common.{rules, sym, ◌∙◌, arith}
use Rattle.std.proofs.lemmas.Result.{err_from_is_err_and}
use Rattle.cf_parse.proofs.Steps.{outputs_end, outputs_fail, outputs_next}
use Rattle.cf_parse.proofs.lists.more_outputs.Goals as goal

pub returns : goal.returns
returns c = sym c.loop.invariant ∙ outputs_end c.args.edition _ _ _ (omega arith)

pub returns-in_err-x-in-Some : goal.returns-in_err-x-in-Some
returns-in_err-x-in-Some c =
    let p = err_from_is_err_and c.from_residual.result c.from_residual.ensures.1 in
    rw (p.1, p.2, ← c.loop.invariant) (outputs_fail c.args.edition _ _ _ _ _ _ c.in-Some.ensures c.in_err-x-in-Some.ensures (omega arith))

pub loop-preserved : goal.loop-preserved
loop-preserved c = outputs_next c.args.edition _ _ _ _ _ _ _ _ _ _ c.in-Some.ensures c.in_ok-x-in-Some.ensures (omega arith) (search rules) c.loop.invariant
