use Rattle.std.proofs.Common.{arith}
use Rattle.std.proofs.lemmas.Result.{err_from_is_err_and}
use Rattle.cf_target.specs.Reading.{all_variables}
use Rattle.cf_target.proofs.VariableSteps.{variables_fail}
use Rattle.cf_target.proofs.number.more_variables.Goals as goal

pub returns-in_err-x-in-Some : goal.returns-in_err-x-in-Some
unfolding all_variables
returns-in_err-x-in-Some c =
    let p = err_from_is_err_and c.from_residual.result c.from_residual.ensures.1 in
    rw (p.1, p.2, ← c.loop.invariant) (variables_fail _ _ _ _ _ _ c.in-Some.ensures.value c.in_err-x-in-Some.ensures (omega arith))
