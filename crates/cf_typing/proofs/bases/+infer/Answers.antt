use Rattle.std.proofs.Common.{◌<◌, length, Some, arith}
use Rattle.std.proofs.lemmas.Bool.Decides.{nat_tests}
use Rattle.std.proofs.lemmas.Result.{err_from_is_err_and}
use Rattle.cf_typing.proofs.Failures.{solved_fails, not_zero}
use Rattle.cf_typing.proofs.bases.+infer.Goals as goal

pub check_solve-returns-in_err-bases : goal.check_solve-returns-in_err-bases
check_solve-returns-in_err-bases t c =
    let p = err_from_is_err_and c.from_residual.result c.from_residual.ensures.1 in
    let some : 0 < length c.args.arms.now.items = first_of (omega (arith, not_zero _ c.if-is_empty.ensures), grind (arith, nat_tests, c.if-is_empty.ensures)) in
    rw (p.1, p.2) (
      solved_fails c.args.arms.now.items c.deref.result.now c.args.scope.now.items _ (Some c.args.asked.now) c.deref.ensures.value some
          c.in_err-bases.ensures.0,
      tt,
    )
