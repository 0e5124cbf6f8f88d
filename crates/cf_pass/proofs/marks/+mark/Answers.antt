use Rattle.std.proofs.Common.{◌≡◌, [], drop, drop_of_length-le, arith}
use Rattle.cf_pass.proofs.marks.+mark.Goals as goal

pub mark_all-returns : goal.mark_all-returns
mark_all-returns t c =
    let none : drop c.loop-code.code-index c.args.codes.now ≡ [] = drop_of_length-le c.args.codes.now {i = c.loop-code.code-index} (omega arith) in
    rw none at c.loop-code.invariant
