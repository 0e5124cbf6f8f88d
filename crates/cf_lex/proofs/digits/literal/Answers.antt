use Rattle.std.proofs.Common.{◌+◌, ◌*◌, ◌-◌, ◌<◌, get_or, arith, sym}
use Rattle.cf_lex.proofs.DigitLemmas.{at_most-digit}
use Rattle.cf_lex.proofs.digits.literal.Goals as goal
use Rattle.cf_lex.proofs.digits.literal.Goals.{then-limit-d-via-then-limit-d, then-limit-d-via-else-limit-d+then-limit-d-2}

pub returns-then-limit-d : goal.returns-then-limit-d
returns-then-limit-d c =
    let s = c.saturating_sub.ensures in
    let past : c.args.limit < c.loop-b.n * 10 + (get_or c.args.digits.now c.loop-b.b-index 0 - 48) =
    elim c.then-limit-d.branch [ then-limit-d-via-then-limit-d w ↦ omega arith | then-limit-d-via-else-limit-d+then-limit-d-2 w ↦ omega arith ] in
    rw (← c.loop-b.invariant.1) (sym (at_most-digit c.args.limit c.loop-b.n c.args.digits.now c.loop-b.b-index (omega arith) past))
