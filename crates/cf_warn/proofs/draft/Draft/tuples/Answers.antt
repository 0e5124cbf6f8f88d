use Rattle.std.proofs.Common.{arith}
use Rattle.cf_warn.proofs.DraftLaws.{tuples_more, all_tuples}
use Rattle.cf_warn.proofs.draft.Draft.tuples.Goals as goal

pub loop-number-preserved : goal.loop-number-preserved
loop-number-preserved c =
    tuples_more c.args.self.now c.loop-number.self c.tuple.new.self c.args.bounds.now c.args.steps.now c.loop-number.number c.loop-number.invariant
    c.in_ok-tuple.ensures

pub returns : goal.returns
returns c =
    all_tuples c.args.self.now c.loop-number.self c.args.bounds.now c.args.steps.now c.loop-number.number
    (omega (arith, c.loop-number-test.false, c.loop-number.auto.number-end, c.in_ok-number-end.ensures)) c.loop-number.invariant
