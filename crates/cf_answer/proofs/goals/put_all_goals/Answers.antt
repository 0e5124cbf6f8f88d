use Rattle.std.proofs.Common.{arith}
use Rattle.std.proofs.lemmas.Result.{err_from_is_err_and}
use Rattle.cf_answer.proofs.ClaimedLemmas.{claimed_fault, claimed_last, claimed_next}
use Rattle.cf_answer.proofs.goals.put_all_goals.Goals as goal

pub loop-choose-preserved : goal.loop-choose-preserved
loop-choose-preserved c = λ qs s.
    claimed_next qs c.args.chooses.now s c.loop-choose.choose-index c.choose-item.result c.loop-choose.last c.loop-choose.next _ _ c.loop-choose-test.true
    c.choose-item.is (c.loop-choose.invariant qs s) c.branch_behind-branch.result _ _ c.branch_behind-branch.ensures c.in-Ok.ensures c.in_ok-put_goals.ensures

pub returns-in_err-put_goals : goal.returns-in_err-put_goals
returns-in_err-put_goals c = λ qs s.
    let p = err_from_is_err_and c.from_residual.result c.from_residual.ensures.1 in
    rw (p.1, p.2) (claimed_fault qs c.args.chooses.now s c.loop-choose.choose-index c.choose-item.result c.loop-choose.last c.loop-choose.next _ _
    c.loop-choose-test.true c.choose-item.is (c.loop-choose.invariant qs s) _ c.in_err-put_goals.ensures)

pub returns : goal.returns
returns c = λ qs s.
    claimed_last qs c.args.chooses.now s c.loop-choose.choose-index c.loop-choose.last c.loop-choose.next _ _ (omega (arith, c.loop-choose-test.false))
    (c.loop-choose.invariant qs s)
