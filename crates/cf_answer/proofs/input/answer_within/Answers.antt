use Rattle.std.proofs.Common.{◌≤◌, ◌<◌, ◌+◌, arith, rules}
use Rattle.std.proofs.lemmas.Grind.{common_steps}
use Rattle.std.proofs.lemmas.Result.{err_from_is_err_and}
use Rattle.cf_answer.specs.Steps.{replier_of}
use Rattle.cf_answer.proofs.StepLemmas.{runs_long, runs_rest}
use Rattle.cf_answer.proofs.input.answer_within.Goals as goal

pub returns-in_err-count-clause-runs : goal.returns-in_err-count-clause-runs
returns-in_err-count-clause-runs g c =
    let p = err_from_is_err_and c.from_residual.result c.from_residual.ensures.1 in
    rw (p.1, p.2) (c.in_err-count.ensures.fault _ _ _ _ c.pieces.invariant.read (first_of (search rules, grind (arith, common_steps))))

pub returns-then-count-eq0-clause-runs : goal.returns-then-count-eq0-clause-runs
returns-then-count-eq0-clause-runs g c =
    let few : c.pieces.total + c.in_ok-count.count ≤ c.args.limit = omega (arith, c.pieces-test.true, c.if-count-eq0.true) in
    runs_rest (replier_of c.args.replier.now) _ _ _ _ _ _ _ (c.pieces.total + c.in_ok-count.count) _
    (c.in_ok-count.ensures.more _ _ _ _ c.pieces.invariant.read) few
    (c.in_ok-count.ensures.ended c.if-count-eq0.true) c.answer_rest.ensures.all c.answer_rest.ensures.some c.answer_rest.ensures.fault

pub returns-clause-runs : goal.returns-clause-runs
returns-clause-runs g c =
    let many : c.args.limit < c.pieces.total = omega (arith, c.pieces-test.false) in
    runs_long (replier_of c.args.replier.now) _ _ _ _ _ _ c.pieces.total c.pieces.invariant.read many c.pieces.invariant.within
