use Rattle.std.proofs.Common.{◌+◌, rules}
use Rattle.std.proofs.lemmas.Result.{err_from_is_err_and}
use Rattle.cf_answer.specs.Steps.{replier_of}
use Rattle.cf_answer.proofs.StepLemmas.{runs_endless, runs_rest}
use Rattle.cf_answer.proofs.input.answer_all.Goals as goal

pub returns-in_err-count-clause-runs : goal.returns-in_err-count-clause-runs
returns-in_err-count-clause-runs g c =
    let p = err_from_is_err_and c.from_residual.result c.from_residual.ensures.1 in
    rw (p.1, p.2) (c.in_err-count.ensures.fault _ _ _ _ c.pieces.invariant.read.1 tt)

pub returns-then-count-eq0-clause-runs : goal.returns-then-count-eq0-clause-runs
returns-then-count-eq0-clause-runs g c =
    runs_rest (replier_of c.args.replier.now) _ _ _ _ _ _ _ _ _ (c.in_ok-count.ensures.more _ _ _ _ c.pieces.invariant.read.1) tt
    (c.in_ok-count.ensures.ended c.if-count-eq0.true) c.answer_rest.ensures.all c.answer_rest.ensures.some c.answer_rest.ensures.fault

pub returns-clause-runs : goal.returns-clause-runs
returns-clause-runs g c = runs_endless (replier_of c.args.replier.now) _ _ _ _ _ _ c.pieces.invariant.read.1

pub pieces-preserved : goal.pieces-preserved
pieces-preserved g c = record {
  read = (c.pieces.invariant.read.0 + c.in_ok-count.count, c.in_ok-count.ensures.more _ _ _ _ c.pieces.invariant.read.1);
  inputs = search rules;
  outs = search rules;
  ends = search rules;
}
