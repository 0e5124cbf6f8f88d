use Rattle.cf_eval.specs.Seen.{plains}
use Rattle.cf_answer.specs.Owed.{by_target}
use Rattle.cf_answer.proofs.OutcomeLemmas.{spelled_outcome, unspelled_outcome}
use Rattle.cf_answer.proofs.outcome.target_outcome.Goals as goal

pub returns-in-Ok-run : goal.returns-in-Ok-run
returns-in-Ok-run c =
    spelled_outcome (by_target c.args.target.now) _ c.args.line.now (plains c.in-Ok.values.items) c.in-Ok-run.outcome c.params.ensures c.in-Ok.ensures.told.0
    c.in-Ok-run.ensures

pub returns-in-Err : goal.returns-in-Err
returns-in-Err c = unspelled_outcome (by_target c.args.target.now) _ c.args.line.now c.in-Err.fault c.params.ensures c.in-Err.ensures.told
