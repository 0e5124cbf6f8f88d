use Rattle.cf_eval.specs.Seen.{plains}
use Rattle.cf_answer.proofs.SumLemmas.{adds_if_ok}
use Rattle.cf_answer.proofs.sum.number_of_text.Goals as goal

pub returns-in-Ok : goal.returns-in-Ok
returns-in-Ok c =
    adds_if_ok c.args.target.now _ c.args.line.now (plains c.in-Ok.values.items) _ c.params.ensures c.requires c.in-Ok.ensures.told.0 c.number_at.ensures
