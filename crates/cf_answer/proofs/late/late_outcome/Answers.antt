use Rattle.std.proofs.Common.{◌∙◌}
use Rattle.cf_eval.specs.Seen.{plains}
use Rattle.cf_eval.specs.Spelling.{without_return}
use Rattle.cf_program.specs.Typed.{typed_tree}
use Rattle.cf_answer.specs.Owed.{by_late}
use Rattle.cf_answer.proofs.OutcomeLemmas.{spelled_outcome, unspelled_outcome}
use Rattle.cf_answer.proofs.PickedLemmas.{values_fit}
use Rattle.cf_answer.proofs.late.late_outcome.Goals as goal

pub run-requires-clause-fit : goal.run-requires-clause-fit
run-requires-clause-fit c =
    rw c.deref-in-Ok.ensures.value (values_fit c.deref.result.now (without_return c.args.line.now) (plains c.in-Ok.values.items) c.in-Ok.ensures.told.0).1

pub returns-in-Ok-run : goal.returns-in-Ok-run
returns-in-Ok-run c =
    spelled_outcome (by_late (typed_tree c.args.late.now)) _ c.args.line.now (plains c.in-Ok.values.items) c.in-Ok-run.outcome
    (c.deref.ensures.value ∙ c.in_ok-bases.ensures.bases) c.in-Ok.ensures.told.0 (rw c.deref-in-Ok.ensures.value at c.in-Ok-run.ensures)

pub returns : goal.returns
returns c =
    unspelled_outcome (by_late (typed_tree c.args.late.now)) _ c.args.line.now c.in-Err.fault (c.deref.ensures.value ∙ c.in_ok-bases.ensures.bases)
    c.in-Err.ensures.told
