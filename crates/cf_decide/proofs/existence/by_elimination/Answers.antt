use Rattle.std.proofs.lemmas.Result.{IfOk-weaker}
use Rattle.cf_tree.specs.RelView.{rel_tree}
use Rattle.cf_warn.specs.Verdicts.{IsExistence}
use Rattle.cf_decide.specs.Answers.{SaysExistence}
use Rattle.cf_decide.proofs.AnswerLaws.{existence_says}
use Rattle.cf_decide.proofs.existence.by_elimination.Goals as goal

pub returns : goal.returns
returns c =
    let p = c.args.solved.now in
    IfOk-weaker c.existence.result (IsExistence p.scope.items p.outputs.items (rel_tree p.rel)) (SaysExistence p.scope.items p.outputs.items (rel_tree p.rel))
    (existence_says p.scope.items p.outputs.items (rel_tree p.rel)) c.existence.ensures
