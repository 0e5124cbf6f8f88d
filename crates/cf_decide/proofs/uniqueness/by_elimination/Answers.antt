use Rattle.std.proofs.lemmas.Result.{IfOk-weaker}
use Rattle.cf_tree.specs.RelView.{rel_tree}
use Rattle.cf_warn.specs.Verdicts.{IsUniqueness}
use Rattle.cf_decide.specs.Answers.{SaysUniqueness}
use Rattle.cf_decide.proofs.AnswerLaws.{uniqueness_says}
use Rattle.cf_decide.proofs.uniqueness.by_elimination.Goals as goal

pub returns : goal.returns
returns c =
    let p = c.args.solved.now in
    IfOk-weaker c.uniqueness.result (IsUniqueness p.scope.items p.outputs.items c.args.shown (rel_tree p.rel))
    (SaysUniqueness p.scope.items p.outputs.items c.args.shown (rel_tree p.rel))
    (uniqueness_says p.scope.items p.outputs.items c.args.shown (rel_tree p.rel)) c.uniqueness.ensures
