use Rattle.std.proofs.Common.{◌||◌, map}
use Rattle.cf_form.specs.Branches.{is_among}
use Rattle.cf_form.specs.ToldView.{told_branch}
use Rattle.cf_warn.proofs.ParameterLaws.{levels_more}
use Rattle.cf_answer.specs.ToldChecks.{some_condition_holds}
use Rattle.cf_answer.proofs.told_check.named_levels.Goals as goal

pub loop-level-preserved : goal.loop-level-preserved
loop-level-preserved c =
    let told = c.args.told.now in
    levels_more (λ x. is_among x told.parameters.items || some_condition_holds x (map told_branch told.branches.items)) c.in_ok-end.end c.loop-level.level
    c.is_named.result _ _ _ c.loop-level-test.true c.is_named.ensures c.in_ok-push_if.ensures c.loop-level.invariant
