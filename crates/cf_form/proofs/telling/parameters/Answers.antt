use Rattle.std.proofs.Common.{◌||◌, map}
use Rattle.cf_form.specs.Branches.{is_among, some_holds}
use Rattle.cf_form.specs.Telling.{told_relations}
use Rattle.cf_form.specs.ToldView.{told_branch}
use Rattle.cf_form.proofs.TellSteps.{level_more}
use Rattle.cf_form.proofs.telling.parameters.Goals as goal

pub loop-level-preserved : goal.loop-level-preserved
loop-level-preserved c =
    level_more (λ x. is_among x c.args.levels.now || some_holds x (told_relations (map told_branch c.args.branches.now))) c.in_ok-end.end c.loop-level.level
    c.is_parameter-is_parameter.result _ _ _ c.loop-level-test.true c.is_parameter-is_parameter.ensures c.in_ok-push_if.ensures c.loop-level.invariant
