use Rattle.std.proofs.Common.{rules, map}
use Rattle.cf_form.specs.ToldView.{choose_view, told_branch}
use Rattle.cf_form.proofs.TellSteps.{told_is}
use Rattle.cf_form.proofs.telling.tell.Goals as goal

pub returns-in-Ok : goal.returns-in-Ok
returns-in-Ok c =
    told_is (choose_view c.args.choose.now) c.in_ok-outputs.outputs.items c.in_ok-hidden.hidden c.in_ok-levels.levels.items c.in-Ok.parameters.items
    (map told_branch c.in_ok-branches.branches.items) (search rules) (search rules) (search rules) (search rules) (search rules)
