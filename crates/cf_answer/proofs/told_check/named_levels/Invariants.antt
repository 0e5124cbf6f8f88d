use Rattle.std.proofs.Common.{◌≡◌, ◌-◌, ◌++◌, ◌||◌, filter, map}
use Rattle.std.specs.List.{range_with_len}
use Rattle.cf_form.specs.Branches.{is_among}
use Rattle.cf_form.specs.ToldView.{told_branch, told_choose}
use Rattle.cf_answer.specs.ToldChecks.{named_levels, some_condition_holds}
use Rattle.cf_answer.proofs.told_check.named_levels.Given as goal

abbrev pub invariant-loop-level : goal.invariant-loop-level
invariant-loop-level l =
    l.levels.items ++ filter (λ x. is_among x l.told.parameters.items || some_condition_holds x (map told_branch l.told.branches.items))
    (range_with_len l.level (l.end - l.level)) ≡ named_levels l.scope (told_choose l.told)
