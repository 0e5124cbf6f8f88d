use Rattle.std.proofs.Common.{◌≡◌, ◌-◌, ◌++◌, ◌||◌, filter, map}
use Rattle.std.specs.List.{range_with_len}
use Rattle.cf_form.specs.Branches.{is_among, some_holds}
use Rattle.cf_form.specs.Telling.{parameters_over, told_relations}
use Rattle.cf_form.specs.ToldView.{told_branch}
use Rattle.cf_form.proofs.telling.parameters.Given as goal

abbrev pub invariant-loop-level : goal.invariant-loop-level
invariant-loop-level l =
    l.all.items ++ filter (λ x. is_among x l.levels || some_holds x (told_relations (map told_branch l.branches))) (range_with_len l.level (l.end - l.level)) ≡
    parameters_over l.scope l.levels (told_relations (map told_branch l.branches))
