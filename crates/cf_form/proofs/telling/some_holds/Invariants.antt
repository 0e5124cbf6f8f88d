use Rattle.std.proofs.Common.{◌≡◌, length, map}
use Rattle.cf_form.specs.Branches.{some_holds}
use Rattle.cf_form.specs.Telling.{told_relations}
use Rattle.cf_form.specs.ToldView.{told_branch}
use Rattle.cf_form.proofs.telling.some_holds.Given as goal

abbrev pub decreases-loop-first : goal.decreases-loop-first
decreases-loop-first l = length l.rest

abbrev pub invariant-loop-first : goal.invariant-loop-first
invariant-loop-first l = some_holds l.level (told_relations (map told_branch l.rest)) ≡ some_holds l.level (told_relations (map told_branch l.branches))
