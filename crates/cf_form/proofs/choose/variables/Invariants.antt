use Rattle.std.proofs.Common.{◌≡◌, ◌++◌, map, length}
use Rattle.cf_form.specs.Expansion.{variables_from}
use Rattle.cf_form.specs.WideView.{part}
use Rattle.cf_form.proofs.choose.variables.Given as goal

abbrev pub decreases-loop-base : goal.decreases-loop-base
decreases-loop-base l = length l.rest

abbrev pub invariant-loop-base : goal.invariant-loop-base
invariant-loop-base l = map part l.all.items ++ variables_from l.level l.rest ≡ variables_from 0 l.fn.bases
