use Rattle.std.proofs.Common.{◌≡◌, ◌++◌, length, filter}
use Rattle.std.specs.Prelude.{◌||◌, false}
use Rattle.cf_tree.specs.Params.{bases_of}
use Rattle.cf_form.specs.Branches.{truth_levels}
use Rattle.cf_form.specs.Wide.{has_truth}
use Rattle.cf_form.specs.WideView.{wide_rel}
use Rattle.cf_form.proofs.branch.branched.Given as goal

abbrev pub decreases-loop-param : goal.decreases-loop-param
decreases-loop-param l = length l.rest

abbrev pub invariant-loop-param : goal.invariant-loop-param
invariant-loop-param l =
    l.levels.items ++ filter (λ x. has_truth x (wide_rel l.relation) || false) (truth_levels l.level (bases_of l.rest))
    ≡ filter (λ x. has_truth x (wide_rel l.relation) || false) (truth_levels 0 (bases_of l.scope))
