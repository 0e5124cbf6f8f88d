use Rattle.std.proofs.Common.{◌≡◌, ◌++◌, map, length}
use Rattle.cf_tree.specs.RelView.{rel_tree}
use Rattle.cf_form.specs.Branches.{truth_bounds}
use Rattle.cf_form.proofs.branch.truth_bounds.Given as goal

abbrev pub decreases-loop-base : goal.decreases-loop-base
decreases-loop-base l = length l.rest

abbrev pub invariant-loop-base : goal.invariant-loop-base
invariant-loop-base l =
    map rel_tree l.bounds.items ++ truth_bounds l.level l.rest ≡ truth_bounds l.fn.first l.fn.outputs
