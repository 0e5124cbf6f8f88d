use Rattle.std.proofs.Common.{◌++◌, ◌≤◌, map, drop, length}
use Rattle.cf_linear.specs.Arm.{search_names}
use Rattle.cf_linear.specs.Layout.{number_column}
use Rattle.cf_linear.specs.Views.{plain_layout, bound_of}
use Rattle.cf_choose.specs.ArmBuilders.{SameColumnLevels}
use Rattle.cf_choose.proofs.arms.first_names.Given as goal

abbrev pub invariant-loop-i : goal.invariant-loop-i
invariant-loop-i l = record {
  within : l.i ≤ length l.layout.numbers.items;
  same : SameColumnLevels l.names (map (λ x. (number_column (plain_layout l.layout) x, x)) (drop l.i l.layout.numbers.items) ++
      search_names l.layout.scope (map bound_of l.bounds));
}

abbrev pub decreases-loop-i : goal.decreases-loop-i
decreases-loop-i l = l.i
