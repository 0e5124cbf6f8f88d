use Rattle.std.proofs.Common.{◌+◌, ◌≤◌, map, drop, length}
use Rattle.cf_linear.specs.Arm.{search_names}
use Rattle.cf_linear.specs.Views.{bound_of}
use Rattle.cf_choose.specs.ArmBuilders.{SameColumnLevels}
use Rattle.cf_choose.proofs.arms.search_names.Given as goal

abbrev pub invariant-loop-i : goal.invariant-loop-i
invariant-loop-i l = record {
  within : l.i ≤ length l.bounds;
  same : SameColumnLevels l.names (search_names (l.level + l.i) (map bound_of (drop l.i l.bounds)));
}

abbrev pub decreases-loop-i : goal.decreases-loop-i
decreases-loop-i l = l.i
