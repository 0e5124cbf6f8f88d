use Rattle.std.proofs.Common.{◌≡◌}
use Rattle.cf_tree.specs.CodeView.{arm_trees}
use Rattle.cf_tree.specs.RelSize.{capped}
use Rattle.cf_pass.proofs.NeedsArms.{arms_to, needs_to}
use Rattle.cf_pass.proofs.true_needs.drop_in_arms.Given as goal

abbrev pub invariant-loop-arm : goal.invariant-loop-arm
invariant-loop-arm l = record {
  arms : arm_trees l.arm-items ≡ arms_to l.arm-index (arm_trees l.fn.arms.items);
  removed : l.removed ≡ capped (needs_to l.arm-index (arm_trees l.fn.arms.items));
}
