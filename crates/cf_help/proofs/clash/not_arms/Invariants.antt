use Rattle.std.proofs.Common.{◌≡◌, drop}
use Rattle.cf_tree.specs.RawView.{raw_arm_trees}
use Rattle.cf_help.specs.Faults.{not_arms}
use Rattle.cf_help.specs.ScopeView.{around_of, bindings_seen}
use Rattle.cf_help.proofs.clash.not_arms.Given as goal

abbrev pub invariant-loop-arm : goal.invariant-loop-arm
invariant-loop-arm l = not_arms (around_of l.around) (bindings_seen l.variables) l.bases (raw_arm_trees (drop l.arm-index l.arms)) ≡ not_arms
    (around_of l.around) (bindings_seen l.variables) l.bases (raw_arm_trees l.arms)
