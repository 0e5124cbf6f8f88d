use Rattle.std.proofs.Common.{◌≡◌, drop}
use Rattle.cf_tree.specs.CodeView.{arm_trees}
use Rattle.cf_condition.specs.Conditions.{arms_in, all_in}
use Rattle.cf_condition.specs.FormView.{form_tree}
use Rattle.cf_condition.proofs.arms.arms_condition.Given as goal

abbrev pub invariant-loop-arm : goal.invariant-loop-arm
invariant-loop-arm l = arms_in l.scope (form_tree l.all) (arm_trees (drop l.arm-index l.arms)) ≡ all_in l.scope (arm_trees l.arms)
