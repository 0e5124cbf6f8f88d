use Rattle.std.proofs.Common.{◌≡◌, ◌++◌, drop}
use Rattle.cf_tree.specs.CodeView.{arm_trees}
use Rattle.cf_smt.specs.Goals.{arm_goals}
use Rattle.cf_smt.proofs.goals.put_arm_goals.Given as goal

abbrev pub invariant-loop-k : goal.invariant-loop-k
invariant-loop-k l = l.out.items ++ arm_goals l.setting l.k (arm_trees (drop l.k l.arms)) ≡ l.fn.out.items ++ arm_goals l.setting 0 (arm_trees l.arms)
