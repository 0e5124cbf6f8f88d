use Rattle.std.proofs.Common.{◌≡◌, ◌++◌, drop}
use Rattle.cf_tree.specs.CodeView.{arm_trees}
use Rattle.cf_smt.specs.Goals.{arms_defined}
use Rattle.cf_smt.proofs.arm.put_arms.Given as goal

abbrev pub invariant-loop-k : goal.invariant-loop-k
invariant-loop-k l = l.out.items ++ arms_defined l.setting l.k (arm_trees (drop l.k l.arms)) ≡ l.fn.out.items ++ arms_defined l.setting 0 (arm_trees l.arms)
