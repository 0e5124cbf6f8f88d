use Rattle.std.proofs.Common.{◌≡◌, ◌++◌, drop}
use Rattle.cf_tree.specs.CodeView.{arm_trees}
use Rattle.cf_smt.specs.Goals.{arms_denied}
use Rattle.cf_smt.proofs.goals.put_arms_denied.Given as goal

abbrev pub invariant-loop-k : goal.invariant-loop-k
invariant-loop-k l = l.out.items ++ arms_denied l.setting l.k (arm_trees (drop l.k l.arms)) ≡ l.fn.out.items ++ arms_denied l.setting 0 (arm_trees l.arms)
