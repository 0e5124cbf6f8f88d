use Rattle.std.proofs.Common.{◌≡◌, drop}
use Rattle.cf_tree.specs.CodeView.{arm_trees}
use Rattle.cf_smt.specs.Goals.{have_no_search}
use Rattle.cf_smt.proofs.functions.have_no_search.Given as goal

abbrev pub invariant-loop-arm : goal.invariant-loop-arm
invariant-loop-arm l = have_no_search (arm_trees (drop l.arm-index l.arms)) ≡ have_no_search (arm_trees l.arms)
