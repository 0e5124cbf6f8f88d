use Rattle.std.proofs.Common.{◌≡◌, drop}
use Rattle.cf_tree.specs.CodeView.{code_trees, arm_trees}
use Rattle.cf_range.specs.Settled.{each_gives_one, arms_give_so_many}
use Rattle.cf_range.proofs.counts.+counts.Given as goal

abbrev pub invariant-each_gives_one-loop-part : goal.invariant-each_gives_one-loop-part
invariant-each_gives_one-loop-part l = each_gives_one (code_trees (drop l.part-index l.parts)) ≡ each_gives_one (code_trees l.parts)

abbrev pub invariant-arms_give_so_many-loop-arm : goal.invariant-arms_give_so_many-loop-arm
invariant-arms_give_so_many-loop-arm l = arms_give_so_many l.n (arm_trees (drop l.arm-index l.arms)) ≡ arms_give_so_many l.n (arm_trees l.arms)
