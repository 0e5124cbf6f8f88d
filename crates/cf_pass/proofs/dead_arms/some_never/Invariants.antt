use Rattle.std.proofs.Common.{◌≡◌, length}
use Rattle.cf_tree.specs.CodeView.{item_trees}
use Rattle.cf_pass.specs.DropArms.{some_never}
use Rattle.cf_pass.proofs.dead_arms.some_never.Given as goal

abbrev pub invariant-loop-item : goal.invariant-loop-item
invariant-loop-item l = some_never (item_trees l.rest) ≡ some_never (item_trees l.items)

abbrev pub decreases-loop-item : goal.decreases-loop-item
decreases-loop-item l = length l.rest
