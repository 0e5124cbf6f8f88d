use Rattle.std.proofs.Common.{◌≡◌, suc, ◌+◌, ◌-◌, ◌≤◌}
use Rattle.cf_tree.specs.ExprView.{expr_tree}
use Rattle.cf_form.specs.Formed.{picked_from}
use Rattle.cf_form.proofs.chains.picked_from.Given as goal

abbrev pub decreases-loop-less : goal.decreases-loop-less
decreases-loop-less l = l.left

abbrev pub invariant-loop-less : goal.invariant-loop-less
invariant-loop-less l =
    (expr_tree l.body.value ≡ picked_from l.order (l.x + l.left) (l.y + l.left) (suc (l.x + l.left)) (l.more - l.left)) × (l.left ≤ l.more)
