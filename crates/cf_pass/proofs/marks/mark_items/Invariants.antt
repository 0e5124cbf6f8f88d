use Rattle.std.proofs.Common.{◌≡◌, ◌≤◌, ◌-◌, drop, length}
use Rattle.cf_tree.specs.CodeView.{item_trees}
use Rattle.cf_pass.specs.Parts.{count_lets}
use Rattle.cf_pass.specs.LetSteps.{items_marked}
use Rattle.cf_pass.proofs.marks.mark_items.Given as goal

abbrev pub invariant-loop-i : goal.invariant-loop-i
invariant-loop-i l = record {
  inside : l.i ≤ length l.items;
  known : l.known ≡ l.count - count_lets (item_trees (drop l.i l.items));
  used : l.used.items ≡ items_marked l.first l.count (item_trees (drop l.i l.items)) l.fn.used.items;
}

abbrev pub decreases-loop-i : goal.decreases-loop-i
decreases-loop-i l = l.i
