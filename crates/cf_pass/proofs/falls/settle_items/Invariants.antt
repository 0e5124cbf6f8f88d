use Rattle.std.proofs.Common.{◌≡◌, ◌≤◌, ◌-◌, take, drop, length, vec_capacity}
use Rattle.cf_tree.specs.CodeTree.{CodeTrees}
use Rattle.cf_tree.specs.CodeView.{item_trees}
use Rattle.cf_pass.specs.LetSteps.{left}
use Rattle.cf_pass.proofs.LetItems.{join}
use Rattle.cf_pass.proofs.falls.settle_items.Given as goal

abbrev pub invariant-loop-i : goal.invariant-loop-i
invariant-loop-i l = record {
  room : length l.stay ≤ vec_capacity l.fall.gone;
  few : l.fall.dropped ≤ length l.fall.gone.items;
  first : l.fall.first ≡ l.fn.fall.first;
  kept : l.kept ≤ l.i;
  inside : l.i ≤ length l.items.items;
  left : (gs : CodeTrees) →
      join (item_trees (take l.kept l.items.items))
      (left l.fall.first l.fall.gone.items l.fall.dropped (drop (length l.fall.gone.items) l.stay) (item_trees (drop l.i l.items.items)) gs)
      ≡ left l.fn.fall.first l.fn.fall.gone.items l.fn.fall.dropped (drop (length l.fn.fall.gone.items) l.stay) (item_trees l.fn.items.items) gs;
}

abbrev pub decreases-loop-i : goal.decreases-loop-i
decreases-loop-i l = length l.items.items - l.i
