use Rattle.std.proofs.Common.{◌≡◌, ◌+◌, ◌≤◌, drop}
use Rattle.cf_tree.specs.CodeView.{item_trees}
use Rattle.cf_pass.specs.Parts.{count_lets}
use Rattle.cf_pass.proofs.marks.count_lets.Given as goal

abbrev pub invariant-loop-item : goal.invariant-loop-item
invariant-loop-item l = record {
  few : l.count ≤ l.item-index;
  total : l.count + count_lets (item_trees (drop l.item-index l.items)) ≡ count_lets (item_trees l.items);
}
