use Rattle.std.proofs.Common.{◌≡◌, ◌++◌, drop, map}
use Rattle.cf_tree.specs.CodeView.{item_trees}
use Rattle.cf_smt.specs.BoundView.{plain_bound}
use Rattle.cf_smt.specs.Lets.{lets_of}
use Rattle.cf_smt.proofs.lets.lets_of.Given as goal

abbrev pub invariant-loop-item : goal.invariant-loop-item
invariant-loop-item l = map plain_bound l.all.items ++ lets_of l.level (item_trees (drop l.item-index l.items)) ≡ lets_of l.first (item_trees l.items)
