use Rattle.std.proofs.Common.{◌≡◌, ◌++◌, drop, map}
use Rattle.cf_tree.specs.CodeView.{code_tree, item_trees}
use Rattle.cf_smt.specs.Lets.{needs_of}
use Rattle.cf_smt.proofs.lets.needs_of.Given as goal

abbrev pub invariant-loop-item : goal.invariant-loop-item
invariant-loop-item l = map (λ c. code_tree c.now) l.all.items ++ needs_of (item_trees (drop l.item-index l.items)) ≡ needs_of (item_trees l.items)
