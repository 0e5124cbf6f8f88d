use Rattle.std.proofs.Common.{◌≡◌, ◌++◌, drop}
use Rattle.cf_tree.specs.CodeView.{code_trees, item_trees}
use Rattle.cf_smt.specs.Goals.{gives_defined}
use Rattle.cf_smt.proofs.arm.put_gives.Given as goal

abbrev pub invariant-loop-j : goal.invariant-loop-j
invariant-loop-j l = l.out.items ++ gives_defined l.frame (item_trees l.items) l.outputs l.j (code_trees (drop l.j l.gives)) ≡ l.fn.out.items ++ gives_defined
    l.frame (item_trees l.items) l.outputs 0 (code_trees l.gives)
