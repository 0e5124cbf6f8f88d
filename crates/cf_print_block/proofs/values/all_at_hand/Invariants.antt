use Rattle.std.proofs.Common.{◌≡◌, ◌++◌, drop}
use Rattle.cf_tree.specs.CodeView.{code_trees}
use Rattle.cf_print_block.specs.Places.{all_at_hand}
use Rattle.cf_print_block.proofs.values.all_at_hand.Given as goal

abbrev pub invariant-loop-code : goal.invariant-loop-code
invariant-loop-code l =
    l.all.items ++ all_at_hand l.walk.table.now l.walk.scope.now (code_trees (drop l.code-index l.codes)) ≡
    all_at_hand l.walk.table.now l.walk.scope.now (code_trees l.codes)
