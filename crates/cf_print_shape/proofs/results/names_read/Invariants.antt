use Rattle.std.proofs.Common.{◌≡◌, ◌++◌, drop}
use Rattle.cf_stmt.specs.BlockView.{block_tree}
use Rattle.cf_print_shape.specs.Shapes.{those_read}
use Rattle.cf_print_shape.proofs.results.names_read.Given as goal

abbrev pub invariant-loop-name : goal.invariant-loop-name
invariant-loop-name l =
    l.all.items ++ those_read l.level (block_tree l.block) (drop l.name-index l.names) ≡ those_read 0 (block_tree l.block) l.names
