use Rattle.std.proofs.Common.{◌≡◌, ◌++◌, drop}
use Rattle.cf_stmt.specs.BlockView.{block_tree}
use Rattle.cf_print_program.specs.Printed.{unread_truths}
use Rattle.cf_print_program.proofs.printing.unread_truths.Given as goal

abbrev pub invariant-loop-name : goal.invariant-loop-name
invariant-loop-name l =
    l.all.items ++ unread_truths l.level (block_tree l.block) (drop l.name-index l.names) l.left ≡ unread_truths 0 (block_tree l.block) l.names l.bases
