use Rattle.std.proofs.Common.{◌≡◌, drop}
use Rattle.cf_stmt.specs.BlockView.{block_tree}
use Rattle.cf_print_block.specs.PrinterView.{setting_in}
use Rattle.cf_print_block.specs.Statements.{as_variables}
use Rattle.cf_print_block.proofs.variables.as_variables.Given as goal

abbrev pub invariant-loop-value : goal.invariant-loop-value
invariant-loop-value l =
    as_variables (setting_in l.printer) l.place (block_tree l.block) l.level (drop l.value-index l.values) l.held ≡
    as_variables (setting_in l.printer) l.place (block_tree l.block) l.first l.values l.fn.start
