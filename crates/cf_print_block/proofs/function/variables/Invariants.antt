use Rattle.std.proofs.Common.{◌≡◌, ◌++◌, drop}
use Rattle.cf_print_block.specs.PrinterView.{setting_in}
use Rattle.cf_print_block.specs.Statements.{variables}
use Rattle.cf_print_block.proofs.function.variables.Given as goal

abbrev pub invariant-loop-name : goal.invariant-loop-name
invariant-loop-name l =
    l.all.items ++ variables (setting_in l.printer) (drop l.name-index l.names) l.left ≡ variables (setting_in l.printer) l.names l.bases
