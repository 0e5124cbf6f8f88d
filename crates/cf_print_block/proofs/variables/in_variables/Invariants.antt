use Rattle.std.proofs.Common.{◌≡◌, drop}
use Rattle.cf_print_block.specs.PrinterView.{setting_in}
use Rattle.cf_print_block.specs.Statements.{in_variables}
use Rattle.cf_print_block.proofs.variables.in_variables.Given as goal

abbrev pub invariant-loop-value : goal.invariant-loop-value
invariant-loop-value l =
    in_variables (setting_in l.printer) l.depth l.wish (drop l.value-index l.values) l.held ≡
    in_variables (setting_in l.printer) l.depth l.wish l.values l.fn.start
