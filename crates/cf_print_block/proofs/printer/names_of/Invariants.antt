use Rattle.std.proofs.Common.{◌≡◌, drop}
use Rattle.cf_print_block.specs.PrinterView.{outputs_in}
use Rattle.cf_print_block.proofs.printer.names_of.Given as goal

abbrev pub invariant-loop-choose : goal.invariant-loop-choose
invariant-loop-choose l = outputs_in (drop l.choose-index l.outputs) l.number ≡ outputs_in l.outputs l.number
