use Rattle.std.proofs.Common.{◌≡◌, ◌++◌, drop}
use Rattle.cf_print_block.specs.PrinterView.{setting_in}
use Rattle.cf_print_block.specs.Statements.{names_for}
use Rattle.cf_print_block.proofs.naming.names_for.Given as goal

abbrev pub invariant-loop-base : goal.invariant-loop-base
invariant-loop-base l =
    l.names.items ++ names_for (setting_in l.printer) l.role l.asked l.k (drop l.base-index l.bases) l.all.items ≡
    names_for (setting_in l.printer) l.role l.asked 0 l.bases l.taken
