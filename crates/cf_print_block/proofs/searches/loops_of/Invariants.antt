use Rattle.std.proofs.Common.{◌≡◌, drop}
use Rattle.cf_print_block.specs.PrinterView.{setting_in}
use Rattle.cf_print_block.specs.Statements.{loops_of}
use Rattle.cf_print_block.proofs.searches.loops_of.Given as goal

abbrev pub invariant-loop-bound : goal.invariant-loop-bound
invariant-loop-bound l =
    loops_of (setting_in l.printer) l.j (drop l.bound-index l.bounds) l.loops ≡ loops_of (setting_in l.printer) 0 l.bounds l.fn.outside
