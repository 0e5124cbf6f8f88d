use Rattle.std.proofs.Common.{◌≡◌, ◌++◌, drop}
use Rattle.cf_print_line.specs.Layout.{through}
use Rattle.cf_print_line.proofs.giving.put_through.Given as goal

abbrev pub invariant-loop-pointer : goal.invariant-loop-pointer
invariant-loop-pointer l = l.out.items ++ through l.depth (drop l.pointer-index l.pointers) l.left ≡ l.fn.out.items ++ through l.depth l.pointers l.values
