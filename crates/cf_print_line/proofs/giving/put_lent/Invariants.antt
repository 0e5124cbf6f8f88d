use Rattle.std.proofs.Common.{◌≡◌, ◌++◌, drop}
use Rattle.cf_print_line.specs.Layout.{lent_lines}
use Rattle.cf_print_line.proofs.giving.put_lent.Given as goal

abbrev pub invariant-loop-name : goal.invariant-loop-name
invariant-loop-name l =
    l.out.items ++ lent_lines l.depth (drop l.name-index l.names) l.left ≡ l.fn.out.items ++ lent_lines l.depth l.names l.bases
