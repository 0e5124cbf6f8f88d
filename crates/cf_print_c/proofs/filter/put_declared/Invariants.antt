use Rattle.std.proofs.Common.{◌≡◌, ◌++◌, drop}
use Rattle.cf_print_c.specs.Files.{declared_lines}
use Rattle.cf_print_c.proofs.filter.put_declared.Given as goal

abbrev pub invariant-loop-name : goal.invariant-loop-name
invariant-loop-name l = l.out.items ++ declared_lines (drop l.name-index l.names) l.left ≡ l.fn.out.items ++ declared_lines l.names l.bases
