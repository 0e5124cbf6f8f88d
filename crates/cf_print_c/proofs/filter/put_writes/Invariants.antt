use Rattle.std.proofs.Common.{◌≡◌, ◌++◌, drop, true}
use Rattle.cf_print_c.specs.Files.{writes}
use Rattle.cf_print_c.proofs.filter.put_writes.Given as goal

abbrev pub invariant-loop-name : goal.invariant-loop-name
invariant-loop-name l = l.out.items ++ writes l.is_first (drop l.name-index l.names) l.left ≡ l.fn.out.items ++ writes true l.names l.bases
