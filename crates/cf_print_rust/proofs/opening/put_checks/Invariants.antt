use Rattle.std.proofs.Common.{◌≡◌, ◌++◌, drop}
use Rattle.cf_print_rust.specs.Files.{checks}
use Rattle.cf_print_rust.proofs.opening.put_checks.Given as goal

abbrev pub invariant-loop-name : goal.invariant-loop-name
invariant-loop-name l = l.out.items ++ checks (drop l.name-index l.names) l.left ≡ l.fn.out.items ++ checks l.names l.bases
