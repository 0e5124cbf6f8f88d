use Rattle.std.proofs.Common.{◌≡◌, ◌++◌, drop}
use Rattle.cf_print_line.specs.Layout.{addresses}
use Rattle.cf_print_line.proofs.giving.with_addresses.Given as goal

abbrev pub invariant-loop-name : goal.invariant-loop-name
invariant-loop-name l = l.all.items ++ addresses (drop l.name-index l.names) ≡ l.fn.args.items ++ addresses l.names
