use Rattle.std.proofs.Common.{◌≡◌, ◌++◌, drop}
use Rattle.cf_print_rust.specs.Files.{reader, numbered}
use Rattle.cf_print_rust.proofs.filter.readers.Given as goal

abbrev pub invariant-loop-k : goal.invariant-loop-k
invariant-loop-k l = l.all.items ++ numbered reader l.k (drop l.k l.bases) ≡ numbered reader 0 l.bases
