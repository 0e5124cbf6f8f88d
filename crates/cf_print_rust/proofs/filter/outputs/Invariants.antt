use Rattle.std.proofs.Common.{◌≡◌, ◌++◌, drop}
use Rattle.cf_print_rust.specs.Files.{output, numbered}
use Rattle.cf_print_rust.proofs.filter.outputs.Given as goal

abbrev pub invariant-loop-k : goal.invariant-loop-k
invariant-loop-k l = l.all.items ++ numbered output l.k (drop l.k l.bases) ≡ numbered output 0 l.bases
