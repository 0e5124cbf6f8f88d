use Rattle.std.proofs.Common.{◌≡◌, ◌++◌, drop}
use Rattle.cf_print_rust.specs.Files.{argument, numbered}
use Rattle.cf_print_rust.proofs.filter.arguments.Given as goal

abbrev pub invariant-loop-k : goal.invariant-loop-k
invariant-loop-k l = l.all.items ++ numbered argument l.k (drop l.k l.bases) ≡ numbered argument 0 l.bases
