use Rattle.std.proofs.Common.{◌≡◌, ◌++◌, drop, map}
use Rattle.cf_print_line.specs.Patterns.{line_pattern}
use Rattle.cf_print_line.proofs.pattern.patterns.Given as goal

abbrev pub invariant-loop-base : goal.invariant-loop-base
invariant-loop-base l = l.all.items ++ map line_pattern (drop l.base-index l.bases) ≡ map line_pattern l.bases
