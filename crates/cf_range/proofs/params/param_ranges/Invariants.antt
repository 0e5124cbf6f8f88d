use Rattle.std.proofs.Common.{◌≡◌, ◌++◌, length, map}
use Rattle.cf_range.specs.Ranges.{param_range}
use Rattle.cf_range.proofs.params.param_ranges.Given as goal

abbrev pub invariant-bases : goal.invariant-bases
invariant-bases l = l.all.items ++ map param_range l.left ≡ map param_range l.bases

abbrev pub decreases-bases : goal.decreases-bases
decreases-bases l = length l.left
