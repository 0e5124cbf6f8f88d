use Rattle.std.proofs.Common.{◌≡◌}
use Rattle.cf_range.specs.Settled.{with_wholes}
use Rattle.cf_range.proofs.ranges.with_wholes.Given as goal

abbrev pub invariant-loop-left : goal.invariant-loop-left
invariant-loop-left l = with_wholes l.all.items l.left ≡ with_wholes l.ranges l.n

abbrev pub decreases-loop-left : goal.decreases-loop-left
decreases-loop-left l = l.left
