use Rattle.std.proofs.Common.{All, length}
use Rattle.cf_num.specs.Limit.{IsWithin}
use Rattle.cf_match.proofs.arms.are_within.Given as goal

abbrev pub invariant-loop-number : goal.invariant-loop-number
invariant-loop-number l = All IsWithin l.rest → All IsWithin l.numbers

abbrev pub decreases-loop-number : goal.decreases-loop-number
decreases-loop-number l = length l.rest
