use Rattle.std.proofs.Common.{◌≡◌, ◌<◌, ◌^◌, ◌++◌}
use Rattle.cf_cases.specs.Picking.{signs_at}
use Rattle.cf_cases.proofs.signs.signs_at.Given as goal

abbrev pub invariant-loop-left : goal.invariant-loop-left
invariant-loop-left l = record { small : l.rest < 2 ^ 64; same : l.signs.items ++ signs_at l.left l.rest ≡ signs_at l.count l.index }

abbrev pub decreases-loop-left : goal.decreases-loop-left
decreases-loop-left l = l.left
