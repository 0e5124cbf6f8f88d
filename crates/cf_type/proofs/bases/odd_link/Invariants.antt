use Rattle.std.proofs.Common.{◌≡◌, map, length}
use Rattle.cf_program.specs.Walk.{odd_link}
use Rattle.cf_type.proofs.bases.odd_link.Given as goal

abbrev pub invariant-loop-left : goal.invariant-loop-left
invariant-loop-left l = odd_link (map (λ bs. bs.items) l.rest) l.later ≡ odd_link (map (λ bs. bs.items) l.fn.lists) l.fn.places

abbrev pub decreases-loop-left : goal.decreases-loop-left
decreases-loop-left l = length l.rest
