use Rattle.std.proofs.Common.{◌≡◌, ◌++◌, map, drop}
use Rattle.cf_program.specs.Linear.{both_hold}
use Rattle.cf_help.specs.HeldView.{held_seen}
use Rattle.cf_help.proofs.held.both_hold.Given as goal

abbrev pub invariant-loop-a : goal.invariant-loop-a
invariant-loop-a l =
    map held_seen l.parts.items ++ both_hold (map held_seen (drop l.a-index l.left)) (map held_seen l.rest)
    ≡ both_hold (map held_seen l.left) (map held_seen l.right)
