use Rattle.std.proofs.Common.{◌≡◌, map, drop}
use Rattle.cf_program.specs.Linear.{most, most_of}
use Rattle.cf_help.specs.HeldView.{held_seen}
use Rattle.cf_help.proofs.held.most_of.Given as goal

abbrev pub invariant-loop-part : goal.invariant-loop-part
invariant-loop-part l = most (held_seen l.all) (most_of (map held_seen (drop l.part-index l.held))) ≡ most_of (map held_seen l.held)
