use Rattle.std.proofs.Common.{◌≡◌, map, drop}
use Rattle.cf_program.specs.Linear.{held_from, held_of}
use Rattle.cf_help.specs.HeldView.{held_seen, holder_seen}
use Rattle.cf_help.proofs.held.held_by_name.Given as goal

abbrev pub invariant-loop-holder : goal.invariant-loop-holder
invariant-loop-holder l =
    held_from (held_seen l.held) (map holder_seen (drop l.holder-index l.holders)) l.name ≡ held_of (map holder_seen l.holders) l.name
