use Rattle.std.proofs.Common.{◌≡◌, ◌++◌, map, drop}
use Rattle.cf_program.specs.Linear.{holders}
use Rattle.cf_help.specs.HeldView.{held_seen, holder_seen}
use Rattle.cf_help.proofs.held.with_names.Given as goal

abbrev pub invariant-loop-name : goal.invariant-loop-name
invariant-loop-name l =
    map holder_seen l.all.items ++ holders (drop l.name-index l.names) (map held_seen l.rest)
    ≡ map holder_seen l.holders ++ holders l.names (map held_seen l.parts)
