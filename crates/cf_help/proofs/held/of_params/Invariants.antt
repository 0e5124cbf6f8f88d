use Rattle.std.proofs.Common.{◌≡◌, ◌++◌, map, drop}
use Rattle.cf_tree.specs.Params.{names_of}
use Rattle.cf_program.specs.Linear.{holders}
use Rattle.cf_help.specs.HeldView.{held_seen, holder_seen}
use Rattle.cf_help.proofs.held.of_params.Given as goal

abbrev pub invariant-loop-param : goal.invariant-loop-param
invariant-loop-param l =
    map holder_seen l.all.items ++ holders (names_of (drop l.param-index l.params)) (map held_seen l.rest)
    ≡ holders (names_of l.params) (map held_seen l.parts)
