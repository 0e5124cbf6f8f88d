use Rattle.std.proofs.Common.{◌≡◌, ◌++◌, map, drop}
use Rattle.cf_program.specs.Linear.{all_hold}
use Rattle.cf_help.specs.HeldView.{held_seen, holder_seen}
use Rattle.cf_help.proofs.held.add_all.Given as goal

abbrev pub invariant-loop-param : goal.invariant-loop-param
invariant-loop-param l =
    map holder_seen l.all.items ++ all_hold (held_seen l.held) (drop l.param-index l.params)
    ≡ map holder_seen l.fn.all.items ++ all_hold (held_seen l.held) l.params
