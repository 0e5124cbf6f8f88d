use Rattle.std.proofs.Common.{◌≡◌, ◌≤◌, map, length, take}
use Rattle.cf_help.specs.LastNamed.{backwards, last_named}
use Rattle.cf_help.proofs.callees.last_named.Given as goal

abbrev pub invariant-loop-count : goal.invariant-loop-count
invariant-loop-count l =
    (l.count ≤ length l.defs)
    × (last_named (backwards (take l.count (map (λ d. d.now) l.defs))) l.name ≡ last_named (backwards (map (λ d. d.now) l.defs)) l.name)

abbrev pub decreases-loop-count : goal.decreases-loop-count
decreases-loop-count l = l.count
