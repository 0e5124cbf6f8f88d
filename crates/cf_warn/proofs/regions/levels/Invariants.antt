use Rattle.std.proofs.Common.{◌≡◌, filter, map, take}
use Rattle.cf_linear.specs.Layout.{place}
use Rattle.cf_warn.specs.Writing.{is_beside}
use Rattle.cf_warn.proofs.regions.levels.Given as goal

abbrev pub invariant-loop-x : goal.invariant-loop-x
invariant-loop-x l = l.levels.items ≡ map (λ x. place x l.params) (filter (is_beside l.side l.inputs l.mask) (take l.x-index l.inputs))
