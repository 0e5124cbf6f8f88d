use Rattle.std.proofs.Common.{◌≡◌, map, take}
use Rattle.cf_form.specs.Floor.{base_floor}
use Rattle.cf_form.proofs.floor.base_floors.Given as goal

abbrev pub invariant-loop-base : goal.invariant-loop-base
invariant-loop-base l = l.all.items ≡ map base_floor (take l.base-index l.bases)
