use Rattle.std.proofs.Common.{◌≡◌, map, take}
use Rattle.cf_read.specs.Systems.{conjunction_from}
use Rattle.cf_read.proofs.conjunctions.conjunctions.Given as goal

abbrev pub invariant-loop-system : goal.invariant-loop-system
invariant-loop-system l = l.all.items ≡ map conjunction_from (take l.system-index l.systems)
