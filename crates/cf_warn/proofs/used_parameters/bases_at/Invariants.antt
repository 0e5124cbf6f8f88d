use Rattle.std.proofs.Common.{◌≡◌, map, take}
use Rattle.cf_warn.specs.Questions.{base_at}
use Rattle.cf_warn.proofs.used_parameters.bases_at.Given as goal

abbrev pub invariant-loop-x : goal.invariant-loop-x
invariant-loop-x l = l.bases.items ≡ map (base_at l.scope) (take l.x-index l.levels)
