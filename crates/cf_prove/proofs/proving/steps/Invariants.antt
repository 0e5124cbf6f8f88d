use Rattle.std.proofs.Common.{map, take}
use Rattle.cf_choose.specs.Eliminations.{first_of}
use Rattle.cf_prove.specs.Acting.{AreTracesOf}
use Rattle.cf_prove.proofs.proving.steps.Given as goal

abbrev pub invariant-loop-case : goal.invariant-loop-case
invariant-loop-case l = AreTracesOf (map first_of (take l.case-index l.cases)) (map (λ v. v.items) l.steps.items)
