use Rattle.std.proofs.Common.{◌≡◌, ◌++◌, map, drop}
use Rattle.cf_type.specs.Walked.{functions_in}
use Rattle.cf_type.proofs.checking.functions.Given as goal

abbrev pub invariant-loop-item : goal.invariant-loop-item
invariant-loop-item l = map (λ d. d.now) l.all.items ++ functions_in (drop l.item-index l.items) ≡ functions_in l.items
