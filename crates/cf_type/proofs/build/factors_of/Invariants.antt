use Rattle.std.proofs.Common.{◌≡◌, map, take}
use Rattle.cf_type.proofs.build.factors_of.Given as goal

abbrev pub invariant-loop-summand : goal.invariant-loop-summand
invariant-loop-summand l = l.all.items ≡ map (λ x. x.factor) (take l.summand-index l.summands)
