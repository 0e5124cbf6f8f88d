use Rattle.std.proofs.Common.{◌≡◌, ◌∷◌, drop}
use Rattle.cf_help.specs.Valued.{extreme}
use Rattle.cf_help.proofs.value.extreme.Given as goal

abbrev pub invariant-loop-value : goal.invariant-loop-value
invariant-loop-value l = extreme l.sense (l.found ∷ drop l.value-index l.more) ≡ extreme l.sense l.values
