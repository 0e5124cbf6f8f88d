use Rattle.std.proofs.Common.{◌≡◌, drop}
use Rattle.cf_advice.specs.Ors.{some_truth}
use Rattle.cf_advice.proofs.ors.some_truth.Given as goal

abbrev pub invariant-loop-param : goal.invariant-loop-param
invariant-loop-param l = some_truth (drop l.param-index l.params) ≡ some_truth l.params
