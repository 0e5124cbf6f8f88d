use Rattle.std.proofs.Common.{◌≡◌, drop}
use Rattle.cf_smt.specs.Commands.{few_below}
use Rattle.cf_smt.proofs.tuple.few_below.Given as goal

abbrev pub invariant-loop-bound : goal.invariant-loop-bound
invariant-loop-bound l = few_below l.n (drop l.bound-index l.bounds) ≡ few_below 1 l.bounds
