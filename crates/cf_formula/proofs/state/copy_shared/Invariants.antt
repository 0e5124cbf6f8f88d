use Rattle.std.proofs.Common.{◌≡◌, map, take}
use Rattle.cf_formula.specs.StateView.{shared_of}
use Rattle.cf_formula.proofs.state.copy_shared.Given as goal

abbrev pub invariant-loop-one : goal.invariant-loop-one
invariant-loop-one l = map shared_of l.all.items ≡ map shared_of (take l.one-index l.shared)
