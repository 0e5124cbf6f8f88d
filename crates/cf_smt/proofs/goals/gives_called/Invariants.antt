use Rattle.std.proofs.Common.{◌≡◌, ◌++◌, drop}
use Rattle.cf_smt.specs.Goals.{gives_called}
use Rattle.cf_smt.proofs.goals.gives_called.Given as goal

abbrev pub invariant-loop-output : goal.invariant-loop-output
invariant-loop-output l = l.all.items ++ gives_called l.frame (drop l.output-index l.outputs) ≡ gives_called l.frame l.outputs
