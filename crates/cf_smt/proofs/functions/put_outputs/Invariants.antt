use Rattle.std.proofs.Common.{◌≡◌, ◌++◌, drop}
use Rattle.cf_smt.specs.Goals.{outputs_defined}
use Rattle.cf_smt.proofs.functions.put_outputs.Given as goal

abbrev pub invariant-loop-output : goal.invariant-loop-output
invariant-loop-output l = l.out.items ++ outputs_defined l.setting l.n (drop l.output-index l.outputs) ≡ l.fn.out.items ++ outputs_defined l.setting l.n
    l.outputs
