use Rattle.std.proofs.Common.{◌≡◌, drop}
use Rattle.cf_program.specs.Walk.{output_fault, taken}
use Rattle.cf_type.specs.FormView.{context_of}
use Rattle.cf_type.proofs.names.output_fault.Given as goal

abbrev pub invariant-loop-output : goal.invariant-loop-output
invariant-loop-output l =
    output_fault l.edition l.before (drop l.output-index l.outputs) ≡ output_fault l.edition (taken (context_of l.context)) l.outputs
