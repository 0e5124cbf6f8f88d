use Rattle.std.proofs.Common.{◌≡◌, take}
use Rattle.cf_tree.specs.Params.{bases_of}
use Rattle.cf_help.proofs.bases.bases_of_outputs.Given as goal

abbrev pub invariant-loop-output : goal.invariant-loop-output
invariant-loop-output l = l.all.items ≡ bases_of (take l.output-index l.outputs)
