use Rattle.std.proofs.Common.{◌≡◌, take}
use Rattle.cf_tree.specs.Params.{bases_of}
use Rattle.cf_tree.proofs.choose.bases.Given as goal

abbrev pub invariant-loop-param : goal.invariant-loop-param
invariant-loop-param l = l.bases.items ≡ bases_of (take l.param-index l.params)
