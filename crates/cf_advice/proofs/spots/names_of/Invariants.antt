use Rattle.std.proofs.Common.{◌≡◌, ◌++◌, drop}
use Rattle.cf_tree.specs.Params.{names_of}
use Rattle.cf_advice.proofs.spots.names_of.Given as goal

abbrev pub invariant-loop-param : goal.invariant-loop-param
invariant-loop-param l = l.names.items ++ names_of (drop l.param-index l.params) ≡ names_of l.params
