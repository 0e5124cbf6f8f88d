use Rattle.std.proofs.Common.{◌≡◌, take}
use Rattle.cf_tree.proofs.copy.words.copy_params.Given as goal

abbrev pub invariant-loop-param : goal.invariant-loop-param
invariant-loop-param l = l.all.items ≡ take l.param-index l.params
