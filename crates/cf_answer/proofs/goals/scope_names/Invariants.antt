use Rattle.std.proofs.Common.{◌≡◌, take}
use Rattle.cf_tree.specs.Params.{names_of}
use Rattle.cf_answer.proofs.goals.scope_names.Given as goal

abbrev pub invariant-loop-param : goal.invariant-loop-param
invariant-loop-param l = l.names.items ≡ names_of (take l.param-index l.scope)
