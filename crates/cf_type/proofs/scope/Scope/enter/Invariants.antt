use Rattle.std.proofs.Common.{◌≡◌, ◌++◌, drop}
use Rattle.cf_type.proofs.scope.Scope.enter.Given as goal

abbrev pub invariant-loop-param : goal.invariant-loop-param
invariant-loop-param l = l.self ++ drop l.param-index l.params ≡ l.initial.self ++ l.params
