use Rattle.std.proofs.Common.{◌≡◌, map, take}
use Rattle.cf_type.proofs.scope.params_of.Given as goal

abbrev pub invariant-loop-binding : goal.invariant-loop-binding
invariant-loop-binding l = l.all.items ≡ map (λ b. b.param) (take l.binding-index l.bindings)
