use Rattle.std.proofs.Common.{◌≡◌, ◌++◌, map, take}
use Rattle.cf_tree.specs.declared.base.Base.TheVariants.{Int}
use Rattle.cf_typing.proofs.form.push_numbers.Given as goal

abbrev pub invariant-loop-bound : goal.invariant-loop-bound
invariant-loop-bound l = l.scope.items ≡ l.fn.scope.items ++ map (λ _. Int) (take l._bound-index l.bounds)
