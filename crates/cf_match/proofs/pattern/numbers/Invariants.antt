use Rattle.std.proofs.Common.{◌≡◌, map, take}
use Rattle.cf_tree.specs.declared.base.Base.TheVariants.{Int}
use Rattle.cf_match.proofs.pattern.numbers.Given as goal

abbrev pub invariant-loop-factor : goal.invariant-loop-factor
invariant-loop-factor l = l.all.items ≡ map (λ _. Int) (take l._factor-index l.factors)
