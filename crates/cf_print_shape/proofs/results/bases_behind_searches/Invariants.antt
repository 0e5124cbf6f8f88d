use Rattle.std.proofs.Common.{◌≡◌, ◌++◌, drop, map}
use Rattle.cf_tree.specs.declared.base.Base.TheVariants.{Int}
use Rattle.cf_print_shape.proofs.results.bases_behind_searches.Given as goal

abbrev pub invariant-loop-bound : goal.invariant-loop-bound
invariant-loop-bound l = l.all.items ++ map (λ k. Int) (drop l._bound-index l.bounds) ≡ l.fn.bases.items ++ map (λ k. Int) l.bounds
