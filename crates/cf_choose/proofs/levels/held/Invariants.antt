use Rattle.std.proofs.Common.{◌≡◌, ◌++◌, drop, filter}
use Rattle.cf_tree.specs.Occurs.{rel_holds}
use Rattle.cf_tree.specs.RelView.{rel_tree}
use Rattle.cf_choose.proofs.levels.held.Given as goal

abbrev pub invariant-loop-x : goal.invariant-loop-x
invariant-loop-x l = l.out.items ++ filter (λ x. rel_holds x (rel_tree l.rel)) (drop l.x-index l.levels) ≡ filter (λ x. rel_holds x (rel_tree l.rel)) l.levels
