use Rattle.std.proofs.Common.{◌≡◌, map, take}
use Rattle.std.specs.List.{fold}
use Rattle.cf_tree.specs.RelTree.{set_var}
use Rattle.cf_tree.specs.RelView.{set_tree}
use Rattle.cf_warn.specs.Writing.{both_sets}
use Rattle.cf_warn.proofs.regions.fold_sets.Given as goal

abbrev pub invariant-loop-x : goal.invariant-loop-x
invariant-loop-x l = set_tree l.all ≡ fold (both_sets l.how) (set_tree l.initial.all) (map (λ x. set_var x) (take l.x-index l.levels))
