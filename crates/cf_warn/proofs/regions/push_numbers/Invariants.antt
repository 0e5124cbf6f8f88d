use Rattle.std.proofs.Common.{◌≡◌, ◌++◌, map, take}
use Rattle.cf_tree.specs.RelTree.{term_var}
use Rattle.cf_tree.specs.RelView.{term_tree}
use Rattle.cf_linear.specs.Layout.{place}
use Rattle.cf_warn.proofs.regions.push_numbers.Given as goal

abbrev pub invariant-loop-x : goal.invariant-loop-x
invariant-loop-x l =
    map term_tree l.first.items ≡ map term_tree l.initial.first.items ++ map (λ x. term_var (place x l.params)) (take l.x-index l.numbers)
