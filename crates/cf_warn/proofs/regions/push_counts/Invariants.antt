use Rattle.std.proofs.Common.{◌≡◌, ◌-◌, ◌++◌, map}
use Rattle.std.specs.List.{range_with_len}
use Rattle.cf_tree.specs.RelTree.{term_card}
use Rattle.cf_tree.specs.RelView.{term_tree}
use Rattle.cf_linear.specs.Layout.{place}
use Rattle.cf_linear.specs.Views.{plain_layout}
use Rattle.cf_warn.specs.Missing.{region_form}
use Rattle.cf_warn.proofs.regions.push_counts.Given as goal

abbrev pub invariant-loop-mask : goal.invariant-loop-mask
invariant-loop-mask l =
    map term_tree l.first.items ≡ map term_tree l.initial.first.items ++ map (λ m. term_card (region_form (plain_layout l.layout) (λ x. place x l.params) m))
    (range_with_len 1 (l.mask - 1))
