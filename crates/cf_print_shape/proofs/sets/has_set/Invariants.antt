use Rattle.std.proofs.Common.{◌≡◌, drop}
use Rattle.std.specs.List.{list_any}
use Rattle.cf_print_shape.specs.Sets.{is_set}
use Rattle.cf_print_shape.proofs.sets.has_set.Given as goal

abbrev pub invariant-loop-base : goal.invariant-loop-base
invariant-loop-base l = list_any is_set (drop l.base-index l.bases) ≡ list_any is_set l.bases
