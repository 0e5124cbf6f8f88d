use Rattle.std.proofs.Common.{◌≡◌, drop}
use Rattle.std.specs.List.{list_any}
use Rattle.cf_print_c.specs.Files.{is_truth}
use Rattle.cf_print_c.proofs.filter.has_truths.Given as goal

abbrev pub invariant-loop-base : goal.invariant-loop-base
invariant-loop-base l = list_any is_truth (drop l.base-index l.bases) ≡ list_any is_truth l.bases
