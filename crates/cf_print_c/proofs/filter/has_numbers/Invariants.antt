use Rattle.std.proofs.Common.{◌≡◌, drop}
use Rattle.std.specs.List.{list_any}
use Rattle.cf_print_c.specs.Files.{is_number}
use Rattle.cf_print_c.proofs.filter.has_numbers.Given as goal

abbrev pub invariant-loop-base : goal.invariant-loop-base
invariant-loop-base l = list_any is_number (drop l.base-index l.bases) ≡ list_any is_number l.bases
