use Rattle.std.proofs.Common.{◌≡◌, drop}
use Rattle.std.specs.List.{list_all}
use Rattle.cf_print.specs.Names.{stands_in_names}
use Rattle.cf_print.proofs.names.are_of_names.Given as goal

abbrev pub invariant-loop-byte : goal.invariant-loop-byte
invariant-loop-byte l = list_all stands_in_names (drop l.byte-index l.bytes) ≡ list_all stands_in_names l.bytes
