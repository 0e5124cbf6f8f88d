use Rattle.std.proofs.Common.{◌≡◌, drop}
use Rattle.cf_print.specs.Names.{is_one_of}
use Rattle.cf_print_block.proofs.parameters.is_one_of.Given as goal

abbrev pub invariant-loop-other : goal.invariant-loop-other
invariant-loop-other l = is_one_of l.name (drop l.other-index l.names) ≡ is_one_of l.name l.names
