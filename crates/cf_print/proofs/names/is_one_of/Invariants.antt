use Rattle.std.proofs.Common.{◌≡◌, drop}
use Rattle.cf_print.specs.Names.{is_one_of}
use Rattle.cf_print.proofs.names.is_one_of.Given as goal

abbrev pub invariant-loop-name : goal.invariant-loop-name
invariant-loop-name l = is_one_of l.word (drop l.name-index l.names) ≡ is_one_of l.word l.names
