use Rattle.std.proofs.Common.{◌≡◌, ◌+◌, drop}
use Rattle.cf_print_block.specs.Statements.{times_in}
use Rattle.cf_print_block.proofs.naming.times_in.Given as goal

abbrev pub invariant-loop-other : goal.invariant-loop-other
invariant-loop-other l = l.times + times_in l.number (drop l.other-index l.numbers) ≡ times_in l.number l.numbers
