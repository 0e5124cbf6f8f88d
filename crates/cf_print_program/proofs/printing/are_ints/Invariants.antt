use Rattle.std.proofs.Common.{◌≡◌, drop}
use Rattle.std.specs.Prelude.{nat_lt}
use Rattle.std.specs.List.{list_all}
use Rattle.cf_print_term.specs.declared.numeral.TheConstants.{INT_END}
use Rattle.cf_print_program.proofs.printing.are_ints.Given as goal

abbrev pub invariant-loop-number : goal.invariant-loop-number
invariant-loop-number l = list_all (λ n. nat_lt n INT_END) (drop l.number-index l.numbers) ≡ list_all (λ n. nat_lt n INT_END) l.numbers
