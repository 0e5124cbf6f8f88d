use Rattle.std.proofs.Common.{◌≡◌, drop}
use Rattle.cf_program.specs.Walk.{are_numbers}
use Rattle.cf_help.proofs.types.are_numbers.Given as goal

abbrev pub invariant-loop-base : goal.invariant-loop-base
invariant-loop-base l = are_numbers (drop l.base-index l.bases) ≡ are_numbers l.bases
