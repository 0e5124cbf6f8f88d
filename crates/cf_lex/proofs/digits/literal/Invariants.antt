use Rattle.std.proofs.Common.{◌≡◌, ◌≤◌, drop}
use Rattle.cf_lex.specs.Digits.{digits_value, value_from}
use Rattle.cf_lex.proofs.digits.literal.Given as goal

abbrev pub invariant-loop-b : goal.invariant-loop-b
invariant-loop-b l = (l.n ≤ l.limit) × (value_from l.n (drop l.b-index l.digits) ≡ digits_value l.digits)
