use Rattle.std.proofs.Common.{◌≡◌, drop}
use Rattle.cf_lex.specs.Digits.{digits_value, value_from}
use Rattle.cf_eval.proofs.number.narrow.Given as goal

abbrev pub invariant-loop-b : goal.invariant-loop-b
invariant-loop-b l = value_from l.n (drop l.b-index l.digits) ≡ digits_value l.digits
