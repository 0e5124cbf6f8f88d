use Rattle.std.proofs.Common.{◌≡◌, ◌+◌, ◌≤◌, ◌-◌, length, drop}
use Rattle.std.specs.List.{prefix_len}
use Rattle.cf_lex.specs.Bytes.{is_digit}
use Rattle.cf_lex.proofs.digits.digits_len.Given as goal

abbrev pub invariant-digits : goal.invariant-digits
invariant-digits l = (l.n ≤ length l.text) × (l.n + prefix_len is_digit (drop l.n l.text) ≡ prefix_len is_digit l.text)

abbrev pub decreases-digits : goal.decreases-digits
decreases-digits l = length l.text - l.n
