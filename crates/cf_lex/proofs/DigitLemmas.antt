-- A number grows with each digit behind it.
use Rattle.std.proofs.Common.{◌≡◌, ℕ, ◌+◌, ◌-◌, ◌*◌, ◌<◌, ◌≤◌, List, [], ◌∷◌, Some, None, arith, drop, length, get_or}
use Rattle.std.proofs.lemmas.List.{drop_more}
use Rattle.std.proofs.lemmas.Bool.Decides.{nat_tests}
use Rattle.cf_lex.specs.Digits.{value_from, at_most}

pub value_from-grows : (n : ℕ) (digits : List ℕ) → n ≤ value_from n digits
value_from-grows n [] = omega arith
value_from-grows n (b ∷ digits) = omega (arith, value_from-grows (n * 10 + (b - 48)) digits)

pub at_most-fits : (limit n : ℕ) → n ≤ limit → at_most limit n ≡ Some n
at_most-fits limit n h = grind (arith, nat_tests)

pub at_most-past : (limit n : ℕ) → limit < n → at_most limit n ≡ None
at_most-past limit n past = grind (arith, nat_tests)

pub at_most-digit : (limit n : ℕ) (digits : List ℕ) (i : ℕ) → i < length digits → limit < n * 10 + (get_or digits i 0 - 48) →
    at_most limit (value_from n (drop i digits)) ≡ None
at_most-digit limit n digits i fits past =
    let h = value_from-grows (n * 10 + (get_or digits i 0 - 48)) (drop (i + 1) digits) in
    rw (drop_more digits i 0 fits) (at_most-past limit (value_from (n * 10 + (get_or digits i 0 - 48)) (drop (i + 1) digits)) (omega arith))
