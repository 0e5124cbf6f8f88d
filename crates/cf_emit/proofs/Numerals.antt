-- A printed number is read back.
use Rattle.std.proofs.Common.{◌≡◌, ℕ, ◌+◌, ◌-◌, ◌*◌, ◌/◌, ◌%◌, ◌^◌, ◌<◌, ◌≤◌, Bool, true, false, List, [], ◌∷◌, ◌++◌, length, refl, ◌∙◌, arith, length-append}
use Rattle.std.specs.Prelude.{decimal}
use Rattle.std.proofs.lemmas.Bool.Decides.{nat_tests}
use Rattle.std.proofs.lemmas.Fmt.{decimal_by_steps_wide}
use Rattle.cf_lex.specs.Bytes.{is_digit, is_in_word}
use Rattle.cf_lex.specs.Digits.{value_from, digits_value}
use Rattle.cf_lex.specs.Runs.{AllAre, StopsAt}

-- the digits are those of the number
pub record AreDigitsOf (n : ℕ) (ds : List ℕ) : Type 0 where
  pub some : 0 < length ds
  pub digits : AllAre is_digit ds
  pub value : digits_value ds ≡ n

value_from-last : (n : ℕ) (ds : List ℕ) (b : ℕ) → value_from n (ds ++ (b ∷ [])) ≡ value_from n ds * 10 + (b - 48)
value_from-last n [] b = refl
value_from-last n (d ∷ ds) b = value_from-last (n * 10 + (d - 48)) ds b

last_digit : (p : ℕ → Bool) (ds : List ℕ) (b : ℕ) → AllAre p ds → p b ≡ true → AllAre p (ds ++ (b ∷ []))
last_digit p [] b all e = (e, tt)
last_digit p (d ∷ ds) b all e = (all.0, last_digit p ds b all.1 e)

below_ten : (d : ℕ) → d < 10 → is_digit (48 + d) ≡ true
below_ten d h = grind (arith, nat_tests)

one_digit : (n : ℕ) → n < 10 → AreDigitsOf n ((48 + n) ∷ [])
one_digit n h = record { some = omega arith; digits = (below_ten n h, tt); value = omega arith }

more_digits : (n : ℕ) (ds : List ℕ) → 10 ≤ n → AreDigitsOf (n / 10) ds → AreDigitsOf n (ds ++ ((48 + n % 10) ∷ []))
more_digits n ds h r =
    let small : n % 10 < 10 = omega arith in
    record {
      some = rw (length-append ds ((48 + n % 10) ∷ [])) (omega arith);
      digits = last_digit is_digit ds (48 + n % 10) r.digits (below_ten (n % 10) small);
      value = value_from-last 0 ds (48 + n % 10) ∙ (let e : value_from 0 ds ≡ n / 10 = r.value in omega arith);
    }

pub decimal_read : (n : ℕ) → n < 10 ^ 64 → AreDigitsOf n (decimal n)
decimal_read n h = decimal_by_steps_wide AreDigitsOf one_digit more_digits n h

-- digits go on a word
digit_in_word : (b : ℕ) → is_digit b ≡ true → is_in_word b ≡ true
digit_in_word b h = grind (arith, nat_tests)

pub digits_in_word : (ds : List ℕ) → AllAre is_digit ds → AllAre is_in_word ds
digits_in_word [] h = tt
digits_in_word (d ∷ ds) h = (digit_in_word d h.0, digits_in_word ds h.1)

in_no_word : (b : ℕ) → is_in_word b ≡ false → is_digit b ≡ false
in_no_word b h = grind (arith, nat_tests)

pub ends_digits : (rest : List ℕ) → StopsAt is_in_word rest → StopsAt is_digit rest
ends_digits [] h = tt
ends_digits (b ∷ rest) h = in_no_word b h
