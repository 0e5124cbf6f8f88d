-- Worked examples: what a Clean leaves, counted before it is made.
use Rattle.std.proofs.Common.{◌≡◌, ℕ, pos, negsuc, refl, List, [], ◌∷◌, true, false, Ok, Err, arith}
use Rattle.cf_num.specs.Divisors.{gcd_by}
use Rattle.cf_linear.specs.declared.refusal.LimitKind.TheVariants.{Rows, Columns}
use Rattle.cf_linear.specs.declared.refusal.Refusal.TheVariants.{Limit}
use Rattle.cf_linear.specs.Rows.{Row}
use Rattle.cf_elim.specs.declared.fault.ElimFault.TheVariants.{Refused, NoMemory}
use Rattle.cf_cert.specs.Counting.{divisor, is_divided, gets_column, is_equal, repeats, agrees, AreAtMost}

-- c2 and c3 are unknown
abbrev us : List ℕ
us = 2 ∷ 3 ∷ []

-- 4 * c2 - 6 * c3 + 5, 2 * c2 - 3 * c3 + 2, 4 * c2 - 6 * c3 + 6 and 4 * c2 + c1
abbrev four : Row
four = (0, pos 5) ∷ (2, pos 4) ∷ (3, negsuc 5) ∷ []

abbrev two : Row
two = (0, pos 2) ∷ (2, pos 2) ∷ (3, negsuc 2) ∷ []

abbrev other : Row
other = (0, pos 6) ∷ (2, pos 4) ∷ (3, negsuc 5) ∷ []

abbrev odd : Row
odd = (1, pos 1) ∷ (2, pos 4) ∷ []

-- known columns do not count
divisor-some : divisor us ((1, pos 3) ∷ (2, pos 4) ∷ (3, negsuc 5) ∷ []) ≡ 2
unfolding gcd_by
divisor-some = refl

divisor-none : divisor us ((0, pos 6) ∷ (1, pos 4) ∷ []) ≡ 0
divisor-none = refl

-- a constant is rounded down
divided : is_divided us four ≡ true
unfolding gcd_by
divided = refl

divided-not : is_divided us odd ≡ false
unfolding gcd_by
divided-not = refl

divided-bare : is_divided us ((0, pos 6) ∷ []) ≡ false
divided-bare = refl

column : gets_column us odd ≡ true
unfolding gcd_by
column = refl

column-divided : gets_column us four ≡ false
unfolding gcd_by
column-divided = refl

column-bare : gets_column us ((1, pos 4) ∷ []) ≡ false
column-bare = refl

-- equal once they are divided; where each gets a column of its own they are not
equal : is_equal us four two ≡ true
unfolding gcd_by
equal = refl

equal-constant : is_equal us four other ≡ false
unfolding gcd_by
equal-constant = refl

equal-first_column : is_equal us odd odd ≡ false
unfolding gcd_by
equal-first_column = refl

equal-second_column : is_equal us ((2, pos 1) ∷ []) ((1, pos 1) ∷ (2, pos 2) ∷ []) ≡ false
unfolding gcd_by
equal-second_column = refl

-- each row that is equal to one before it, wherever that stands
repeats-two : repeats us [] (four ∷ odd ∷ two ∷ odd ∷ other ∷ two ∷ []) ≡ 2
unfolding gcd_by
repeats-two = refl

repeats-before : repeats us (two ∷ []) (four ∷ []) ≡ 1
unfolding gcd_by
repeats-before = refl

agrees-each : agrees (pos 2) (pos 1) two four ≡ true
agrees-each = refl

agrees-not : agrees (pos 2) (pos 1) two other ≡ false
agrees-not = refl

agrees-divisor : agrees (pos 1) (pos 1) two four ≡ false
agrees-divisor = refl

-- what the second row has besides is not asked
agrees-first : agrees (pos 1) (pos 1) two ((2, pos 2) ∷ []) ≡ true
agrees-first = refl

-- ---- so many of a kind
within : AreAtMost Rows 1000 1000 (Ok tt)
within = omega arith

not_within : AreAtMost Rows 1000 1001 (Ok tt) → ⊥
not_within h = omega (arith, h)

past : AreAtMost Rows 1000 1001 (Err (Refused (Limit Rows 1001)))
past = (omega arith, refl)

not_past : AreAtMost Rows 1000 1000 (Err (Refused (Limit Rows 1000))) → ⊥
not_past h = let l = h.0 in omega (arith, l)

other_kind : AreAtMost Rows 1000 1001 (Err (Refused (Limit Columns 1001))) → ⊥
other_kind h = let e : Limit Columns 1001 ≡ Limit Rows 1001 = h.1 in cc

lacks : AreAtMost Rows 1000 18446744073709551616 (Err NoMemory)
lacks = (omega arith, omega arith)

lacks-not : AreAtMost Rows 1000 1001 (Err NoMemory) → ⊥
lacks-not h = let l = h.1 in omega (arith, l)
