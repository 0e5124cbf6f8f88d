-- What a Clean leaves, counted before it is made.
use Rattle.std.specs.Prelude.{◌≡◌, ◌≤◌, ◌<◌, ℕ, ◌+◌, ◌^◌, ℤ, pos, ◌-ℤ◌, nat_lt, List, [], ◌∷◌, ◌++◌, Bool, not, ◌&&◌, Result, Ok, Err, if◌then◌else◌}
use Rattle.std.specs.List.{list_any, list_all}
use Rattle.std.specs.Int.{int_div_euclid}
use Rattle.cf_linear.specs.declared.refusal.LimitKind.{LimitKind}
use Rattle.cf_linear.specs.declared.refusal.Refusal.TheVariants.{Limit}
use Rattle.cf_linear.specs.Rows.{Row, entry, is_zero, same_row}
use Rattle.cf_linear.specs.RowParts.{divides_known}
use Rattle.cf_linear.specs.Steps.{unknown_part, common, divided}
use Rattle.cf_elim.specs.declared.fault.ElimFault.{ElimFault}
use Rattle.cf_elim.specs.declared.fault.ElimFault.TheVariants.{Refused, NoMemory}

-- the divisor by which a row is tightened, 0 where it holds no unknown
abbrev pub divisor : List ℕ → Row → ℕ
divisor us r = common (unknown_part us r)

-- a row is divided where its divisor divides all but the constant, and gets a column where it does not
abbrev pub is_divided : List ℕ → Row → Bool
is_divided us r = nat_lt 0 (divisor us r) && divides_known (pos (divisor us r)) r

abbrev pub gets_column : List ℕ → Row → Bool
gets_column us r = nat_lt 0 (divisor us r) && not (divides_known (pos (divisor us r)) r)

-- two rows are equal where they are divided, and are then the same
abbrev pub is_equal : List ℕ → Row → Row → Bool
is_equal us r s = is_divided us r && is_divided us s && same_row (divided (divisor us r) r) (divided (divisor us s) s)

-- how many rows are equal to one before them
abbrev pub repeats : List ℕ → List Row → List Row → ℕ
repeats us before [] = 0
repeats us before (r ∷ rows) = (if list_any (is_equal us r) before then 1 else 0) + repeats us (before ++ (r ∷ [])) rows

-- whether each entry of a row divided by g is that of the row s divided by h
abbrev pub agrees : ℤ → ℤ → Row → Row → Bool
agrees g h s r = list_all (λ (c, k). is_zero (int_div_euclid k g -ℤ int_div_euclid (entry s c) h)) r

-- so many of a kind are at most so many, or they are more; and where they have more than 64 bits, want of memory
abbrev pub AreAtMost : LimitKind → ℕ → ℕ → Result (Unit {0}) ElimFault → Type 0
AreAtMost kind most n (Ok u) = n ≤ most
AreAtMost kind most n (Err (Refused r)) = (most < n) × (r ≡ Limit kind n)
AreAtMost kind most n (Err NoMemory) = (most < n) × (2 ^ 64 ≤ n)
