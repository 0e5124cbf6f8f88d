-- Division, comparison and absolute values of whole numbers.
use Rattle.std.specs.Prelude.{ℕ, ℤ, pos, negsuc, ◌-ℤ◌, ◌*ℤ◌, ◌≡◌, ◌≢◌, ◌≤ℤ◌, ◌<ℤ◌, int_lt, unsigned_abs, Bool, if◌then◌else◌}
use Rattle.std.specs.Int.{int_div_euclid}
use Rattle.std.specs.Ordering.{int_eq}
use Rattle.cf_tree.specs.declared.base.Order.{Order}
use Rattle.cf_tree.specs.declared.base.Order.TheVariants.{Eq, Ne, Lt, Le, Gt, Ge}

-- the greatest n with n * k at most z, for k of at least 1; 0 for any other k
abbrev pub quotient : ℤ → ℤ → ℤ
quotient z k = if int_lt (pos 0) k then int_div_euclid z k else pos 0

-- what the quotient leaves, from 0 to k - 1
abbrev pub remainder : ℤ → ℤ → ℤ
remainder z k = z -ℤ k *ℤ quotient z k

abbrev pub is_multiple : ℤ → ℤ → Bool
is_multiple k z = int_eq (remainder z k) (pos 0)

abbrev pub absolute : ℤ → ℤ
absolute z = pos (unsigned_abs z)

-- a number as a count: a negative one counts as 0
abbrev pub count_of : ℤ → ℕ
count_of (pos n) = n
count_of (negsuc n) = 0

abbrev pub Compares : Order → ℤ → ℤ → Type 0
Compares Eq x y = x ≡ y
Compares Ne x y = x ≢ y
Compares Lt x y = x <ℤ y
Compares Le x y = x ≤ℤ y
Compares Gt x y = y <ℤ x
Compares Ge x y = y ≤ℤ x
