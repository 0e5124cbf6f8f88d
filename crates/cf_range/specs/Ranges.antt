-- Between which numbers something lies, and what arithmetic makes of that.
use Rattle.std.specs.Prelude.{ℕ, ℤ, pos, neg_ℤ, ◌+ℤ◌, ◌-ℤ◌, ◌*ℤ◌, ◌≤◌, ◌≤ℤ◌, int_lt, unsigned_abs, nat_lt, Bool, true, false, Option, Some, None, ◌||◌, List, [], ◌∷◌, length, slice_index_or, if◌then◌else◌}
use Rattle.std.specs.Int.{int_min, int_max}
use Rattle.cf_num.specs.Limit.{limit, IsWithin}
use Rattle.cf_tree.specs.Numbers.{quotient}
use Rattle.cf_tree.specs.Sets.{IsRising}
use Rattle.cf_tree.specs.Values.{Value, number, truth, elements, number_of}
use Rattle.cf_tree.specs.declared.base.Base.{Base}
use Rattle.cf_tree.specs.declared.base.Base.TheVariants.{Int, Bool as Truth, Set}
use Rattle.cf_range.specs.declared.range.Range.{Range}

abbrev pub between : ℤ → ℤ → Range
between low high = record { low = low; high = high }

-- all numbers within the limit
abbrev pub whole : Range
whole = between (neg_ℤ (pos limit)) (pos limit)

-- a number within the limit that is in the range
abbrev pub LiesIn : Range → ℤ → Type 0
LiesIn r z = IsWithin z × (r.low ≤ℤ z) × (z ≤ℤ r.high)

-- how many elements a set may have that a machine holds, each of which takes a byte at least
abbrev pub most_elements : ℕ
most_elements = 9223372036854775807

abbrev pub IsHeld : Value → Type 0
IsHeld (number z) = Unit {0}
IsHeld (truth b) = Unit {0}
IsHeld (elements zs) = length zs ≤ most_elements

abbrev pub AreHeld : List Value → Type 0
AreHeld [] = Unit {0}
AreHeld (v ∷ vs) = IsHeld v × AreHeld vs

-- what is known of a parameter
abbrev pub param_range : Base → Range
param_range Int = whole
param_range Truth = whole
param_range Set = between (pos 0) (pos most_elements)

-- the range of a variable, by its level
abbrev pub range_at : List Range → ℕ → Range
range_at rs x = slice_index_or rs x whole

-- whether a number is past the limit
abbrev pub passes : ℤ → Bool
passes z = nat_lt limit (unsigned_abs z)

-- the nearest number within the limit
abbrev pub nearest : ℤ → ℤ
nearest z = int_max (neg_ℤ (pos limit)) (int_min (pos limit) z)

-- a set is a rising list, of at most as many elements as the range ends at; one that ends at the limit allows any number
abbrev pub IsSized : Range → Value → Type 0
IsSized r (number z) = Unit {0}
IsSized r (truth b) = Unit {0}
IsSized r (elements zs) = IsRising zs × (nearest (pos (length zs)) ≤ℤ r.high)

-- one range for each value, in which it lies; what is no number counts as 0, and a set also by its size
abbrev pub LieIn : List Range → List Value → Type 0
LieIn [] [] = Unit {0}
LieIn [] (v ∷ vs) = ⊥
LieIn (r ∷ rs) [] = ⊥
LieIn (r ∷ rs) (v ∷ vs) = LiesIn r (number_of v) × IsSized r v × LieIn rs vs

-- the range of sums, differences and products of numbers of two ranges, cut at the limit
abbrev pub plus : Range → Range → Range
plus r s = between (nearest (r.low +ℤ s.low)) (nearest (r.high +ℤ s.high))

abbrev pub minus : Range → Range → Range
minus r s = between (nearest (r.low -ℤ s.high)) (nearest (r.high -ℤ s.low))

-- the least range with both numbers
abbrev pub spanned : ℤ → ℤ → Range
spanned a b = between (int_min a b) (int_max a b)

abbrev pub scaled : Range → ℤ → Range
scaled r k = spanned (nearest (r.low *ℤ k)) (nearest (r.high *ℤ k))

-- what is in the one or the other
abbrev pub either : Range → Range → Range
either r s = between (int_min r.low s.low) (int_max r.high s.high)

-- a product is least and greatest where both factors are at an end
abbrev pub times : Range → Range → Range
times r s = either (scaled r s.low) (scaled r s.high)

-- what a cut-off operation of 128 bits tells of the limit
abbrev pub past_or_none : Option ℤ → Bool
past_or_none None = true
past_or_none (Some z) = passes z

-- whether some sum, difference or product of numbers of two ranges is past the limit
abbrev pub plus_passes : Range → Range → Bool
plus_passes r s = passes (r.low +ℤ s.low) || passes (r.high +ℤ s.high)

abbrev pub minus_passes : Range → Range → Bool
minus_passes r s = passes (r.low -ℤ s.high) || passes (r.high -ℤ s.low)

abbrev pub times_passes : Range → Range → Bool
times_passes r s = (passes (r.low *ℤ s.low) || passes (r.low *ℤ s.high)) || (passes (r.high *ℤ s.low) || passes (r.high *ℤ s.high))

abbrev pub negated : Range → Range
negated r = between (nearest (neg_ℤ r.high)) (nearest (neg_ℤ r.low))

abbrev pub divided : Range → ℤ → Range
divided r k = between (quotient r.low k) (quotient r.high k)

-- how many elements sets have
abbrev pub sizes : Range → Range
sizes r = between (pos 0) (int_max (pos 0) r.high)

-- what division by k leaves: from 0 to k - 1, and all of it where k is no divisor
abbrev pub left_by : Range → ℤ → Range
left_by r k = if int_lt (pos 0) k then between (pos 0) (k -ℤ pos 1) else r

-- the range of a sum that has come to r, when numbers of all the others are added in order
abbrev pub plus_all : Range → List Range → Range
plus_all r [] = r
plus_all r (s ∷ ss) = plus_all (plus r s) ss

-- whether one of its partial sums may be past the limit
abbrev pub plus_all_passes : Range → List Range → Bool
plus_all_passes r [] = false
plus_all_passes r (s ∷ ss) = plus_passes r s || plus_all_passes (plus r s) ss

-- the range of the better of two numbers, which is one of them and rises with both
abbrev pub better_of : (ℤ → ℤ → ℤ) → Range → Range → Range
better_of better r s = between (better r.low s.low) (better r.high s.high)

-- the range of the best of r and of all others
abbrev pub best_after : (ℤ → ℤ → ℤ) → Range → List Range → Range
best_after better r [] = r
best_after better r (s ∷ ss) = best_after better (better_of better r s) ss

-- the range of the best of all; 0 where there is none
abbrev pub best_of : (ℤ → ℤ → ℤ) → List Range → Range
best_of better [] = between (pos 0) (pos 0)
best_of better (r ∷ rs) = best_after better r rs
