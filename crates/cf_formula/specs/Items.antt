-- Lets and needs of a plan.
use Rattle.std.specs.Prelude.{◌≡◌, ℕ, ℤ, List, [], ◌∷◌}
use Rattle.std.specs.Int.{int_div_euclid}
use Rattle.cf_linear.specs.Keep.{Over}
use Rattle.cf_linear.specs.Relations.{Divides}
use Rattle.cf_linear.specs.Rows.{Row, Values, value}
use Rattle.cf_linear.specs.Systems.{Step, floor_of as step_floor, need_nonneg, need_zero, need_divides as step_divides}
use Rattle.cf_formula.specs.Formulas.{Formula, at_least, equal, Holds, Throughout}

-- a let of a new known column, which holds the row divided by the number and rounded down, or a need
pub data Item : Type 0 where
  floor_of : ℕ → Row → ℤ → Item
  need : Formula → Item
  need_divides : ℤ → Row → Item

-- those of the elimination of language 2
abbrev pub item_of : Step → Item
item_of (step_floor c r g) = floor_of c r g
item_of (need_nonneg r) = need (at_least r)
item_of (need_zero r) = need (equal r)
item_of (step_divides g r) = need_divides g r

abbrev pub IsMet : Values → Item → Type 0
IsMet v (floor_of c r g) = v c ≡ int_div_euclid (value v r) g
IsMet v (need f) = Holds v f
IsMet v (need_divides g r) = Divides g (value v r)

abbrev pub AllMet : Values → List Item → Type 0
AllMet v [] = Unit {0}
AllMet v (m ∷ ms) = IsMet v m × AllMet v ms

abbrev pub ItemOver : (ℕ → Type 0) → Item → Type 0
ItemOver Q (floor_of c r g) = Q c × Over Q r
ItemOver Q (need f) = Throughout Q f
ItemOver Q (need_divides g r) = Over Q r

abbrev pub EachItemOver : (ℕ → Type 0) → List Item → Type 0
EachItemOver Q [] = Unit {0}
EachItemOver Q (m ∷ ms) = ItemOver Q m × EachItemOver Q ms
