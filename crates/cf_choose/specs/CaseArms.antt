-- What the arm of a case owes.
use Rattle.std.specs.Prelude.{ℕ, ℤ, ◌+◌, ◌*◌, ◌^◌, ◌<◌, ◌≡◌, ◌∷◌, [], List, map, length, slice_get, Some, pos, ◌==◌, cond}
use Rattle.cf_tree.specs.declared.base.Base.{Base}
use Rattle.cf_tree.specs.declared.base.Base.TheVariants.{Int}
use Rattle.cf_tree.specs.Relation.{IsDivisor}
use Rattle.cf_tree.specs.Typing.{AreBounds}
use Rattle.cf_tree.specs.Values.{Value, number_of, value_at}
use Rattle.cf_linear.specs.Arm.{ColumnLevels, level_of}
use Rattle.cf_linear.specs.Layout.{Layout, number_column}
use Rattle.cf_linear.specs.Systems.{Step, floor_of, need_nonneg, need_zero, need_divides, How, row_how, greatest, least, Answer}
use Rattle.cf_linear.specs.Rows.{Row, Values, IsRow}

-- ---- values of columns
-- the value of a column whose name is a level of the environment; column 0 has the value 1
abbrev pub seen : ColumnLevels → List Value → Values
seen names e c = cond (c == 0) (pos 1) (number_of (value_at e (level_of names c)))

-- the levels of the parameters by their columns
abbrev pub parameter_names : Layout → ColumnLevels
parameter_names l = map (λ x. (number_column l x, x)) l.numbers

-- ---- levels
abbrev pub AreInts : List Base → List ℕ → Type 0
AreInts scope [] = Unit {0}
AreInts scope (x ∷ xs) = (slice_get scope x ≡ Some Int) × AreInts scope xs

-- ---- what has a spelling
abbrev pub PairsWritten : List (Row × ℤ) → Type 0
PairsWritten [] = Unit {0}
PairsWritten ((r, k) ∷ bs) = IsRow r × IsDivisor k × PairsWritten bs

abbrev pub HowWritten : How → Type 0
HowWritten (row_how r) = IsRow r
HowWritten (greatest bs) = PairsWritten bs
HowWritten (least bs) = PairsWritten bs

abbrev pub BackWritten : List (ℕ × How) → Type 0
BackWritten [] = Unit {0}
BackWritten ((x, w) ∷ ws) = HowWritten w × BackWritten ws

abbrev pub StepWritten : Step → Type 0
StepWritten (floor_of c r g) = IsRow r × IsDivisor g
StepWritten (need_nonneg r) = IsRow r
StepWritten (need_zero r) = IsRow r
StepWritten (need_divides g r) = IsRow r × IsDivisor g

abbrev pub StepsWritten : List Step → Type 0
StepsWritten [] = Unit {0}
StepsWritten (m ∷ ms) = StepWritten m × StepsWritten ms

-- rows and divisors are within the limit of numbers, and searches within that of tuples
pub record IsWritable (a : Answer) : Type 0 where
  pub steps : StepsWritten a.steps
  pub back : BackWritten a.back
  pub bounds : AreBounds (map (λ (c, p). p) a.bounds)

-- the levels of the arm are numbers of 32 bits
abbrev pub HasFewLevels : Layout → Answer → Type 0
HasFewLevels l a = l.scope + length a.bounds + 2 * 2 ^ length l.inputs + length a.steps + length a.back < 2 ^ 32
