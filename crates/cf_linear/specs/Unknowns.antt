-- Columns in a table.
use Rattle.std.specs.Prelude.{◌≡◌, ℕ, List, [], ◌∷◌, ◌++◌, if◌then◌else◌}
use Rattle.cf_linear.specs.Steps.{has_column}

-- the same columns, in any order and each once or more
pub record HaveSame (us vs : List ℕ) : Type 0 where
  pub each : (c : ℕ) → has_column us c ≡ has_column vs c

-- the columns with one more, unless it is there
abbrev pub with_column : List ℕ → ℕ → List ℕ
with_column us c = (if has_column us c then us else us ++ (c ∷ []))
