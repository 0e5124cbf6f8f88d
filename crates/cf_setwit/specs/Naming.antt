-- Names of columns, as a table holds them.
use Rattle.std.specs.Prelude.{◌≡◌, ℕ, ◌==◌, cond}
use Rattle.cf_linear.specs.Arm.{ColumnLevels, level_of}

-- the column has the level, and the others have those of `old`
abbrev pub IsNamed : ColumnLevels → ℕ → ℕ → ColumnLevels → Type 0
IsNamed old c level new = (d : ℕ) → level_of new d ≡ cond (c == d) level (level_of old d)
