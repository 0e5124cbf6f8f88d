-- The sets that pieces are cut from.
use Rattle.std.specs.Prelude.{ℕ, ◌+◌, ◌-◌, ◌*◌}

-- the level of input region m, where that of the first is given: a region and its count alternate
abbrev pub level_from : ℕ → ℕ → ℕ
level_from first m = first + 2 * (m - 1)
