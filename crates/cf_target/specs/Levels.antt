-- The level that the name of a variable tells.
use Rattle.std.specs.Prelude.{ℕ, ◌+◌, ◌-◌, ◌*◌, ◌^◌, nat_le, nat_eq, ◌&&◌, List, [], ◌∷◌, length, Option, Some, None, if◌then◌else◌}

-- there are 2 ^ 32 levels
unfoldable pub last_level : ℕ
last_level = 2 ^ 32 - 1

-- the number with one more digit, if it is a level
unfoldable pub with_digit : ℕ → ℕ → Option ℕ
with_digit n d = if nat_le 48 d && nat_le d 57 && nat_le (n * 10 + (d - 48)) last_level then Some (n * 10 + (d - 48)) else None

-- the level that digits tell behind those of n
abbrev pub level_after : ℕ → List ℕ → Option ℕ
level_after n [] = Some n
level_after n (d ∷ ds) = elim (with_digit n d) [ None ↦ None | Some m ↦ level_after m ds ]

-- the level that digits without leading zeros tell
abbrev pub level_in : List ℕ → Option ℕ
level_in [] = None
level_in (d ∷ ds) = if nat_eq d 48 && nat_le 1 (length ds) then None else level_after 0 (d ∷ ds)

-- the level of a name
abbrev pub level_of : List ℕ → Option ℕ
level_of [] = None
level_of (v ∷ ds) = if nat_eq v 118 then level_in ds else None
