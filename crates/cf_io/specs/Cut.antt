-- What a Cutter knows of the bytes that it was fed, and the lines that it tells.
use Rattle.std.specs.Prelude.{◌≡◌, ℕ, ◌-◌, ◌^◌, min, List, ◌++◌, length, take, drop, map, nat_le, Option, Some, None, if◌then◌else◌}
use Rattle.cf_io.specs.Lines.{rest_of, ended}
use Rattle.cf_io.specs.declared.line.Line.{Line}
use Rattle.cf_io.specs.declared.line.Line.TheVariants.{Text, TooLong}

-- a line as it is told: its bytes, or that it is longer than the limit
abbrev pub line_of : ℕ → List ℕ → Line
line_of limit bytes = if nat_le (length bytes) limit then Text bytes else TooLong

-- the first bytes of some, as many as a limit says; all where there is none
abbrev pub within : Option ℕ → List ℕ → List ℕ
within None bytes = bytes
within (Some most) bytes = take most bytes

-- how many more bytes a limit leaves behind so many
abbrev pub room_behind : Option ℕ → ℕ → Option ℕ
room_behind None count = None
room_behind (Some most) count = Some (most - count)

-- the first bytes of the unfinished line, the number of its bytes, and how many more bytes the limit of the input leaves
pub record CutterState : Type 0 where
  pub kept : List ℕ
  pub length_so_far : ℕ
  pub room : Option ℕ

-- the first bytes of a line, and how many it has; a u64 stays at its last value
pub record Keeps (limit : ℕ) (kept : List ℕ) (size : ℕ) (line : List ℕ) : Type 0 where
  pub front : kept ≡ take limit line
  pub whole : size ≡ min (length line) (2 ^ 64 - 1)

-- the Cutter stands for these bytes
pub record Stands (limit : ℕ) (most : Option ℕ) (c : CutterState) (bytes : List ℕ) : Type 0 where
  pub room : c.room ≡ room_behind most (length bytes)
  pub line : Keeps limit c.kept c.length_so_far (rest_of bytes)

-- the lines told of some bytes: those that end at a line feed within the limit of the input
abbrev pub told : ℕ → Option ℕ → List ℕ → List Line
told limit most bytes = map (line_of limit) (ended (within most bytes))

-- those of the bytes and a piece behind them that end within the piece
abbrev pub new_lines : ℕ → Option ℕ → List ℕ → List ℕ → List Line
new_lines limit most bytes piece = drop (length (told limit most bytes)) (told limit most (bytes ++ piece))
