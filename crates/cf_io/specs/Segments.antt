-- How a line goes on over the seam of two pieces; for the contracts within the crate.
use Rattle.std.specs.Prelude.{ℕ, Bool, not, List, [], ◌∷◌, ◌++◌, if◌then◌else◌}
use Rattle.cf_io.specs.Lines.{is_feed}

-- the lines that end with a line feed, where the first goes on from a line's beginning
abbrev pub ended_from : List ℕ → List ℕ → List (List ℕ)
ended_from line [] = []
ended_from line (b ∷ bytes) = if is_feed b then line ∷ ended_from [] bytes else ended_from (line ++ b ∷ []) bytes

-- what follows the last line feed, where the first line goes on from a line's beginning
abbrev pub rest_from : List ℕ → List ℕ → List ℕ
rest_from line [] = line
rest_from line (b ∷ bytes) = if is_feed b then rest_from [] bytes else rest_from (line ++ b ∷ []) bytes

abbrev pub is_in_line : ℕ → Bool
is_in_line b = not (is_feed b)
