-- The lines of a list of bytes.
use Rattle.std.specs.Prelude.{ℕ, Bool, List, [], ◌∷◌, ◌==◌, take, count_by, if◌then◌else◌}
use Rattle.std.specs.List.{onto_first, list_any}

abbrev pub is_feed : ℕ → Bool
is_feed b = b == 10

-- A line ends at a line feed or at the end. Nothing stands after a last line feed.
abbrev pub lines : List ℕ → List (List ℕ)
lines [] = []
lines (b ∷ bytes) = if is_feed b then [] ∷ lines bytes else onto_first b (lines bytes)

-- the lines that end at a line feed: as many first lines as there are line feeds
abbrev pub ended : List ℕ → List (List ℕ)
ended bytes = take (count_by is_feed bytes) (lines bytes)

-- what follows the last line feed, or all where there is none
abbrev pub rest_of : List ℕ → List ℕ
rest_of [] = []
rest_of (b ∷ bytes) = if list_any is_feed (b ∷ bytes) then rest_of bytes else b ∷ bytes

-- the last line, where bytes stand after the last line feed
abbrev pub last_of : List ℕ → List (List ℕ)
last_of [] = []
last_of (b ∷ bytes) = (b ∷ bytes) ∷ []
