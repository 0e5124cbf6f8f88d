-- The line of a place, and the line below it with a caret under the place.
use Rattle.std.specs.Prelude.{ℕ, ◌-◌, nat_le, nat_lt, Bool, not, ◌&&◌, ◌||◌, ◌==◌, List, [], ◌∷◌, length, map, flat_map, take, drop, codes, if◌then◌else◌}
use Rattle.std.specs.List.{concat, prefix_len}
use Rattle.cf_tree.specs.declared.base.Place.{Place}

abbrev pub same_place : Place → Place → Bool
same_place p q = (p.line == q.line) && (p.column == q.column)

-- The most bytes of a line that is shown.
abbrev pub most_shown : ℕ
most_shown = 200

-- all but the line feed
abbrev pub is_in_line : ℕ → Bool
is_in_line b = not (b == 10)

-- the bytes behind so many line feeds
abbrev pub behind_lines : ℕ → List ℕ → List ℕ
behind_lines n [] = []
behind_lines n (b ∷ bytes) = if n == 0 then b ∷ bytes else behind_lines (if b == 10 then n - 1 else n) bytes

-- the bytes before the next line feed
abbrev pub before_feed : List ℕ → List ℕ
before_feed bytes = take (prefix_len is_in_line bytes) bytes

-- the line of a place, without its line feed
abbrev pub line_of : List ℕ → Place → List ℕ
line_of text p = before_feed (behind_lines (p.line - 1) text)

-- the bytes from a place on
abbrev pub bytes_at : List ℕ → Place → List ℕ
bytes_at text p = drop (p.column - 1) (behind_lines (p.line - 1) text)

-- without one carriage return at the end
abbrev pub without_return : List ℕ → List ℕ
without_return [] = []
without_return (b ∷ []) = if b == 13 then [] else b ∷ []
without_return (b ∷ c ∷ bytes) = b ∷ without_return (c ∷ bytes)

-- a byte as it is shown: `?` for the bytes below 32, but for the tab, and for 127
abbrev pub shown_byte : ℕ → ℕ
shown_byte b = if nat_lt b 32 && not (b == 9) || b == 127 then 63 else b

abbrev pub shown : List ℕ → List ℕ
shown bytes = map shown_byte bytes

-- what stands below a byte: a tab below a tab, nothing below one that goes on with a character, and else a space
abbrev pub below : ℕ → List ℕ
below b = if b == 9 then b ∷ [] else (if nat_le 128 b && nat_le b 191 then [] else codes " ")

abbrev pub caret_line : List ℕ → Place → List ℕ
caret_line line p = concat (flat_map below (take (p.column - 1) line) ∷ codes "^" ∷ [])

abbrev pub is_shown : List ℕ → Bool
is_shown row = nat_lt 0 (length row) && nat_le (length row) most_shown

-- the line of a place and the caret line, each with its line feed; neither where the line is empty or too long
abbrev pub source_lines : List ℕ → Place → List ℕ
source_lines text p =
    if is_shown (without_return (line_of text p))
    then concat (shown (without_return (line_of text p)) ∷ codes "\n" ∷ caret_line (line_of text p) p ∷ codes "\n" ∷ [])
    else []
