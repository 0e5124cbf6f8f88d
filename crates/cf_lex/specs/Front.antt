-- The piece at the front of a text.
use Rattle.std.specs.Prelude.{ℕ, ◌+◌, ◌<◌, ◌≤◌, List, [], ◌∷◌, ◌==◌, if◌then◌else◌}
use Rattle.std.specs.List.{prefix_len}
use Rattle.cf_lex.specs.Bytes.{is_white, is_digit, is_letter, is_in_word, is_in_comment, is_short_sign, is_long_sign, is_longest_sign}
use Rattle.cf_tree.specs.declared.base.Edition.{Edition}
use Rattle.cf_tree.specs.declared.base.Edition.TheVariants.{Two, Three}
use Rattle.cf_lex.specs.declared.front.Piece.{Piece}
use Rattle.cf_lex.specs.declared.front.Piece.TheVariants.{Skip, Literal, Word, Sign, Bad}

-- the longest sign that begins with a sign of these two bytes
abbrev pub long_of : Edition → ℕ → ℕ → List ℕ → Piece
long_of Two first second more = Sign 2
long_of Three first second [] = Sign 2
long_of Three first second (third ∷ _) = if is_longest_sign first second third then Sign 3 else Sign 2

-- the longest sign
abbrev pub sign_of : Edition → ℕ → List ℕ → Piece
sign_of edition first [] = if is_short_sign first then Sign 1 else Bad
sign_of edition first (second ∷ more) =
    if is_long_sign first second then long_of edition first second more else (if is_short_sign first then Sign 1 else Bad)

-- a piece, by its number of bytes: each run is the longest
abbrev pub front_of : Edition → ℕ → List ℕ → Piece
front_of edition first rest =
    if is_white first then Skip 1
    else (if first == 35 then Skip (1 + prefix_len is_in_comment rest)
    else (if is_digit first then Literal (1 + prefix_len is_digit rest)
    else (if is_letter first then Word (1 + prefix_len is_in_word rest)
    else sign_of edition first rest)))

-- the piece has some of so many bytes
abbrev pub IsWithin : ℕ → Piece → Type 0
IsWithin len (Skip n) = (0 < n) × (n ≤ len)
IsWithin len (Literal n) = (0 < n) × (n ≤ len)
IsWithin len (Word n) = (0 < n) × (n ≤ len)
IsWithin len (Sign n) = (0 < n) × (n ≤ len)
IsWithin len Bad = Unit {0}
