-- Which lines some bytes have, which of them have ended, and what a Cutter tells of them.
use Rattle.std.proofs.Common.{◌≡◌, ℕ, true, false, List, [], ◌∷◌, length, Option, Some, None, refl, ap, arith, codes}
use Rattle.cf_io.specs.Cut.{line_of, within, room_behind, CutterState, Keeps, Stands, told, new_lines}
use Rattle.cf_io.specs.Lines.{is_feed, lines, ended, rest_of, last_of}
use Rattle.cf_io.specs.Segments.{ended_from, rest_from, is_in_line}
use Rattle.cf_io.specs.declared.line.Line.TheVariants.{Text, TooLong}

feed-alone : (is_feed 10 ≡ true) × (is_feed 13 ≡ false) × (is_feed 9 ≡ false) × (is_feed 11 ≡ false)
feed-alone = (refl, refl, refl, refl)

-- ---- lines
two-lines : lines (codes "a\nbc") ≡ codes "a" ∷ codes "bc" ∷ []
two-lines = refl

-- nothing stands behind a last line feed
none-behind : lines (codes "a\n") ≡ codes "a" ∷ []
none-behind = refl

empty-lines : lines (codes "\n\na\r\n") ≡ [] ∷ [] ∷ codes "a\r" ∷ []
empty-lines = refl

no-line : lines [] ≡ []
no-line = refl

-- ---- lines that have ended
last-unended : ended (codes "a\nb\nc") ≡ codes "a" ∷ codes "b" ∷ []
last-unended = refl

all-ended : ended (codes "a\n\n") ≡ codes "a" ∷ [] ∷ []
all-ended = refl

none-ended : ended (codes "ab") ≡ []
none-ended = refl

-- ---- what follows the last line feed
rest-behind : (rest_of (codes "a\nb\ncd") ≡ codes "cd") × (rest_of (codes "a\n") ≡ []) × (rest_of (codes "ab") ≡ codes "ab")
rest-behind = (refl, refl, refl)

last-line : (last_of (codes "cd") ≡ codes "cd" ∷ []) × (last_of [] ≡ [])
last-line = (refl, refl)

-- ---- a line that goes on from a piece before
line-goes_on : (ended_from (codes "a") (codes "b\nc\nd") ≡ codes "ab" ∷ codes "c" ∷ []) × (rest_from (codes "a") (codes "b\nc\nd") ≡ codes "d")
    × (rest_from (codes "a") (codes "b") ≡ codes "ab")
line-goes_on = (refl, refl, refl)

in-line : (is_in_line 10 ≡ false) × (is_in_line 13 ≡ true)
in-line = (refl, refl)

-- ---- lines as they are told
within-limit : (line_of 3 (codes "abc") ≡ Text (codes "abc")) × (line_of 3 (codes "abcd") ≡ TooLong)
within-limit = (refl, refl)

-- ---- a limit of the input, or none
front-within : (within (Some 2) (codes "abc") ≡ codes "ab") × (within (Some 4) (codes "abc") ≡ codes "abc") × (within None (codes "abc") ≡ codes "abc")
front-within = (refl, refl, refl)

room-behind_bytes : (room_behind (Some 5) 3 ≡ Some 2) × (room_behind (Some 5) 6 ≡ Some 0) × (room_behind None 6 ≡ None)
room-behind_bytes = (refl, refl, refl)

-- of the first five bytes the second line has not ended; of the first six it has, and without a limit the third too
told-of_front : (told 2 (Some 5) (codes "a\nbcd\ne\n") ≡ Text (codes "a") ∷ []) × (told 2 (Some 6) (codes "a\nbcd\ne\n") ≡ Text (codes "a") ∷ TooLong ∷ [])
    × (told 2 None (codes "a\nbcd\ne\n") ≡ Text (codes "a") ∷ TooLong ∷ Text (codes "e") ∷ [])
told-of_front = (refl, refl, refl)

new-lines : (new_lines 2 (Some 9) (codes "a\nb") (codes "c\nd\ne") ≡ Text (codes "bc") ∷ Text (codes "d") ∷ [])
    × (new_lines 2 None (codes "a\nb") (codes "c\nd\ne") ≡ Text (codes "bc") ∷ Text (codes "d") ∷ [])
new-lines = (refl, refl)

-- ---- a Cutter with a limit of 2, behind "x\nabc" of an input of at most 9
abbrev state : List ℕ → ℕ → Option ℕ → CutterState
state kept size room = record { kept = kept; length_so_far = size; room = room }

stands-behind : Stands 2 (Some 9) (state (codes "ab") 3 (Some 4)) (codes "x\nabc")
stands-behind = record { room = refl; line = record { front = refl; whole = omega arith } }

stands-without_limit : Stands 2 None (state (codes "ab") 3 None) (codes "x\nabc")
stands-without_limit = record { room = refl; line = record { front = refl; whole = omega arith } }

keeps-a_front : Stands 2 (Some 9) (state (codes "abc") 3 (Some 4)) (codes "x\nabc") → ⊥
keeps-a_front h = let e : 3 ≡ 2 = ap length h.line.front in omega (arith, e)

counts-the_line : Stands 2 (Some 9) (state (codes "ab") 2 (Some 4)) (codes "x\nabc") → ⊥
counts-the_line h = omega (arith, h.line.whole)

-- a count stays at its last value
counts-no_more : (line : List ℕ) → length line ≡ 18446744073709551616 → Keeps 0 [] 18446744073709551615 line
counts-no_more line e = record { front = refl; whole = omega (arith, e) }

abbrev count_of : Option ℕ → ℕ
count_of None = 0
count_of (Some n) = n

counts-all_bytes : Stands 2 (Some 9) (state (codes "ab") 3 (Some 6)) (codes "x\nabc") → ⊥
counts-all_bytes h = let e : 6 ≡ 4 = ap count_of h.room in omega (arith, e)
