-- What a loop over feeds needs: the lines told so far, and at the end all lines.
use Rattle.std.proofs.Common.{◌≡◌, ◌⊎◌, inl, inr, ℕ, ◌-◌, ◌<◌, ◌≤◌, List, [], ◌++◌, length, take, drop, map, Option, Some, None, ap, sym, ◌∙◌, arith, refl, append-nil}
use Rattle.std.proofs.lemmas.List.{take_all, map-append, take-append-le}
use Rattle.std.proofs.lemmas.Bool.{cases_lt}
use Rattle.std.proofs.Math.Seq.{drop-append_seam}
use Rattle.cf_io.specs.Cut.{within, room_behind, told, new_lines, line_of}
use Rattle.cf_io.specs.Limits.{IsWithin}
use Rattle.cf_io.specs.Lines.{lines, ended, rest_of, last_of}
use Rattle.cf_io.specs.Segments.{ended_from, rest_from}
use Rattle.cf_io.proofs.LineLemmas.{ended-is, rest_of-is, lines-is, ended_from-append, take-append}

taken_by : (most : ℕ) (bytes piece : List ℕ) → (most < length bytes) ⊎ (length bytes ≤ most) →
    ended_from [] (take most (bytes ++ piece)) ≡ ended_from [] (take most bytes) ++ ended_from (rest_from [] bytes) (take (most - length bytes) piece)
taken_by most bytes piece (inl h) =
    let none : most - length bytes ≡ 0 = omega arith in
    let few : most ≤ length bytes = omega arith in
    rw (none, take-append-le most bytes piece few) (sym (append-nil (ended_from [] (take most bytes))))
taken_by most bytes piece (inr h) =
    rw (take-append most bytes piece, take_all most bytes h) (ended_from-append [] bytes (take (most - length bytes) piece))

ended_by : (most : Option ℕ) (bytes piece : List ℕ) →
    ended_from [] (within most (bytes ++ piece)) ≡
    ended_from [] (within most bytes) ++ ended_from (rest_from [] bytes) (within (room_behind most (length bytes)) piece)
ended_by None bytes piece = ended_from-append [] bytes piece
ended_by (Some most) bytes piece = taken_by most bytes piece (cases_lt most (length bytes))

told_more : (limit : ℕ) (most : Option ℕ) (bytes piece : List ℕ) →
    told limit most (bytes ++ piece) ≡
    told limit most bytes ++ map (line_of limit) (ended_from (rest_of bytes) (within (room_behind most (length bytes)) piece))
told_more limit most bytes piece =
    rw (ended-is (within most (bytes ++ piece)), ended-is (within most bytes), rest_of-is bytes, ended_by most bytes piece)
    (map-append (line_of limit) (ended_from [] (within most bytes)) (ended_from (rest_from [] bytes) (within (room_behind most (length bytes)) piece)))

new_lines-is : (limit : ℕ) (most : Option ℕ) (bytes piece : List ℕ) →
    new_lines limit most bytes piece ≡ map (line_of limit) (ended_from (rest_of bytes) (within (room_behind most (length bytes)) piece))
new_lines-is limit most bytes piece =
    ap (drop (length (told limit most bytes))) (told_more limit most bytes piece)
    ∙ drop-append_seam (told limit most bytes) (map (line_of limit) (ended_from (rest_of bytes) (within (room_behind most (length bytes)) piece)))

pub lines_found : (limit : ℕ) (most room : Option ℕ) (bytes piece : List ℕ) → room ≡ room_behind most (length bytes) →
    map (line_of limit) (ended_from (rest_of bytes) (within room piece)) ≡ new_lines limit most bytes piece
lines_found limit most room bytes piece is = rw is (sym (new_lines-is limit most bytes piece))

-- the lines told so far, and those of one more piece
pub lines_told : (limit : ℕ) (most : Option ℕ) (bytes piece : List ℕ) →
    told limit most (bytes ++ piece) ≡ told limit most bytes ++ new_lines limit most bytes piece
lines_told limit most bytes piece =
    told_more limit most bytes piece ∙ ap (λ more. told limit most bytes ++ more) (sym (new_lines-is limit most bytes piece))

-- a text with no more bytes than a limit lies within it
pub within_all : (most : Option ℕ) (bytes : List ℕ) → IsWithin most (length bytes) → within most bytes ≡ bytes
within_all None bytes few = refl
within_all (Some most) bytes few = take_all most bytes few

-- within the limit of the input these are all lines that ended
pub told_within : (limit : ℕ) (most : Option ℕ) (bytes : List ℕ) → IsWithin most (length bytes) → told limit most bytes ≡ map (line_of limit) (ended bytes)
told_within limit most bytes few = ap (λ s. map (line_of limit) (ended s)) (within_all most bytes few)

-- with the last line they are all lines of the bytes
pub told_whole : (limit : ℕ) (most : Option ℕ) (bytes : List ℕ) → IsWithin most (length bytes) →
    told limit most bytes ++ map (line_of limit) (last_of (rest_of bytes)) ≡ map (line_of limit) (lines bytes)
told_whole limit most bytes few =
    ap (λ front. front ++ map (line_of limit) (last_of (rest_of bytes))) (told_within limit most bytes few)
    ∙ sym (ap (map (line_of limit)) (lines-is bytes) ∙ map-append (line_of limit) (ended bytes) (last_of (rest_of bytes)))
