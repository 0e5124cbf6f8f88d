-- Lines go on over the seams of pieces.
use Rattle.std.proofs.Common.{◌≡◌, get_or, ℕ, ◌+◌, ◌-◌, ◌<◌, ◌≤◌, Bool, true, false, cond, ◌||◌, List, [], ◌∷◌, ◌++◌, length, take, drop, map, count_by, refl, ap, sym, ◌∙◌, arith, eqb, append_assoc, append-nil, not, zero, suc, add-one, one-add}
use Rattle.std.specs.Prelude.{Option, Some, None, MatchOption}
use Rattle.std.specs.Borrow.{Bor}
use Rattle.std.specs.List.{prefix_len, onto_first, list_any}
use Rattle.std.proofs.lemmas.List.{take_rest, take_more, take-append-drop, length-append}
use Rattle.std.proofs.lemmas.List.Recursion.{is_count_by}
use Rattle.std.proofs.Math.Seq.{take-append_seam}
use Rattle.cf_io.specs.Cut.{line_of, Keeps, Stands, CutterState, room_behind}
use Rattle.cf_io.specs.Lines.{is_feed, lines, ended, rest_of, last_of}
use Rattle.cf_io.specs.Segments.{ended_from, rest_from, is_in_line}
use Rattle.cf_io.specs.declared.line.Line.{Line}

pub rest_from-append : (line s t : List ℕ) → rest_from line (s ++ t) ≡ rest_from (rest_from line s) t
rest_from-append line [] t = refl
rest_from-append line (b ∷ s) t = elim (eqb b 10) as
    (λ v. cond v (rest_from [] (s ++ t)) (rest_from (line ++ b ∷ []) (s ++ t)) ≡ rest_from (cond v (rest_from [] s) (rest_from (line ++ b ∷ []) s)) t)
    [ true ↦ rest_from-append [] s t | false ↦ rest_from-append (line ++ b ∷ []) s t ]

pub ended_from-append : (line s t : List ℕ) → ended_from line (s ++ t) ≡ ended_from line s ++ ended_from (rest_from line s) t
ended_from-append line [] t = refl
ended_from-append line (b ∷ s) t = elim (eqb b 10) as
    (λ v. cond v (line ∷ ended_from [] (s ++ t)) (ended_from (line ++ b ∷ []) (s ++ t)) ≡ cond v (line ∷ ended_from [] s) (ended_from (line ++ b ∷ []) s) ++
    ended_from (cond v (rest_from [] s) (rest_from (line ++ b ∷ []) s)) t)
    [ true ↦ ap (λ x. line ∷ x) (ended_from-append [] s t) | false ↦ ended_from-append (line ++ b ∷ []) s t ]

-- a line's bytes, then a line feed
cut_by : (v : Bool) (line : List ℕ) (b : ℕ) (s : List ℕ) →
    (prefix_len is_in_line s < length s → ended_from (line ++ b ∷ []) s ≡ ((line ++ b ∷ []) ++ take (prefix_len is_in_line s) s) ∷ ended_from []
    (drop (prefix_len is_in_line s + 1) s)) →
    cond (not v) (1 + prefix_len is_in_line s) 0 < length (b ∷ s) →
    cond v (line ∷ ended_from [] s) (ended_from (line ++ b ∷ []) s) ≡
    (line ++ take (cond (not v) (1 + prefix_len is_in_line s) 0) (b ∷ s)) ∷ ended_from [] (drop (cond (not v) (1 + prefix_len is_in_line s) 0 + 1) (b ∷ s))
cut_by true line b s next h = rw append-nil refl
cut_by false line b s next h = rw (one-add, add-one) (next (omega arith) ∙ rw (append_assoc, add-one) refl)

pub ended_from-cut : (line s : List ℕ) → prefix_len is_in_line s < length s →
    ended_from line s ≡ (line ++ take (prefix_len is_in_line s) s) ∷ ended_from [] (drop (prefix_len is_in_line s + 1) s)
ended_from-cut line [] h = absurd (omega arith)
ended_from-cut line (b ∷ s) h = cut_by (eqb b 10) line b s (ended_from-cut (line ++ b ∷ []) s) h

none_by : (v : Bool) (line : List ℕ) (b : ℕ) (s : List ℕ) → (prefix_len is_in_line s ≡ length s → ended_from (line ++ b ∷ []) s ≡ []) →
    cond (not v) (1 + prefix_len is_in_line s) 0 ≡ length (b ∷ s) → cond v (line ∷ ended_from [] s) (ended_from (line ++ b ∷ []) s) ≡ []
none_by true line b s next h = absurd (omega arith)
none_by false line b s next h = next (omega arith)

pub ended_from-none : (line s : List ℕ) → prefix_len is_in_line s ≡ length s → ended_from line s ≡ []
ended_from-none line [] h = refl
ended_from-none line (b ∷ s) h = none_by (eqb b 10) line b s (ended_from-none (line ++ b ∷ []) s) h

pub take_none : (n : ℕ) → take {A = ℕ} n [] ≡ []
take_none zero = refl
take_none (suc n) = refl

-- the front of a longer list
pub take-append : (n : ℕ) (s t : List ℕ) → take n (s ++ t) ≡ take n s ++ take (n - length s) t
take-append n [] t = let e : n - 0 ≡ n = omega arith in rw (take_none n, e) refl
take-append zero (b ∷ s) t = let e : 0 - suc (length s) ≡ 0 = omega arith in rw e refl
take-append (suc n) (b ∷ s) t = let e : suc n - suc (length s) ≡ n - length s = omega arith in rw e (ap (λ x. b ∷ x) (take-append n s t))

-- lines behind a beginning
abbrev prepend : List ℕ → List (List ℕ) → List (List ℕ)
prepend line [] = last_of line
prepend line (l ∷ ls) = (line ++ l) ∷ ls

prepend_none : (ls : List (List ℕ)) → prepend [] ls ≡ ls
prepend_none [] = refl
prepend_none (l ∷ ls) = refl

prepend-onto : (line : List ℕ) (b : ℕ) (ls : List (List ℕ)) → prepend line (onto_first b ls) ≡ prepend (line ++ b ∷ []) ls
prepend-onto [] b [] = refl
prepend-onto (x ∷ line) b [] = refl
prepend-onto line b (l ∷ ls) = rw append_assoc refl

lines_from : (line s : List ℕ) → prepend line (lines s) ≡ ended_from line s ++ last_of (rest_from line s)
lines_from line [] = refl
lines_from line (b ∷ s) = by (eqb b 10) line b s (lines_from [] s) (lines_from (line ++ b ∷ []) s)
  where
    by : (v : Bool) (line : List ℕ) (b : ℕ) (s : List ℕ) → prepend [] (lines s) ≡ ended_from [] s ++ last_of (rest_from [] s) →
        prepend (line ++ b ∷ []) (lines s) ≡ ended_from (line ++ b ∷ []) s ++ last_of (rest_from (line ++ b ∷ []) s) →
        prepend line (cond v ([] ∷ lines s) (onto_first b (lines s))) ≡ cond v (line ∷ ended_from [] s) (ended_from (line ++ b ∷ []) s) ++ last_of
        (cond v (rest_from [] s) (rest_from (line ++ b ∷ []) s))
    by true line b s none some = rw append-nil (ap (λ x. line ∷ x) (sym (prepend_none (lines s)) ∙ none))
    by false line b s none some = prepend-onto line b (lines s) ∙ some

lines_split : (s : List ℕ) → lines s ≡ ended_from [] s ++ last_of (rest_from [] s)
lines_split s = sym (prepend_none (lines s)) ∙ lines_from [] s

-- how many lines end does not depend on the beginning of the first
length-ended_from : (line other s : List ℕ) → length (ended_from line s) ≡ length (ended_from other s)
length-ended_from line other [] = refl
length-ended_from line other (b ∷ s) = elim (eqb b 10) as
    (λ v. length (cond v (line ∷ ended_from [] s) (ended_from (line ++ b ∷ []) s)) ≡ length (cond v (other ∷ ended_from [] s) (ended_from (other ++ b ∷ []) s)))
    [ true ↦ refl | false ↦ length-ended_from (line ++ b ∷ []) (other ++ b ∷ []) s ]

feeds_by : (v : Bool) (b : ℕ) (s : List ℕ) →
    length (cond v ([] ∷ ended_from [] s) (ended_from (b ∷ []) s)) ≡ cond v (1 + length (ended_from [] s)) (length (ended_from [] s))
feeds_by true b s = omega arith
feeds_by false b s = length-ended_from (b ∷ []) [] s

feeds : (s : List ℕ) → length (ended_from [] s) ≡ count_by is_feed s
feeds s = is_count_by (λ t. length (ended_from [] t)) is_feed refl (λ b t. feeds_by (eqb b 10) b t) s

pub ended-is : (s : List ℕ) → ended s ≡ ended_from [] s
ended-is s = rw (lines_split s, ← feeds s) (take-append_seam (ended_from [] s) (last_of (rest_from [] s)))

pub ended_split : (text : List ℕ) (o : Option (Bor (List ℕ) × Bor (List ℕ))) →
    MatchOption o ((w : List ℕ) → ended_from w text ≡ []) (λ x. (w : List ℕ) → ended_from w text ≡ (w ++ x.0.now) ∷ ended_from [] x.1.now) →
    MatchOption o (ended text ≡ []) (λ x. ended text ≡ x.0.now ∷ ended x.1.now)
ended_split text None h = ended-is text ∙ h []
ended_split text (Some x) h = rw (ended-is text, ended-is x.1.now) (h [])

rest_none : (s : List ℕ) → list_any is_feed s ≡ false → rest_of s ≡ s
rest_none [] e = refl
rest_none (b ∷ s) e = rw e refl

rest_by : (v w : Bool) (line : List ℕ) (b : ℕ) (s : List ℕ) → (w ≡ false → rest_of s ≡ s) →
    rest_from [] s ≡ cond w (rest_of s) s → rest_from (line ++ b ∷ []) s ≡ cond w (rest_of s) ((line ++ b ∷ []) ++ s) →
    cond v (rest_from [] s) (rest_from (line ++ b ∷ []) s) ≡ cond (v || w) (cond (v || w) (rest_of s) (b ∷ s)) (line ++ b ∷ s)
rest_by true true line b s all none some = none
rest_by true false line b s all none some = none ∙ sym (all refl)
rest_by false true line b s all none some = some
rest_by false false line b s all none some = some ∙ append_assoc line (b ∷ []) s

rest_from-is : (line s : List ℕ) → rest_from line s ≡ cond (list_any is_feed s) (rest_of s) (line ++ s)
rest_from-is line [] = sym (append-nil line)
rest_from-is line (b ∷ s) = rest_by (eqb b 10) (list_any is_feed s) line b s (rest_none s) (rest_from-is [] s) (rest_from-is (line ++ b ∷ []) s)

rest_same : (v : Bool) (s : List ℕ) → (v ≡ false → rest_of s ≡ s) → rest_of s ≡ cond v (rest_of s) s
rest_same true s all = refl
rest_same false s all = all refl

pub rest_of-is : (s : List ℕ) → rest_of s ≡ rest_from [] s
rest_of-is s = rest_same (list_any is_feed s) s (rest_none s) ∙ sym (rest_from-is [] s)

pub rest_of-append : (s t : List ℕ) → rest_of (s ++ t) ≡ rest_from (rest_of s) t
rest_of-append s t = rest_of-is (s ++ t) ∙ rest_from-append [] s t ∙ ap (λ r. rest_from r t) (sym (rest_of-is s))

-- the lines are the ended ones, and a last one without its end
pub lines-is : (bytes : List ℕ) → lines bytes ≡ ended bytes ++ last_of (rest_of bytes)
lines-is bytes = rw (ended-is bytes, rest_of-is bytes) (lines_split bytes)

-- a last line begins behind a line feed
pub rest_from-feed : (line s t : List ℕ) → ((w : List ℕ) → rest_from w t ≡ w ++ t) → rest_from line ((s ++ 10 ∷ []) ++ t) ≡ t
rest_from-feed line s t h = rw (rest_from-append line (s ++ 10 ∷ []) t, rest_from-append line s (10 ∷ [])) (h [])

rest_from-last_by : (piece : List ℕ) (i at : ℕ) → at ≡ i + 1 → i < length piece → get_or piece i 0 ≡ 10 →
    ((w : List ℕ) → rest_from w (drop at piece) ≡ w ++ drop at piece) → (w : List ℕ) → rest_from w piece ≡ drop at piece
rest_from-last_by piece i at is fits feed none w =
    let split : piece ≡ (take i piece ++ 10 ∷ []) ++ drop at piece =
    sym (take-append-drop at piece) ∙ rw is (rw (take_more piece i 0 fits, feed) refl) in
    ap (rest_from w) split ∙ rest_from-feed w (take i piece) (drop at piece) none

pub rest_from-last : (piece : List ℕ) (at : ℕ) → 0 < at → at ≤ length piece → get_or piece (at - 1) 0 ≡ 10 →
    ((w : List ℕ) → rest_from w (drop at piece) ≡ w ++ drop at piece) → (w : List ℕ) → rest_from w piece ≡ drop at piece
rest_from-last piece at some fits feed none = rest_from-last_by piece (at - 1) at (omega arith) (omega arith) feed none

pub Keeps-none : (limit : ℕ) → Keeps limit [] 0 []
Keeps-none limit = record { front = sym (take_none limit); whole = refl }

-- the first line that ends, and those behind it
pub line_cut : (w rest : List ℕ) (n : ℕ) → n ≡ prefix_len is_in_line rest → n < length rest →
    ended_from w rest ≡ (w ++ take n rest) ∷ ended_from [] (take (length rest - (n + 1)) (drop (n + 1) rest))
line_cut w rest n is fits =
    let h : prefix_len is_in_line rest < length rest = omega arith in
    rw (take_rest rest (n + 1), is, ended_from-cut w rest h) refl

pub line_none : (w rest : List ℕ) (n : ℕ) → n ≡ prefix_len is_in_line rest → n ≤ length rest → length rest ≤ n → ended_from w rest ≡ []
line_none w rest n is few many =
    let h : prefix_len is_in_line rest ≡ length rest = omega arith in
    ended_from-none w rest h

-- the same of the lines as they are told
pub told_cut : (limit : ℕ) (w rest line more : List ℕ) (l : Line) (before : List Line) → ended_from w rest ≡ (w ++ line) ∷ ended_from [] more →
    l ≡ line_of limit (w ++ line) →
    (before ++ l ∷ []) ++ map (line_of limit) (ended_from [] more) ≡ before ++ map (line_of limit) (ended_from w rest)
told_cut limit w rest line more l before cut is = rw (append_assoc, cut, is) refl

-- the room that is left behind one more piece
room-behind : (most : Option ℕ) (before more : ℕ) → room_behind (room_behind most before) more ≡ room_behind most (before + more)
room-behind None before more = refl
room-behind (Some most) before more = ap Some (omega arith)

pub Stands-more : {limit : ℕ} {most : Option ℕ} {c : CutterState} {bytes : List ℕ} (piece kept : List ℕ) (size : ℕ) (room : Option ℕ) →
    Stands limit most c bytes → room ≡ room_behind c.room (length piece) → Keeps limit kept size (rest_from (rest_of bytes) piece) →
    Stands limit most (record { kept = kept; length_so_far = size; room = room }) (bytes ++ piece)
Stands-more {most = most} {bytes = bytes} piece kept size room s is k = record {
  room = is ∙ ap (λ r. room_behind r (length piece)) s.room ∙ room-behind most (length bytes) (length piece) ∙
      ap (room_behind most) (sym (length-append bytes piece));
  line = rw (rest_of-append bytes piece) k;
}
