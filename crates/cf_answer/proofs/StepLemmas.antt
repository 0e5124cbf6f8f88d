-- From one piece of the input to the next.
use Rattle.std.proofs.Common.{◌≡◌, inl, inr, ◌∙◌, sym, ap, subst, refl, ℕ, ◌+◌, ◌-◌, ◌≤◌, ◌<◌, true, false, List, [], ◌++◌, length, map, take, Option, Some, None, arith, append_assoc, append-nil, length-append}
use Rattle.std.proofs.lemmas.Bool.{cases_lt}
use Rattle.std.proofs.lemmas.Bool.Decides.{nat_tests}
use Rattle.std.specs.Prelude.{◌⊎◌, Result, Ok, Err, OnOk, OnErr, IfErr}
use Rattle.std.specs.Io.KnownBytes.{Consumes, Keeps, IsAtEnd}
use Rattle.std.proofs.KnownBytes.{Appends-nil, Consumes-nil, Consumes-trans, Consumes-kept}
use Rattle.cf_io.specs.Cut.{CutterState, Stands, told, new_lines, line_of, within}
use Rattle.cf_io.specs.Lines.{lines, ended, rest_of, last_of}
use Rattle.cf_io.specs.Limits.{line_limit, is_within, IsWithin, IsPast}
use Rattle.cf_io.specs.Segments.{ended_from, rest_from}
use Rattle.cf_io.specs.declared.line.Line.{Line}
use Rattle.cf_io.proofs.FeedLemmas.{lines_told, told_within, told_whole, within_all}
use Rattle.cf_io.proofs.LineLemmas.{ended-is, ended_from-append, lines-is, take_none, take-append}
use Rattle.cf_answer.specs.Ends.{answered_lines}
use Rattle.cf_answer.specs.Outside.{AreTold, one_past}
use Rattle.cf_answer.specs.Owed.{Replier}
use Rattle.cf_answer.specs.Steps.{TookLines, TookSomeLines, TookSome, IsAnswered, IsOutFault, IsReadTo, Runs, RunsOn}
use Rattle.cf_answer.specs.declared.fault.Fault.{Fault}
use Rattle.cf_answer.specs.declared.fault.Fault.TheVariants as fault
use Rattle.cf_answer.proofs.ReplyLemmas.{took_none, took_more, took_some_more, replies_of_took, some_of_took}

-- ---- a limit of the input, or none
pub within_past : (most : Option ℕ) (count : ℕ) → IsWithin most count → IsWithin (one_past most) count
within_past None count few = tt
within_past (Some most) count few = omega (arith, few)

less_within : (most : Option ℕ) (count more : ℕ) → count ≤ more → IsWithin most more → IsWithin most count
less_within None count more less few = tt
less_within (Some most) count more less few = omega (arith, less, few)

before_past : (most : Option ℕ) (count more : ℕ) → 0 < more → IsWithin (one_past most) (count + more) → IsWithin most count
before_past None count more some few = tt
before_past (Some most) count more some few = omega (arith, some, few)

within_or_past : (most : Option ℕ) (count : ℕ) → IsPast most count ⊎ IsWithin most count
within_or_past None count = inr tt
within_or_past (Some most) count = cases_lt most count

pub test_within : (most : Option ℕ) (count : ℕ) → IsWithin most count → is_within most count ≡ true
test_within None count few = refl
test_within (Some most) count few = grind (arith, nat_tests, few)

test_past : (most : Option ℕ) (count : ℕ) → IsPast most count → is_within most count ≡ false
test_past None count many = absurd many
test_past (Some most) count many = grind (arith, nat_tests, many)

-- what lies within it of the first bytes is the first of what lies within it
within_front : (most : Option ℕ) (front rest : List ℕ) → (more : List ℕ) × (within most (front ++ rest) ≡ within most front ++ more)
within_front None front rest = (rest, refl)
within_front (Some most) front rest = (take (most - length front) rest, take-append most front rest)

within_nothing : (most : Option ℕ) → within most [] ≡ []
within_nothing None = refl
within_nothing (Some most) = take_none most

-- ---- pieces
-- the lines of a piece were answered
pub answered_more : (t : Replier) (most : Option ℕ) (before behind : CutterState) (bytes piece : List ℕ) (none ls : List Line) (a b c : Option (List ℕ)) →
    IsAnswered t most before bytes a b →
    Stands line_limit most behind (bytes ++ piece) → none ≡ [] → ls ≡ none ++ new_lines line_limit most bytes piece → TookLines t ls b c →
    IsAnswered t most behind (bytes ++ piece) a c
answered_more t most before behind bytes piece none ls a b c h stands empty is took = record {
  stands = stands;
  took = rw (lines_told line_limit most bytes piece)
      (took_more t (told line_limit most bytes) (new_lines line_limit most bytes piece) a b c h.took
      (subst (λ v. TookLines t v b c) (is ∙ ap (λ v. v ++ new_lines line_limit most bytes piece) empty) took));
}

-- some of them were
pub answered_some : (t : Replier) (most : Option ℕ) (before : CutterState) (bytes piece : List ℕ) (none ls : List Line) (a b c : Option (List ℕ)) →
    IsAnswered t most before bytes a b →
    none ≡ [] → ls ≡ none ++ new_lines line_limit most bytes piece → TookSomeLines t ls b c →
    TookSomeLines t (told line_limit most (bytes ++ piece)) a c
answered_some t most before bytes piece none ls a b c h empty is took =
    rw (lines_told line_limit most bytes piece)
    (took_some_more t (told line_limit most bytes) (new_lines line_limit most bytes piece) a b c h.took
    (subst (λ v. TookSomeLines t v b c) (is ∙ ap (λ v. v ++ new_lines line_limit most bytes piece) empty) took))

-- none was
pub answered_none : (t : Replier) (most : Option ℕ) (before : CutterState) (bytes piece : List ℕ) (a b : Option (List ℕ)) →
    IsAnswered t most before bytes a b → TookSomeLines t (told line_limit most (bytes ++ piece)) a b
answered_none t most before bytes piece a b h =
    answered_some t most before bytes piece [] (new_lines line_limit most bytes piece) a b b h refl refl
    (took_none t (new_lines line_limit most bytes piece) b)

-- the last line was answered
pub rest_all : (t : Replier) (most : Option ℕ) (cutter : CutterState) (bytes : List ℕ) (none ls : List Line) (a b c : Option (List ℕ)) →
    IsAnswered t most cutter bytes a b → IsWithin most (length bytes) →
    none ≡ [] → ls ≡ none ++ map (line_of line_limit) (last_of (rest_of bytes)) → TookLines t ls b c → TookLines t (map (line_of line_limit) (lines bytes)) a c
rest_all t most cutter bytes none ls a b c h few empty is took =
    subst (λ v. TookLines t v a c) (told_whole line_limit most bytes few)
    (took_more t (told line_limit most bytes) (map (line_of line_limit) (last_of (rest_of bytes))) a b c h.took
    (subst (λ v. TookLines t v b c) (is ∙ ap (λ v. v ++ map (line_of line_limit) (last_of (rest_of bytes))) empty) took))

pub rest_some : (t : Replier) (most : Option ℕ) (cutter : CutterState) (bytes : List ℕ) (none ls : List Line) (a b c : Option (List ℕ)) →
    IsAnswered t most cutter bytes a b → IsWithin most (length bytes) →
    none ≡ [] → ls ≡ none ++ map (line_of line_limit) (last_of (rest_of bytes)) → TookSomeLines t ls b c →
    TookSomeLines t (map (line_of line_limit) (lines bytes)) a c
rest_some t most cutter bytes none ls a b c h few empty is took =
    subst (λ v. TookSomeLines t v a c) (told_whole line_limit most bytes few)
    (took_some_more t (told line_limit most bytes) (map (line_of line_limit) (last_of (rest_of bytes))) a b c h.took
    (subst (λ v. TookSomeLines t v b c) (is ∙ ap (λ v. v ++ map (line_of line_limit) (last_of (rest_of bytes))) empty) took))

pub rest_none : (t : Replier) (most : Option ℕ) (cutter : CutterState) (bytes : List ℕ) (a b : Option (List ℕ)) → IsAnswered t most cutter bytes a b →
    IsWithin most (length bytes) → TookSomeLines t (map (line_of line_limit) (lines bytes)) a b
rest_none t most cutter bytes a b h few = rest_some t most cutter bytes [] (map (line_of line_limit) (last_of (rest_of bytes))) a b b h few refl refl
    (took_none t (map (line_of line_limit) (last_of (rest_of bytes))) b)

-- at first nothing was read
told_none : (most : Option ℕ) → told line_limit most [] ≡ []
told_none most = ap (λ s. map (line_of line_limit) (ended s)) (within_nothing most)

pub read_none : (t : Replier) (most : Option ℕ) (left : Option (List ℕ)) (cutter : CutterState) (held : Option (List ℕ)) → Stands line_limit most cutter [] →
    IsReadTo t most left left cutter held held 0
read_none t most left cutter held stands = record {
  bytes = [];
  read = Consumes-nil left;
  total_is = refl;
  answered = record { stands = stands; took = subst (λ v. TookLines t v held held) (sym (told_none most)) ([], refl, Appends-nil held) };
}

-- one more piece
pub read_more : (t : Replier) (most : Option ℕ) (left mid still_left : Option (List ℕ)) (before behind : CutterState) (old now new : Option (List ℕ))
    (total more : ℕ) (piece : List ℕ) → IsReadTo t most left mid before old now total →
    Consumes mid still_left piece → more ≡ total + length piece →
    ((bytes : List ℕ) → IsAnswered t most before bytes old now → IsAnswered t most behind (bytes ++ piece) old new) →
    IsReadTo t most left still_left behind old new more
read_more t most left mid still_left before behind old now new total more piece r c is go = record {
  bytes = r.bytes ++ piece;
  read = Consumes-trans left mid still_left r.bytes piece r.read c;
  total_is = is ∙ rw (length-append, r.total_is) refl;
  answered = go r.bytes r.answered;
}

-- what is left, where it is told
abbrev pub left_of : Option (List ℕ) → List ℕ
left_of None = []
left_of (Some bytes) = bytes

pub left_told : (left : Option (List ℕ)) → AreTold left (left_of left)
left_told None = tt
left_told (Some bytes) = refl

pub end_told : (left : Option (List ℕ)) → IsAtEnd left → AreTold left []
end_told None h = tt
end_told (Some xs) h = h

-- the source failed
pub runs_input : (t : Replier) (most : Option ℕ) (left mid still_left : Option (List ℕ)) (cutter : CutterState) (old new : Option (List ℕ)) (total : ℕ) →
    IsReadTo t most left mid cutter old new total → IsWithin most total →
    Keeps mid still_left → RunsOn t most left still_left old new (Err fault.Input)
runs_input t most left mid still_left cutter old new total r few keeps =
    let fits : IsWithin most (length r.bytes) = subst (IsWithin most) r.total_is few in record {
      front = r.bytes;
      read = Consumes-kept left mid still_left r.bytes r.read keeps;
      past = within_past most (length r.bytes) fits;
      runs = (
        fits,
        replies_of_took t (ended r.bytes) old new
            (subst (λ v. TookLines t v old new) (told_within line_limit most r.bytes fits) r.answered.took),
      );
    }

-- more bytes came than the limit
pub runs_long : (t : Replier) (most : Option ℕ) (left still_left : Option (List ℕ)) (cutter : CutterState) (old new : Option (List ℕ)) (total : ℕ) →
    IsReadTo t most left still_left cutter old new total → IsPast most total →
    IsWithin (one_past most) total → RunsOn t most left still_left old new (Err fault.InputTooLong)
runs_long t most left still_left cutter old new total r many few = record {
  front = r.bytes;
  read = r.read;
  past = subst (IsWithin (one_past most)) r.total_is few;
  runs = (subst (IsPast most) r.total_is many, replies_of_took t (ended (within most r.bytes)) old new r.answered.took);
}

-- the lines of a front are the first of all lines
ended_front : (front rest : List ℕ) → (more : List (List ℕ)) × (ended (front ++ rest) ≡ ended front ++ more)
ended_front front rest = (
  ended_from (rest_from [] front) rest,
  ended-is (front ++ rest) ∙ ended_from-append [] front rest ∙
      ap (λ ls. ls ++ ended_from (rest_from [] front) rest) (sym (ended-is front)),
)

pub short_answered : (most : Option ℕ) (input : List ℕ) → IsWithin most (length input) → answered_lines most input ≡ lines input
short_answered most input few = rw (test_within most (length input) few) refl

long_answered : (most : Option ℕ) (input : List ℕ) → IsPast most (length input) → answered_lines most input ≡ ended (within most input)
long_answered most input many = rw (test_past most (length input) many) refl

answered_by : (most : Option ℕ) (front rest : List ℕ) → IsPast most (length (front ++ rest)) ⊎ IsWithin most (length (front ++ rest)) →
    (more : List (List ℕ)) × (answered_lines most (front ++ rest) ≡ ended (within most front) ++ more)
answered_by most front rest (inl h) =
    let part = within_front most front rest in
    let cut = ended_front (within most front) part.0 in
    (cut.0, long_answered most (front ++ rest) h ∙ ap ended part.1 ∙ cut.1)
answered_by most front rest (inr h) =
    let shorter : length front ≤ length (front ++ rest) = omega (arith, length-append front rest) in
    let few : IsWithin most (length front) = less_within most (length front) (length (front ++ rest)) shorter h in
    let cut = ended_front front rest in (
      cut.0 ++ last_of (rest_of (front ++ rest)),
      short_answered most (front ++ rest) h ∙ lines-is (front ++ rest) ∙ ap (λ ls. ls ++ last_of (rest_of (front ++ rest))) cut.1
          ∙ append_assoc (ended front) cut.0 (last_of (rest_of (front ++ rest))) ∙
          ap (λ s. ended s ++ (cut.0 ++ last_of (rest_of (front ++ rest)))) (sym (within_all most front few)),
    )

pub answered_front : (most : Option ℕ) (front rest : List ℕ) →
    (more : List (List ℕ)) × (answered_lines most (front ++ rest) ≡ ended (within most front) ++ more)
answered_front most front rest = answered_by most front rest (within_or_past most (length (front ++ rest)))

runs_fault : (t : Replier) (most : Option ℕ) (front rest : List ℕ) (left old new : Option (List ℕ)) (f : Fault) → IsOutFault f → AreTold left rest →
    TookSome t (answered_lines most (front ++ rest)) old new →
    Runs t most front left old new (Err f)
runs_fault t most front rest left old new f (inl e) told took = rw e (rest, told, took)
runs_fault t most front rest left old new f (inr e) told took = rw e (rest, told, took)

-- a reply was not written, or memory was wanted
pub runs_stopped : (t : Replier) (most : Option ℕ) (left mid still_left : Option (List ℕ)) (cutter : CutterState) (old now new : Option (List ℕ)) (total : ℕ)
    (piece : List ℕ) (f : Fault) → IsReadTo t most left mid cutter old now total →
    Consumes mid still_left piece → IsWithin (one_past most) (total + length piece) → IsOutFault f →
    ((bytes : List ℕ) → IsAnswered t most cutter bytes old now → TookSomeLines t (told line_limit most (bytes ++ piece)) old new) →
    RunsOn t most left still_left old new (Err f)
runs_stopped t most left mid still_left cutter old now new total piece f r c few stops some =
    let front = answered_front most (r.bytes ++ piece) (left_of still_left) in record {
      front = r.bytes ++ piece;
      read = Consumes-trans left mid still_left r.bytes piece r.read c;
      past = subst (IsWithin (one_past most)) (sym (length-append r.bytes piece)) (subst (λ v. IsWithin (one_past most) (v + length piece)) r.total_is few);
      runs = runs_fault t most (r.bytes ++ piece) (left_of still_left) still_left old new f stops (left_told still_left)
          (some_of_took t (ended (within most (r.bytes ++ piece))) front.0 (answered_lines most ((r.bytes ++ piece) ++ left_of still_left)) old new front.1
          (some r.bytes r.answered));
    }

-- no more pieces are counted
pub runs_endless : (t : Replier) (left still_left : Option (List ℕ)) (cutter : CutterState) (old new : Option (List ℕ)) (total : ℕ) →
    IsReadTo t None left still_left cutter old new total → RunsOn t None left still_left old new (Err fault.NoMemory)
runs_endless t left still_left cutter old new total r =
    runs_stopped t None left still_left still_left cutter old new new total [] fault.NoMemory r (Consumes-nil still_left) tt (inr refl)
    (λ bytes h. answered_none t None cutter bytes [] old new h)

-- the input was read to its end
runs_ended : (t : Replier) (most : Option ℕ) (front : List ℕ) (left old new : Option (List ℕ)) (answer : Result (Unit {0}) Fault) → IsAtEnd left →
    IsWithin most (length front) →
    OnOk answer (TookLines t (map (line_of line_limit) (lines front)) old new) → TookSomeLines t (map (line_of line_limit) (lines front)) old new →
    IfErr answer IsOutFault → Runs t most front left old new answer
runs_ended t most front left old new (Ok done) end few all some f = (end, few, replies_of_took t (lines front) old new all)
runs_ended t most front left old new (Err e) end few all some f =
    runs_fault t most front [] left old new e f (end_told left end)
    (some_of_took t (lines front) [] (answered_lines most (front ++ [])) old new
    (ap (answered_lines most) (append-nil front) ∙ short_answered most front few ∙ sym (append-nil (lines front))) some)

pub on_ok : {A B : Type 0} (answer : Result (Unit {0}) Fault) → OnOk answer A → (A → B) → OnOk answer B
on_ok (Ok done) a go = go a
on_ok (Err f) a go = tt

pub runs_end : (t : Replier) (most : Option ℕ) (left mid still_left : Option (List ℕ)) (cutter : CutterState) (old now new : Option (List ℕ)) (total : ℕ)
    (answer : Result (Unit {0}) Fault) → IsReadTo t most left mid cutter old now total → IsWithin most total →
    Consumes mid still_left [] → IsAtEnd still_left →
    OnOk answer ((limit : Option ℕ) (bytes : List ℕ) (first : Option (List ℕ)) → IsAnswered t limit cutter bytes first now → IsWithin limit (length bytes) →
    TookLines t (map (line_of line_limit) (lines bytes)) first new) →
    ((limit : Option ℕ) (bytes : List ℕ) (first : Option (List ℕ)) → IsAnswered t limit cutter bytes first now → IsWithin limit (length bytes) →
    TookSomeLines t (map (line_of line_limit) (lines bytes)) first new) →
    IfErr answer IsOutFault → RunsOn t most left still_left old new answer
runs_end t most left mid still_left cutter old now new total answer r few c end all some f =
    let fits : IsWithin most (length r.bytes) = subst (IsWithin most) r.total_is few in record {
      front = r.bytes;
      read = subst (Consumes left still_left) (append-nil r.bytes) (Consumes-trans left mid still_left r.bytes [] r.read c);
      past = within_past most (length r.bytes) fits;
      runs = runs_ended t most r.bytes still_left old new answer end fits (on_ok answer all (λ go. go most r.bytes old r.answered fits))
          (some most r.bytes old r.answered fits) f;
    }

-- one more piece, however much was read before
pub read_next : (t : Replier) (mid still_left : Option (List ℕ)) (before behind : CutterState) (now new : Option (List ℕ)) (piece : List ℕ) (count : ℕ) →
    Consumes mid still_left piece → length piece ≡ count →
    ((most : Option ℕ) (bytes : List ℕ) (first : Option (List ℕ)) → IsAnswered t most before bytes first now →
    IsAnswered t most behind (bytes ++ piece) first new) →
    (most : Option ℕ) (left old : Option (List ℕ)) (total : ℕ) → IsReadTo t most left mid before old now total →
    IsReadTo t most left still_left behind old new (total + count)
read_next t mid still_left before behind now new piece count c is go most left old total r =
    read_more t most left mid still_left before behind old now new total (total + count) piece r c (ap (λ n. total + n) (sym is))
    (λ bytes h. go most bytes old h)

-- nothing was read of what was to come
pub failed_next : (t : Replier) (mid still_left : Option (List ℕ)) (cutter : CutterState) (now : Option (List ℕ)) (room : ℕ) → 0 < room →
    Keeps mid still_left → (most : Option ℕ) (left old : Option (List ℕ)) (total : ℕ) → IsReadTo t most left mid cutter old now total →
    IsWithin (one_past most) (total + room) → RunsOn t most left still_left old now (Err fault.Input)
failed_next t mid still_left cutter now room some keeps most left old total r few =
    runs_input t most left mid still_left cutter old now total r (before_past most total room some few) keeps

-- the lines of a piece were not all answered
pub stopped_next : (t : Replier) (mid still_left : Option (List ℕ)) (cutter : CutterState) (now new : Option (List ℕ)) (piece : List ℕ) (f : Fault) (room : ℕ)
    → Consumes mid still_left piece → length piece ≤ room → IsOutFault f →
    ((most : Option ℕ) (bytes : List ℕ) (first : Option (List ℕ)) → IsAnswered t most cutter bytes first now →
    TookSomeLines t (told line_limit most (bytes ++ piece)) first new) →
    (most : Option ℕ) (left old : Option (List ℕ)) (total : ℕ) → IsReadTo t most left mid cutter old now total →
    IsWithin (one_past most) (total + room) → RunsOn t most left still_left old new (Err f)
stopped_next t mid still_left cutter now new piece f room c fits stops some most left old total r few =
    let shorter : total + length piece ≤ total + room = omega (arith, fits) in
    runs_stopped t most left mid still_left cutter old now new total piece f r c
    (less_within (one_past most) (total + length piece) (total + room) shorter few) stops (λ bytes h. some most bytes old h)

-- nothing more came
pub runs_rest : (t : Replier) (most : Option ℕ) (left still_left : Option (List ℕ)) (cutter : CutterState) (old now new : Option (List ℕ)) (total : ℕ)
    (answer : Result (Unit {0}) Fault) → IsReadTo t most left still_left cutter old now total → IsWithin most total →
    IsAtEnd still_left →
    OnOk answer ((limit : Option ℕ) (bytes : List ℕ) (first : Option (List ℕ)) → IsAnswered t limit cutter bytes first now → IsWithin limit (length bytes) →
    TookLines t (map (line_of line_limit) (lines bytes)) first new) →
    ((limit : Option ℕ) (bytes : List ℕ) (first : Option (List ℕ)) → IsAnswered t limit cutter bytes first now → IsWithin limit (length bytes) →
    TookSomeLines t (map (line_of line_limit) (lines bytes)) first new) →
    IfErr answer IsOutFault → RunsOn t most left still_left old new answer
runs_rest t most left still_left cutter old now new total answer r few end all some f =
    runs_end t most left still_left still_left cutter old now new total answer r few (Consumes-nil still_left) end all some f

-- what answering the lines of a piece did, by its answer
pub piece_all : (t : Replier) (before behind : CutterState) (piece : List ℕ) (none ls got : List Line) (b c : Option (List ℕ))
    (answer : Result (Unit {0}) Fault) → OnOk answer (TookLines t got b c) → got ≡ ls → none ≡ [] →
    ((most : Option ℕ) (bytes : List ℕ) → Stands line_limit most before bytes → Stands line_limit most behind (bytes ++ piece)) →
    ((most : Option ℕ) (bytes : List ℕ) → Stands line_limit most before bytes → ls ≡ none ++ new_lines line_limit most bytes piece) →
    OnOk answer ((most : Option ℕ) (bytes : List ℕ) (first : Option (List ℕ)) → IsAnswered t most before bytes first b →
    IsAnswered t most behind (bytes ++ piece) first c)
piece_all t before behind piece none ls got b c (Ok done) took same empty stands is =
    λ most bytes first h. answered_more t most before behind bytes piece none ls first b c h (stands most bytes h.stands) empty (is most bytes h.stands)
    (subst (λ v. TookLines t v b c) same took)
piece_all t before behind piece none ls got b c (Err f) took same empty stands is = tt

pub piece_some : (t : Replier) (before : CutterState) (piece : List ℕ) (none ls got : List Line) (b c : Option (List ℕ)) (answer : Result (Unit {0}) Fault) →
    TookSomeLines t got b c → got ≡ ls → none ≡ [] →
    ((most : Option ℕ) (bytes : List ℕ) → Stands line_limit most before bytes → ls ≡ none ++ new_lines line_limit most bytes piece) →
    OnErr answer ((most : Option ℕ) (bytes : List ℕ) (first : Option (List ℕ)) → IsAnswered t most before bytes first b →
    TookSomeLines t (told line_limit most (bytes ++ piece)) first c)
piece_some t before piece none ls got b c (Ok done) took same empty is = tt
piece_some t before piece none ls got b c (Err f) took same empty is =
    λ most bytes first h. answered_some t most before bytes piece none ls first b c h empty (is most bytes h.stands)
    (subst (λ v. TookSomeLines t v b c) same took)

-- the same of the last line
pub last_all : (t : Replier) (cutter : CutterState) (none ls got : List Line) (b c : Option (List ℕ)) (answer : Result (Unit {0}) Fault) →
    OnOk answer (TookLines t got b c) → got ≡ ls → none ≡ [] →
    ((most : Option ℕ) (bytes : List ℕ) → Stands line_limit most cutter bytes → ls ≡ none ++ map (line_of line_limit) (last_of (rest_of bytes))) →
    OnOk answer ((most : Option ℕ) (bytes : List ℕ) (first : Option (List ℕ)) → IsAnswered t most cutter bytes first b → IsWithin most (length bytes) →
    TookLines t (map (line_of line_limit) (lines bytes)) first c)
last_all t cutter none ls got b c (Ok done) took same empty is =
    λ most bytes first h few. rest_all t most cutter bytes none ls first b c h few empty (is most bytes h.stands) (subst (λ v. TookLines t v b c) same took)
last_all t cutter none ls got b c (Err f) took same empty is = tt

pub last_some : (t : Replier) (cutter : CutterState) (none ls got : List Line) (b c : Option (List ℕ)) → TookSomeLines t got b c → got ≡ ls → none ≡ [] →
    ((most : Option ℕ) (bytes : List ℕ) → Stands line_limit most cutter bytes → ls ≡ none ++ map (line_of line_limit) (last_of (rest_of bytes))) →
    (most : Option ℕ) (bytes : List ℕ) (first : Option (List ℕ)) → IsAnswered t most cutter bytes first b → IsWithin most (length bytes) →
    TookSomeLines t (map (line_of line_limit) (lines bytes)) first c
last_some t cutter none ls got b c took same empty is most bytes first h few =
    rest_some t most cutter bytes none ls first b c h few empty (is most bytes h.stands) (subst (λ v. TookSomeLines t v b c) same took)
