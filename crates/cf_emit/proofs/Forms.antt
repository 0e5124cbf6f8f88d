-- The forms of printed code, by the stretches of their parts.
use Rattle.std.proofs.Common.{◌≡◌, ℕ, true, List, ◌∷◌, ◌++◌, refl, codes, append_assoc}
use Rattle.cf_lex.specs.Bytes.{is_in_word}
use Rattle.cf_lex.specs.Runs.{StopsAt}
use Rattle.cf_lex.specs.declared.token.TokenKind.{TokenKind}
use Rattle.cf_lex.specs.declared.token.TokenKind.TheVariants.{Word, Sign}
use Rattle.cf_reader.specs.Tokens.{Form, ◌⨟◌, Next}
use Rattle.cf_target.specs.Spelling.{InBrackets, Called, Before, Last, Pair}
use Rattle.cf_emit.specs.Printed.{line_end}
use Rattle.cf_emit.proofs.Spans.{Spans, Says, then, white_before, white_behind, is_plain, word, spaced, Mark, opening, closing, opening_brace, closing_brace, opening_square, semicolon, comma}

-- a part and then others
pub joined_parts : {X Y : Form} (a m end : List ℕ) {rest : List ℕ} → Spans X (a ++ (m ++ end)) (m ++ end) → Spans Y (m ++ end) rest →
    Spans (X ⨟ Y) (a ++ m ++ end) rest
joined_parts a m end s t = simp append_assoc (then s t)

pub first_part : {X Y : Form} (a m end : List ℕ) {rest : List ℕ} → Says X a → StopsAt is_in_word (m ++ end) → Spans Y (m ++ end) rest →
    Spans (X ⨟ Y) (a ++ m ++ end) rest
first_part a m end s stops t = joined_parts a m end (s (m ++ end) stops) t

-- a separator, a part and then others
pub next_part : {X Y : Form} {k : TokenKind} (o a m end : List ℕ) {rest : List ℕ} → Mark k o → Says X a → StopsAt is_in_word (m ++ end) →
    Spans Y (m ++ end) rest →
    Spans (Next k ⨟ X ⨟ Y) (o ++ a ++ m ++ end) rest
next_part o a m end mark s stops t = simp append_assoc (then (mark.gives (a ++ (m ++ end))) (then (s (m ++ end) stops) t))

pub next_begins : {k : TokenKind} (o a m end : List ℕ) → Mark k o → StopsAt is_in_word (o ++ a ++ m ++ end)
next_begins o a m end mark = simp append_assoc (mark.begins (a ++ (m ++ end)))

-- "(" and what stands up to its ")"
pub bracketed : {X : Form} (t rest : List ℕ) → Spans X (t ++ (codes ")" ++ rest)) rest → Spans (InBrackets X) (codes "(" ++ t ++ codes ")" ++ rest) rest
bracketed t rest s = simp append_assoc (then (opening.gives (t ++ (codes ")" ++ rest))) s)

-- "{", a part and others up to the "}"
pub set_form : {X Y : Form} (a m rest : List ℕ) → Says X a → StopsAt is_in_word (m ++ (codes "}" ++ rest)) → Spans Y (m ++ (codes "}" ++ rest)) rest →
    Spans (Next (Sign (codes "{")) ⨟ X ⨟ Y) (codes "{" ++ (a ++ m) ++ codes "}" ++ rest) rest
set_form a m rest s stops t = simp append_assoc (then (opening_brace.gives (a ++ (m ++ (codes "}" ++ rest)))) (then (s (m ++ (codes "}" ++ rest)) stops) t))

-- "(", a part and others up to the ")"
pub tuple_form : {X Y : Form} (a m rest : List ℕ) → Says X a → StopsAt is_in_word (m ++ (codes ")" ++ rest)) → Spans Y (m ++ (codes ")" ++ rest)) rest →
    Spans (Next (Sign (codes "(")) ⨟ X ⨟ Y) (codes "(" ++ a ++ m ++ codes ")" ++ rest) rest
tuple_form a m rest s stops t = simp append_assoc (then (opening.gives (a ++ (m ++ (codes ")" ++ rest)))) (then (s (m ++ (codes ")" ++ rest)) stops) t))

pub gives_form : {X Y : Form} (a b m rest : List ℕ) → Says X a → Spans Y (codes ", " ++ b ++ m ++ (codes ")" ++ rest)) rest →
    Spans (Next (Sign (codes "(")) ⨟ X ⨟ Y) (codes "(" ++ a ++ codes ", " ++ b ++ m ++ codes ")" ++ rest) rest
gives_form {X = X} {Y = Y} a b m rest s t =
    let tail : List ℕ = b ++ (m ++ (codes ")" ++ rest)) in
    let u : Spans Y (codes ", " ++ tail) rest = simp append_assoc at t in
    simp append_assoc (then (opening.gives (a ++ (codes ", " ++ tail))) (then (s (codes ", " ++ tail) refl) u))

-- "(", a part, an operation, a part and ")"
pub pair_form : {X Y : Form} {k : TokenKind} (a o b : List ℕ) → Says X a → Mark k o → Says Y b → Says (Pair X k Y) (codes "(" ++ a ++ o ++ b ++ codes ")")
pair_form a o b s mark t rest stops =
    let right : List ℕ = b ++ (codes ")" ++ rest) in
    simp append_assoc (then (opening.gives (a ++ (o ++ right)))
    (then (s (o ++ right) (mark.begins right)) (then (mark.gives right) (then (t (codes ")" ++ rest) refl) (closing.gives rest)))))

-- a word and "(", then what stands up to its ")"
called : {X : Form} (w t : List ℕ) {rest : List ℕ} → is_plain w ≡ true → Spans X t rest → Spans (Called w X) (w ++ (codes "(" ++ t)) rest
called w t plain s = then (word w (codes "(" ++ t) plain refl) (then (opening.gives t) s)

before : {X Y : Form} (a t : List ℕ) {rest : List ℕ} → Says X a → Spans Y t rest → Spans (Before X Y) (a ++ (codes ", " ++ t)) rest
before a t s n = then (s (codes ", " ++ t) refl) (then (comma.gives t) n)

last : {X : Form} (a rest : List ℕ) → Says X a → Spans (Last X) (a ++ (codes ")" ++ rest)) rest
last a rest s = then (s (codes ")" ++ rest) refl) (closing.gives rest)

pub list_called : {X : Form} (w t rest : List ℕ) → is_plain w ≡ true → Spans X (t ++ (codes ")" ++ rest)) rest →
    Spans (Called w X) (w ++ codes "(" ++ t ++ codes ")" ++ rest) rest
list_called w t rest plain s = simp append_assoc (called w (t ++ (codes ")" ++ rest)) plain s)

pub one_called : {X : Form} (w a : List ℕ) → is_plain w ≡ true → Says X a → Says (Called w (Last X)) (w ++ codes "(" ++ a ++ codes ")")
one_called w a plain s rest stops = simp append_assoc (called w (a ++ (codes ")" ++ rest)) plain (last a rest s))

pub two_called : {X Y : Form} (w a b : List ℕ) → is_plain w ≡ true → Says X a → Says Y b →
    Says (Called w (Before X (Last Y))) (w ++ codes "(" ++ a ++ codes ", " ++ b ++ codes ")")
two_called w a b plain s t rest stops =
    let end : List ℕ = b ++ (codes ")" ++ rest) in
    simp append_assoc (called w (a ++ (codes ", " ++ end)) plain (before a end s (last b rest t)))

pub three_called : {X Y Z : Form} (w a b c : List ℕ) → is_plain w ≡ true → Says X a → Says Y b → Says Z c →
    Says (Called w (Before X (Before Y (Last Z)))) (w ++ codes "(" ++ a ++ codes ", " ++ b ++ codes ", " ++ c ++ codes ")")
three_called w a b c plain s t u rest stops =
    let end : List ℕ = c ++ (codes ")" ++ rest) in
    simp append_assoc (called w (a ++ (codes ", " ++ (b ++ (codes ", " ++ end)))) plain
    (before a (b ++ (codes ", " ++ end)) s (before b end t (last c rest u))))

-- "(" and a word, then three parts with an operation between each two, and ")"
pub headed_form : {X Y Z : Form} {j k : TokenKind} (w a o b n c : List ℕ) → is_plain w ≡ true → Says X a → Mark j o → Says Y b → Mark k n → Says Z c →
    Says (InBrackets (Next (Word w) ⨟ X ⨟ Next j ⨟ Y ⨟ Next k ⨟ Last Z))
    (codes "(" ++ w ++ codes " " ++ a ++ o ++ b ++ n ++ c ++ codes ")")
headed_form w a o b n c plain s first t second u rest stops =
    let third : List ℕ = c ++ (codes ")" ++ rest) in
    let right : List ℕ = b ++ (n ++ third) in
    simp append_assoc (then (opening.gives (w ++ (codes " " ++ (a ++ (o ++ right)))))
    (then (spaced w (a ++ (o ++ right)) plain) (then (s (o ++ right) (first.begins right)) (then (first.gives right)
    (then (t (n ++ third) (second.begins third)) (then (second.gives third) (then (u (codes ")" ++ rest) refl) (closing.gives rest))))))))

-- an opening brace that ends its line
line_opened : (rest : List ℕ) → Spans (Next (Sign (codes "{"))) (codes " {" ++ (line_end ++ rest)) rest
line_opened rest = white_before 32 refl (white_behind 10 refl (opening_brace.gives (10 ∷ rest)))

pub solve_form : {X Y : Form} (a m : List ℕ) → Says X a → ((rest : List ℕ) → Spans Y (m ++ (codes "}" ++ rest)) rest) →
    Says (Next (Word (codes "solve")) ⨟ X ⨟ Next (Sign (codes "{")) ⨟ Y)
    (codes "solve " ++ a ++ codes " {" ++ line_end ++ m ++ codes "}")
solve_form a m s t rest stops =
    let arms : List ℕ = m ++ (codes "}" ++ rest) in
    simp append_assoc (then (spaced (codes "solve") (a ++ (codes " {" ++ (line_end ++ arms))) refl)
    (then (s (codes " {" ++ (line_end ++ arms)) refl) (then (line_opened arms) (t rest))))

pub item_form : {X : Form} (w a rest : List ℕ) → is_plain w ≡ true → Says X a →
    Spans (Next (Word w) ⨟ X ⨟ Next (Sign (codes ";"))) (w ++ codes " " ++ a ++ codes ";" ++ line_end ++ rest) rest
item_form w a rest plain s =
    let end : List ℕ = codes ";" ++ (line_end ++ rest) in
    simp append_assoc (then (spaced w (a ++ end) plain) (then (s end refl) (white_behind 10 refl (semicolon.gives (10 ∷ rest)))))

pub arm_form : {X Y Z : Form} (b i g rest : List ℕ) → ((end : List ℕ) → Spans X (b ++ (codes "]" ++ end)) end) →
    ((end : List ℕ) → Spans Y (i ++ (codes "give " ++ end)) end) → Says Z g →
    Spans (Next (Word (codes "arm")) ⨟ Next (Sign (codes "[")) ⨟ X ⨟ Next (Sign (codes "{")) ⨟ Y ⨟ Z ⨟ Next (Sign (codes "}")))
    (codes "arm [" ++ b ++ codes "] {" ++ line_end ++ i ++ codes "give " ++ g ++ line_end ++ codes "}" ++ line_end ++ rest) rest
arm_form b i g rest bounds items gives =
    let end : List ℕ = line_end ++ (codes "}" ++ (line_end ++ rest)) in
    let inner : List ℕ = i ++ (codes "give " ++ (g ++ end)) in
    let braced : List ℕ = codes " {" ++ (line_end ++ inner) in
    let head : List ℕ = b ++ (codes "]" ++ braced) in
    simp append_assoc (then (spaced (codes "arm") (codes "[" ++ head) refl) (then (opening_square.gives head) (then (bounds braced) (then (line_opened inner)
    (then (items (g ++ end)) (then (gives end refl) (white_before 10 refl (white_behind 10 refl (closing_brace.gives (10 ∷ rest))))))))))
