-- Stretches of a text of edition 3, by the tokens that they give.
use Rattle.std.proofs.Common.{◌≡◌, ℕ, Bool, true, false, List, [], ◌∷◌, ◌++◌, ◌^◌, ◌-◌, refl, Some, None, inl, codes, eqb, ◌&&◌, ◌||◌, append_assoc}
use Rattle.std.specs.List.{list_any, list_all}
use Rattle.cf_lex.specs.Bytes.{is_white, is_letter, is_in_word, is_short_sign, is_long_sign}
use Rattle.cf_lex.specs.Places.{place_after}
use Rattle.cf_lex.specs.Runs.{AllAre, StopsAt}
use Rattle.cf_lex.specs.Tokens.{IsPiece, IsWord, IsSign, Lexes, piece}
use Rattle.cf_tree.specs.declared.base.Edition.TheVariants.{Three}
use Rattle.cf_tree.specs.declared.base.Place.{Place}
use Rattle.cf_lex.specs.declared.token.Token.{Token}
use Rattle.cf_lex.specs.declared.token.TokenKind.{TokenKind}
use Rattle.cf_lex.specs.declared.token.TokenKind.TheVariants.{Word, Sign}
use Rattle.cf_reader.specs.Tokens.{Form, ◌⨟◌, Next}

-- From any place on, the text gives tokens that spell X and then the tokens of the rest.
pub record Spans (X : Form) (text rest : List ℕ) : Type 0 where
  pub spans : (p : Place) → (q : Place) × ((more : List Token) (e : Place) → Lexes Three (2 ^ 127 - 1) q rest more e [] →
      (ts : List Token) × Lexes Three (2 ^ 127 - 1) p text ts e [] × X ts more)

-- w gives tokens that spell X, before any rest that does not go on with its last word
abbrev pub Says : Form → List ℕ → Type 0
Says X w = (rest : List ℕ) → StopsAt is_in_word rest → Spans X (w ++ rest) rest

pub then : {X Y : Form} {text mid rest : List ℕ} → Spans X text mid → Spans Y mid rest → Spans (X ⨟ Y) text rest
then s n = record {
  spans = λ p.
      let front = s.spans p in
      let back = n.spans front.0 in
      (back.0, λ more e l. let b = back.1 more e l in let f = front.1 b.0 e b.1 in (f.0, f.1, (b.0, f.2, b.2)));
}

pub as_form : {X Y : Form} {text rest : List ℕ} → ((ts more : List Token) → X ts more → Y ts more) → Spans X text rest → Spans Y text rest
as_form turn s = record { spans = λ p. let g = s.spans p in (g.0, λ more e l. let x = g.1 more e l in (x.0, x.1, turn x.0 more x.2)) }

-- a token
pub one_token : (w rest : List ℕ) (k : TokenKind) → IsPiece Three (2 ^ 127 - 1) w (Some k) rest → Spans (Next k) (w ++ rest) rest
one_token w rest k h = record { spans = λ p. (place_after p w, λ more e l. (record { place = p; kind = k } ∷ more, piece w (Some k) refl h refl l, (p, refl))) }

-- a white byte before, and one behind
pub white_before : {X : Form} {text rest : List ℕ} (b : ℕ) → is_white b ≡ true → Spans X text rest → Spans X (b ∷ text) rest
white_before b white s = record {
  spans = λ p.
      let g = s.spans (place_after p (b ∷ [])) in
      (g.0, λ more e l. let x = g.1 more e l in (x.0, piece (b ∷ []) None refl (inl (white, refl)) refl x.1, x.2));
}

pub white_behind : {X : Form} {text rest : List ℕ} (b : ℕ) → is_white b ≡ true → Spans X text (b ∷ rest) → Spans X text rest
white_behind b white s = record {
  spans = λ p.
      let g = s.spans p in
      (place_after g.0 (b ∷ []), λ more e l. g.1 more e (piece (b ∷ []) None refl (inl (white, refl)) refl l));
}

both : (x y : Bool) → (x && y) ≡ true → (x ≡ true) × (y ≡ true)
both true y h = (refl, h)
both false y h = absurd (cc)

all_are : (p : ℕ → Bool) (w : List ℕ) → list_all p w ≡ true → AllAre p w
all_are p [] h = tt
all_are p (b ∷ w) h = let c = both (p b) (list_all p w) h in (c.0, all_are p w c.1)

-- a letter, then letters and digits
abbrev pub is_plain : List ℕ → Bool
is_plain [] = false
is_plain (b ∷ w) = is_letter b && list_all is_in_word w

pub is_a_word : (w : List ℕ) → is_plain w ≡ true → IsWord w []
is_a_word [] h = absurd (cc)
is_a_word (b ∷ w) h = let c = both (is_letter b) (list_all is_in_word w) h in (c.0, (all_are is_in_word w c.1, tt))

-- a word, before what does not go on with it
pub word : (w rest : List ℕ) → IsWord w [] → StopsAt is_in_word rest → Spans (Next (Word w)) (w ++ rest) rest
word w rest h stops = one_token w rest (Word w) (before w h, refl)
  where
    before : (w : List ℕ) → IsWord w [] → IsWord w rest
    before [] h = h
    before (b ∷ w) h = (h.0, (h.1.0, stops))

pub sign : (w rest : List ℕ) → IsSign Three w rest → Spans (Next (Sign w)) (w ++ rest) rest
sign w rest h = one_token w rest (Sign w) (h, refl)

-- a sign that begins no longer one
no_longer : (x y : Bool) → (x && false || false && y || false) ≡ false
no_longer true y = refl
no_longer false y = refl

abbrev IsAlone : ℕ → Type 0
IsAlone a = (is_short_sign a ≡ true) × (list_any (λ c. eqb a c) (codes "=!<>") ≡ false) × (eqb a 38 ≡ false) × (eqb a 124 ≡ false)

stands_alone : (a : ℕ) (rest : List ℕ) → IsAlone a → StopsAt (is_long_sign a) rest
stands_alone a [] h = tt
stands_alone a (b ∷ rest) h = rw (h.1, h.2, h.3) (no_longer (eqb b 61) (eqb b 38))

-- A sign or a word with the space around it: no word before it goes on with it, and nothing behind it belongs to it.
pub record Mark (k : TokenKind) (w : List ℕ) : Type 0 where
  pub begins : (rest : List ℕ) → StopsAt is_in_word (w ++ rest)
  pub gives : (rest : List ℕ) → Spans (Next k) (w ++ rest) rest

bare : (a : ℕ) → IsAlone a → is_in_word a ≡ false → Mark (Sign (a ∷ [])) (a ∷ [])
bare a h out = record { begins = λ rest. out; gives = λ rest. sign (a ∷ []) rest (h.0, stands_alone a rest h) }

pub opening : Mark (Sign (codes "(")) (codes "(")
opening = bare 40 (refl, refl, refl, refl) refl

pub closing : Mark (Sign (codes ")")) (codes ")")
closing = bare 41 (refl, refl, refl, refl) refl

pub opening_brace : Mark (Sign (codes "{")) (codes "{")
opening_brace = bare 123 (refl, refl, refl, refl) refl

pub closing_brace : Mark (Sign (codes "}")) (codes "}")
closing_brace = bare 125 (refl, refl, refl, refl) refl

pub minus : Mark (Sign (codes "-")) (codes "-")
minus = bare 45 (refl, refl, refl, refl) refl

pub comma : Mark (Sign (codes ",")) (codes ", ")
comma =
    let m = bare 44 (refl, refl, refl, refl) refl in
    record { begins = λ rest. m.begins (32 ∷ rest); gives = λ rest. white_behind 32 refl (m.gives (32 ∷ rest)) }

pub spaced_sign : (w : List ℕ) → ((rest : List ℕ) → IsSign Three w (32 ∷ rest)) → Mark (Sign w) (codes " " ++ w ++ codes " ")
spaced_sign w h = record {
  begins = λ rest. refl;
  gives = λ rest. simp append_assoc (white_before 32 refl (white_behind 32 refl (sign w (32 ∷ rest) (h rest))));
}

pub spaced_word : (w : List ℕ) → IsWord w [] → Mark (Word w) (codes " " ++ w ++ codes " ")
spaced_word w h = record { begins = λ rest. refl; gives = λ rest. simp append_assoc (white_before 32 refl (white_behind 32 refl (word w (32 ∷ rest) h refl))) }
