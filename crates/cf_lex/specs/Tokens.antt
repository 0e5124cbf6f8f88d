-- The tokens of a text, in the words of the grammar.
use Rattle.std.specs.Prelude.{◌≡◌, ℕ, pos, ◌<◌, ◌≤◌, true, List, [], ◌∷◌, ◌++◌, length, Option, Some, None, Result, Ok, Err, ◌⊎◌}
use Rattle.cf_lex.specs.Bytes.{is_white, is_digit, is_letter, is_in_word, is_in_comment, is_short_sign, is_long_sign, is_longest_sign}
use Rattle.cf_lex.specs.Digits.{digits_value}
use Rattle.cf_lex.specs.Places.{first_place, place_after}
use Rattle.cf_lex.specs.Runs.{IsRun, StopsAt}
use Rattle.cf_tree.specs.declared.base.Edition.{Edition}
use Rattle.cf_tree.specs.declared.base.Edition.TheVariants.{Two, Three}
use Rattle.cf_lex.specs.declared.token.TokenList.{TokenList}
use Rattle.cf_lex.specs.declared.fault.LexFault.{LexFault}
use Rattle.cf_lex.specs.declared.fault.LexFault.TheVariants as fault
use Rattle.cf_tree.specs.declared.base.Place.{Place}
use Rattle.cf_lex.specs.declared.token.Token.{Token}
use Rattle.cf_lex.specs.declared.token.TokenKind.{TokenKind}
use Rattle.cf_lex.specs.declared.token.TokenKind.TheVariants.{Literal, Word, Sign}

-- one white byte, or a # and the bytes before the next line feed or the end
abbrev pub IsBlank : List ℕ → List ℕ → Type 0
IsBlank [] rest = ⊥
IsBlank (b ∷ w) rest = ((is_white b ≡ true) × (w ≡ [])) ⊎ ((b ≡ 35) × IsRun is_in_comment w rest)

-- the longest run of digits
abbrev pub IsLiteral : List ℕ → List ℕ → Type 0
IsLiteral w rest = (0 < length w) × IsRun is_digit w rest

-- a letter and the longest run of letters and digits
abbrev pub IsWord : List ℕ → List ℕ → Type 0
IsWord [] rest = ⊥
IsWord (b ∷ w) rest = (is_letter b ≡ true) × IsRun is_in_word w rest

-- two bytes are the longest sign
abbrev pub IsLongSign : Edition → ℕ → ℕ → List ℕ → Type 0
IsLongSign Two a b rest = is_long_sign a b ≡ true
IsLongSign Three a b rest = (is_long_sign a b ≡ true) × StopsAt (is_longest_sign a b) rest

-- three bytes are a sign
abbrev pub IsLongestSign : Edition → ℕ → ℕ → ℕ → Type 0
IsLongestSign Two a b c = ⊥
IsLongestSign Three a b c = is_longest_sign a b c ≡ true

-- the longest sign
abbrev pub IsSign : Edition → List ℕ → List ℕ → Type 0
IsSign edition [] rest = ⊥
IsSign edition (a ∷ []) rest = (is_short_sign a ≡ true) × StopsAt (is_long_sign a) rest
IsSign edition (a ∷ b ∷ []) rest = IsLongSign edition a b rest
IsSign edition (a ∷ b ∷ c ∷ []) rest = IsLongestSign edition a b c
IsSign edition (a ∷ b ∷ c ∷ d ∷ w) rest = ⊥

-- The bytes w before the rest are this token, or white space or a comment. A literal is at most the limit.
abbrev pub IsPiece : Edition → ℕ → List ℕ → Option TokenKind → List ℕ → Type 0
IsPiece edition limit w None rest = IsBlank w rest
IsPiece edition limit w (Some (Literal z)) rest = IsLiteral w rest × (digits_value w ≤ limit) × (z ≡ pos (digits_value w))
IsPiece edition limit w (Some (Word t)) rest = IsWord w rest × (t ≡ w)
IsPiece edition limit w (Some (Sign t)) rest = IsSign edition w rest × (t ≡ w)

-- the token that a piece at this place is, if it is one
abbrev pub tokens_of : Place → Option TokenKind → List Token
tokens_of p None = []
tokens_of p (Some k) = record { place = p; kind = k } ∷ []

-- From place p on the text begins with these tokens, and what is left of it stands at place q.
pub data Lexes (edition : Edition) (limit : ℕ) : Place → List ℕ → List Token → Place → List ℕ → Type 0 where
  none : {p : Place} {text : List ℕ} → Lexes edition limit p text [] p text
  piece : {p q : Place} {text rest left : List ℕ} {ts all : List Token} (w : List ℕ) (k : Option TokenKind) → text ≡ w ++ rest →
      IsPiece edition limit w k rest → all ≡ tokens_of p k ++ ts → Lexes edition limit (place_after p w) rest ts q left → Lexes edition limit p text all q left

-- why no more tokens follow
pub data Ending : Type 0 where
  at_end : Ending
  bad_byte : Ending
  past_limit : Ending

-- The text is at its end; or no token, white space or comment begins with its first byte; or a literal past the limit stands there.
abbrev pub Ends : Edition → ℕ → List ℕ → Ending → Type 0
Ends edition limit text at_end = text ≡ []
Ends edition limit text bad_byte =
    (0 < length text) × ((w rest : List ℕ) → text ≡ w ++ rest → ¬ (IsBlank w rest ⊎ IsLiteral w rest ⊎ IsWord w rest ⊎ IsSign edition w rest))
Ends edition limit text past_limit = (w rest : List ℕ) × (text ≡ w ++ rest) × IsLiteral w rest × (limit < digits_value w)

-- the tokens of a text up to its end or its first fault, and the place of that
abbrev pub LexesTo : Edition → ℕ → List ℕ → List Token → Place → Ending → Type 0
LexesTo edition limit text ts q e = (left : List ℕ) × Lexes edition limit first_place text ts q left × Ends edition limit left e

-- the answer of a reader: the tokens of the whole text, or the place of its first fault
abbrev pub TokensAnswer : Edition → ℕ → List ℕ → Result TokenList LexFault → Type 0
TokensAnswer edition limit text (Ok l) = LexesTo edition limit text l.list.items l.end at_end
TokensAnswer edition limit text (Err (fault.BadByte q)) = (ts : List Token) × LexesTo edition limit text ts q bad_byte
TokensAnswer edition limit text (Err (fault.NumberPast q)) = (ts : List Token) × LexesTo edition limit text ts q past_limit
TokensAnswer edition limit text (Err fault.NoMemory) = Unit {0}

-- these tokens and this ending are the answer
abbrev pub IsAnswer : List Token → Place → Ending → Result TokenList LexFault → Type 0
IsAnswer ts q e (Ok l) = (ts ≡ l.list.items) × (q ≡ l.end) × (e ≡ at_end)
IsAnswer ts q e (Err (fault.BadByte p)) = (q ≡ p) × (e ≡ bad_byte)
IsAnswer ts q e (Err (fault.NumberPast p)) = (q ≡ p) × (e ≡ past_limit)
IsAnswer ts q e (Err fault.NoMemory) = Unit {0}

-- a literal is at most the limit
abbrev pub IsKindWithin : ℕ → TokenKind → Type 0
IsKindWithin limit (Literal z) = (n : ℕ) × (z ≡ pos n) × (n ≤ limit)
IsKindWithin limit (Word t) = Unit {0}
IsKindWithin limit (Sign t) = Unit {0}

abbrev pub AreWithin : ℕ → List Token → Type 0
AreWithin limit [] = Unit {0}
AreWithin limit (t ∷ ts) = IsKindWithin limit t.kind × AreWithin limit ts
