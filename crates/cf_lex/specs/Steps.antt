-- The pieces of a text one after the other, as a reader goes.
use Rattle.std.specs.Prelude.{◌≡◌, ℕ, pos, List, [], ◌∷◌, take, drop, Option, Some, None, Result, Ok, Err}
use Rattle.cf_lex.specs.Digits.{digits_value, at_most}
use Rattle.cf_lex.specs.Front.{front_of}
use Rattle.cf_lex.specs.Places.{first_place, place_after}
use Rattle.cf_lex.specs.Tokens.{Ending, at_end, bad_byte, past_limit}
use Rattle.cf_lex.specs.declared.front.Piece.{Piece}
use Rattle.cf_lex.specs.declared.front.Piece.TheVariants as piece
use Rattle.cf_tree.specs.declared.base.Place.{Place}
use Rattle.cf_tree.specs.declared.base.Edition.{Edition}
use Rattle.cf_lex.specs.declared.token.Token.{Token}
use Rattle.cf_lex.specs.declared.token.TokenKind.{TokenKind}
use Rattle.cf_lex.specs.declared.token.TokenKind.TheVariants as kind
use Rattle.cf_lex.specs.declared.token.TokenList.{TokenList}
use Rattle.cf_lex.specs.declared.lexer.Taken.{Taken}
use Rattle.cf_lex.specs.declared.fault.LexFault.{LexFault}
use Rattle.cf_lex.specs.declared.fault.LexFault.TheVariants as fault

-- what is done at the front of a text
pub data Step : Type 0 where
  stops : Ending → Step
  skips : ℕ → Step
  gives : ℕ → TokenKind → Step

abbrev pub literal_step : ℕ → Option ℕ → Step
literal_step n (Some v) = gives n (kind.Literal (pos v))
literal_step n None = stops past_limit

abbrev pub step_of : ℕ → List ℕ → Piece → Step
step_of limit text (piece.Skip n) = skips n
step_of limit text (piece.Literal n) = literal_step n (at_most limit (digits_value (take n text)))
step_of limit text (piece.Word n) = gives n (kind.Word (take n text))
step_of limit text (piece.Sign n) = gives n (kind.Sign (take n text))
step_of limit text piece.Bad = stops bad_byte

abbrev pub step : Edition → ℕ → List ℕ → Step
step edition limit [] = stops at_end
step edition limit (b ∷ rest) = step_of limit (b ∷ rest) (front_of edition b rest)

abbrev pub step_to : ℕ → Option TokenKind → Step
step_to n None = skips n
step_to n (Some k) = gives n k

-- From place p on the text gives these tokens, and at place q comes the ending.
pub data Scans (edition : Edition) (limit : ℕ) : Place → List ℕ → List Token → Place → Ending → Type 0 where
  stop : {p : Place} {text : List ℕ} {e : Ending} → step edition limit text ≡ stops e → Scans edition limit p text [] p e
  skip : {p : Place} {text : List ℕ} {ts : List Token} {q : Place} {e : Ending} {n : ℕ} → step edition limit text ≡ skips n →
      Scans edition limit (place_after p (take n text)) (drop n text) ts q e → Scans edition limit p text ts q e
  token : {p : Place} {text : List ℕ} {ts : List Token} {q : Place} {e : Ending} {n : ℕ} {k : TokenKind} → step edition limit text ≡ gives n k →
      Scans edition limit (place_after p (take n text)) (drop n text) ts q e → Scans edition limit p text (record { place = p; kind = k } ∷ ts) q e

-- the answer about the next piece
abbrev pub NextIs : Edition → ℕ → Place → List ℕ → Result Taken LexFault → Type 0
NextIs edition limit p text (Ok n) = step edition limit text ≡ step_to n.size n.kind
NextIs edition limit p text (Err (fault.BadByte q)) = (q ≡ p) × (step edition limit text ≡ stops bad_byte)
NextIs edition limit p text (Err (fault.NumberPast q)) = (q ≡ p) × (step edition limit text ≡ stops past_limit)
NextIs edition limit p text (Err fault.NoMemory) = Unit {0}

-- the tokens, or the first fault
abbrev pub ScanAnswer : Edition → ℕ → List ℕ → Result TokenList LexFault → Type 0
ScanAnswer edition limit text (Ok l) = Scans edition limit first_place text l.list.items l.end at_end
ScanAnswer edition limit text (Err (fault.BadByte q)) = (ts : List Token) × Scans edition limit first_place text ts q bad_byte
ScanAnswer edition limit text (Err (fault.NumberPast q)) = (ts : List Token) × Scans edition limit first_place text ts q past_limit
ScanAnswer edition limit text (Err fault.NoMemory) = Unit {0}
