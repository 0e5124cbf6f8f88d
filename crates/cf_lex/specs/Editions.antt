-- Which edition a source is of: its first two tokens say it.
use Rattle.std.specs.Prelude.{ℕ, pos, ◌^◌, ◌-◌, Bool, true, false, List, [], ◌∷◌, take, drop, codes, ◌==◌, ◌&&◌, if◌then◌else◌}
use Rattle.std.specs.List.{prefix_len}
use Rattle.std.specs.Str.{bytes_eq}
use Rattle.cf_lex.specs.Bytes.{is_white, is_digit, is_in_word, is_in_comment}
use Rattle.cf_lex.specs.Digits.{digits_value}
use Rattle.cf_lex.specs.Places.{first_place}
use Rattle.cf_lex.specs.Tokens.{Lexes}
use Rattle.cf_tree.specs.declared.base.Edition.{Edition}
use Rattle.cf_tree.specs.declared.base.Edition.TheVariants.{Two, Three}
use Rattle.cf_lex.specs.declared.token.Token.{Token}
use Rattle.cf_lex.specs.declared.token.TokenKind.TheVariants.{Literal, Word}
use Rattle.cf_tree.specs.declared.base.Place.{Place}

-- the word comfusy and a literal of value 3
abbrev pub header : Place → Place → List Token
header p q = record { place = p; kind = Word (codes "comfusy") } ∷ record { place = q; kind = Literal (pos 3) } ∷ []

-- the text begins with these tokens, whatever bytes are left behind them
abbrev pub HasHeader : List ℕ → Type 0
HasHeader text = (p q r : Place) × (left : List ℕ) × Lexes Two (2 ^ 127 - 1) first_place text (header p q) r left

abbrev pub IsOfEdition : Edition → List ℕ → Type 0
IsOfEdition Two text = ¬ HasHeader text
IsOfEdition Three text = HasHeader text

-- the text behind white space and comments; it may begin within a comment
abbrev pub behind_blanks : Bool → List ℕ → List ℕ
behind_blanks within [] = []
behind_blanks true (b ∷ text) = behind_blanks (is_in_comment b) text
behind_blanks false (b ∷ text) = if is_white b then behind_blanks false text else (if b == 35 then behind_blanks true text else b ∷ text)

-- the longest run of such bytes at the front, and what is behind it
abbrev pub front_run : (ℕ → Bool) → List ℕ → List ℕ
front_run p text = take (prefix_len p text) text

abbrev pub behind_run : (ℕ → Bool) → List ℕ → List ℕ
behind_run p text = drop (prefix_len p text) text

abbrev pub begins_with_comfusy : List ℕ → Bool
begins_with_comfusy text = bytes_eq (front_run is_in_word text) (codes "comfusy")

abbrev pub begins_with_three : List ℕ → Bool
begins_with_three text = digits_value (front_run is_digit text) == 3

-- the header stands at the front, where no white space and no comment does
abbrev pub begins_with_header : List ℕ → Bool
begins_with_header text = begins_with_comfusy text && begins_with_three (behind_blanks false (behind_run is_in_word text))

-- the edition, read from left to right
abbrev pub edition_of : List ℕ → Edition
edition_of text = if begins_with_header (behind_blanks false text) then Three else Two
