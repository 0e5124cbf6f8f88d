-- How replies are written: as text or as JSON, with the keys of their lines or without.
use Rattle.std.specs.Prelude.{◌≡◌, ℕ, ◌<◌, ◌≤◌, Bool, true, false, not, List, [], ◌∷◌, ◌++◌, length, ◌==◌, codes}
use Rattle.cf_io.specs.Limits.{line_limit}
use Rattle.cf_json.specs.Texts.{json_text, error_text}
use Rattle.cf_late.specs.ChooseRun.{LateOutcome}
use Rattle.cf_late.specs.Texts.{late_text}
use Rattle.cf_lex.specs.Runs.{AllAre}
use Rattle.cf_words.specs.declared.command.ReplyForm.{ReplyForm}

-- what is written of what a program comes to, and of a fault of these words
pub record Wording : Type 0 where
  pub told : LateOutcome → List ℕ
  pub fault : List ℕ → List ℕ

abbrev pub as_text : Wording
as_text = record { told = late_text; fault = λ words. words }

-- as JSON, where the results have these names
abbrev pub as_json : List (List ℕ) → Wording
as_json names = record { told = json_text names; fault = error_text }

-- whether replies have keys, and how they are worded
pub record Form : Type 0 where
  pub key : Bool
  pub wording : Wording

-- the form that is asked for, where the results have these names
abbrev pub wording_of : Bool → List (List ℕ) → Wording
wording_of false names = as_text
wording_of true names = as_json names

abbrev pub form_of : ReplyForm → List (List ℕ) → Form
form_of asked names = record { key = asked.key; wording = wording_of asked.jsonl names }

-- a byte of a key is no TAB
abbrev pub is_key_byte : ℕ → Bool
is_key_byte b = not (b == 9)

-- what replies to a line with a key, where Is says what replies to what stands behind the key
pub data IsKeyed (w : Wording) (Is : List ℕ → List ℕ → Type 0) (line : List ℕ) : List ℕ → Type 0 where
  too_long : line_limit < length line → IsKeyed w Is line (w.fault (codes "line too long"))
  no_key : length line ≤ line_limit → AllAre is_key_byte line → IsKeyed w Is line (w.fault (codes "bad input"))
  keyed : (key rest reply : List ℕ) → length line ≤ line_limit → line ≡ key ++ 9 ∷ rest → AllAre is_key_byte key → Is rest reply →
      IsKeyed w Is line (key ++ 9 ∷ reply)

abbrev pub ByKey : Bool → Wording → (List ℕ → List ℕ → Type 0) → List ℕ → List ℕ → Type 0
ByKey false w Is line reply = Is line reply
ByKey true w Is line reply = IsKeyed w Is line reply

-- what replies to a line in a form, where Is says what replies to a line without a key in a wording
abbrev pub InForm : Form → (Wording → List ℕ → List ℕ → Type 0) → List ℕ → List ℕ → Type 0
InForm f Is line reply = ByKey f.key f.wording (Is f.wording) line reply
