-- What is written of how a command ended: of a source of edition 3 that is refused the message about it, and of all else its line.
use Rattle.std.specs.Prelude.{◌≡◌, ◌⊎◌, ◌+◌, ℕ, List, [], ◌∷◌, take, codes, Option, Some, None, Result, Ok, Err}
use Rattle.cf_lex.specs.Editions.{edition_of}
use Rattle.cf_lex.specs.Tokens.{at_end}
use Rattle.cf_lex.specs.declared.token.Token.{Token}
use Rattle.cf_tree.specs.DefView.{RawItemTree}
use Rattle.cf_tree.specs.declared.base.Edition.{Edition}
use Rattle.cf_tree.specs.declared.base.Edition.TheVariants.{Two, Three}
use Rattle.cf_tree.specs.declared.base.Place.{Place}
use Rattle.cf_program.specs.Checked.{functions_of}
use Rattle.cf_program.specs.declared.linearity.Linearity.{Linearity}
use Rattle.cf_program.specs.declared.linearity.Linearity.TheVariants.{Plain, Late}
use Rattle.cf_linear.specs.Reasons.{refusal_text}
use Rattle.cf_help.specs.Faults.{count_words}
use Rattle.cf_help.specs.Messages.{message, bad_byte_words, choose_words, past_limit_words, rule_message, syntax_words, too_long_words}
use Rattle.cf_help.specs.Numbers.{function_place, number_place}
use Rattle.cf_words.specs.Commands.{Command, compile, run, pre, check, prove, emit, goals, verify}
use Rattle.cf_answer.specs.Commands.{names_of}
use Rattle.cf_answer.specs.Limits.{text_limit, of_source}
use Rattle.cf_answer.specs.Outside.{AreTold}
use Rattle.cf_answer.specs.Sources.{HasTokens, SpellsProgram}
use Rattle.cf_answer.specs.Texts.{answer_line, fault_line}
use Rattle.cf_answer.specs.declared.ended.Ended.{Ended}
use Rattle.cf_answer.specs.declared.fault.Fault.{Fault}
use Rattle.cf_answer.specs.declared.fault.Fault.TheVariants as fault

-- the name of the source of a command that takes one
abbrev pub source_of : Command → Option (List ℕ)
source_of (compile flags file) = Some file
source_of (run flags form file) = Some file
source_of (pre file) = Some file
source_of (check strictness file) = Some file
source_of (prove file) = Some file
source_of (emit e file) = Some file
source_of (goals file) = Some file
source_of (verify file steps) = Some file
source_of command = None

-- which relations are linear where a command refuses a source for its rules: `run` refuses one whose relations are not linear only as a late program
abbrev pub linearity_of : Command → Linearity
linearity_of (run flags form file) = Late
linearity_of command = Plain

-- these words about the program that the text spells
abbrev pub IsAbout : List ℕ → (List RawItemTree → List ℕ) → List ℕ → Type 0
IsAbout text words line = (items : List RawItemTree) × SpellsProgram text items × (line ≡ words items)

-- what is written of a fault in edition 3, where the source has this name and this text
abbrev pub IsSaid : Linearity → List ℕ → List ℕ → Fault → List ℕ → Type 0
IsSaid how name text fault.TextTooLong line = line ≡ message name text None too_long_words
IsSaid how name text (fault.BadByte p) line = line ≡ message name text (Some p) (bad_byte_words text p)
IsSaid how name text (fault.NumberPast p) line = line ≡ message name text (Some p) past_limit_words
IsSaid how name text (fault.Syntax p) line =
    (ts : List Token) × (end : Place) × HasTokens (of_source Three) text ts end at_end × (line ≡ message name text (Some p) (syntax_words text ts p))
IsSaid how name text (fault.Rule e) line = IsAbout text (λ items. rule_message name text how items e) line
IsSaid how name text (fault.Choose n r) line =
    IsAbout text (λ items. message name text (number_place items n) (choose_words n (refusal_text r))) line
IsSaid how name text (fault.Weight f w) line =
    IsAbout text (λ items. message name text (function_place (functions_of items) f) (count_words (codes "Weight") w)) line
IsSaid how name text (fault.Depth f d) line =
    IsAbout text (λ items. message name text (function_place (functions_of items) f) (count_words (codes "Depth") d)) line
IsSaid how name text f line = line ≡ fault_line f

-- as much of a source text as is read: all of it, or one byte more than it may have
abbrev pub front_of : List ℕ → List ℕ
front_of text = take (text_limit + 1) text

-- the same by the edition
abbrev pub IsSaidIn : Edition → Linearity → List ℕ → List ℕ → Fault → List ℕ → Type 0
IsSaidIn Two how name text f line = line ≡ fault_line f
IsSaidIn Three how name text f line = IsSaid how name text f line

-- what is written of an answer to a command on a source of this name and this text
abbrev pub IsWritten : Linearity → List ℕ → List ℕ → Result (Unit {0}) Fault → List ℕ → Type 0
IsWritten how name text (Ok done) line = line ≡ []
IsWritten how name text (Err f) line = IsSaidIn (edition_of (front_of text)) how name text f line

-- what is written of an answer, where the source of the command, if it takes one, has a text of these, as far as they are told
abbrev pub IsWrittenOf : Option (List ℕ) → Linearity → (List ℕ → Option (List ℕ)) → Result (Unit {0}) Fault → List ℕ → Type 0
IsWrittenOf None how texts answer line = line ≡ answer_line answer
IsWrittenOf (Some name) how texts answer line = (text : List ℕ) × AreTold (texts name) text × IsWritten how name text answer line

-- in edition 3 nothing need be written of an output that failed, since whoever reads it may have gone away
abbrev pub IsDeserted : List (List ℕ) → (List ℕ → Option (List ℕ)) → Result (Unit {0}) Fault → List ℕ → Type 0
IsDeserted [] texts answer line = ⊥
IsDeserted (name ∷ names) texts answer line =
    (answer ≡ Err fault.Output) × (line ≡ []) × (text : List ℕ) × AreTold (texts name) text × (edition_of text ≡ Three)

abbrev pub IsWrittenBy : Option Command → (List ℕ → Option (List ℕ)) → Result (Unit {0}) Fault → List ℕ → Type 0
IsWrittenBy None texts answer line = line ≡ answer_line answer
IsWrittenBy (Some c) texts answer line =
    IsWrittenOf (source_of c) (linearity_of c) texts answer line ⊎ IsDeserted (names_of c) texts answer line

-- ---- within the program
-- what is written of an end
abbrev pub message_or : Option (List ℕ) → List ℕ → List ℕ
message_or None line = line
message_or (Some message) line = message

abbrev pub line_of : Ended → List ℕ
line_of e = message_or e.message (answer_line e.answer)

-- a fault of the text of a source
abbrev pub IsOfText : Result (Unit {0}) Fault → Type 0
IsOfText (Err fault.TextTooLong) = Unit {0}
IsOfText (Err (fault.BadByte p)) = Unit {0}
IsOfText (Err (fault.NumberPast p)) = Unit {0}
IsOfText (Err (fault.Syntax p)) = Unit {0}
IsOfText (Err (fault.Rule e)) = Unit {0}
IsOfText (Err (fault.Choose n r)) = Unit {0}
IsOfText (Err (fault.Weight f w)) = Unit {0}
IsOfText (Err (fault.Depth f d)) = Unit {0}
IsOfText answer = ⊥
