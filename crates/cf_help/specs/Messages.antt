-- What is written of a refused source of edition 3.
use Rattle.std.specs.Prelude.{ℕ, List, [], ◌∷◌, codes, decimal, Option, Some, None}
use Rattle.std.specs.List.{concat}
use Rattle.cf_tree.specs.declared.base.Place.{Place}
use Rattle.cf_lex.specs.declared.token.Token.{Token}
use Rattle.cf_tree.specs.DefView.{RawItemTree}
use Rattle.cf_program.specs.declared.fault.TypeFault.{TypeFault}
use Rattle.cf_program.specs.declared.linearity.Linearity.{Linearity}
use Rattle.cf_help.specs.BadBytes.{found_first, bad_byte_help}
use Rattle.cf_help.specs.Faults.{Words, words, rule_words, rule_place}
use Rattle.cf_help.specs.Lines.{shown, bytes_at, source_lines}
use Rattle.cf_help.specs.Syntax.{found_token, stop_at, syntax_help}

abbrev pub help_line : Option (List ℕ) → List ℕ
help_line None = []
help_line (Some help) = concat (codes "help: " ∷ help ∷ codes "\n" ∷ [])

-- the name of a file, and a place of it where there is one
abbrev pub heading : List ℕ → Option Place → List ℕ
heading name None = concat (shown name ∷ codes ": " ∷ [])
heading name (Some p) = concat (shown name ∷ codes ":" ∷ decimal p.line ∷ codes ":" ∷ decimal p.column ∷ codes ": " ∷ [])

abbrev pub lines_at : List ℕ → Option Place → List ℕ
lines_at text None = []
lines_at text (Some p) = source_lines text p

-- Words about a place of the file of this name and this text, or about the whole of it.
abbrev pub message : List ℕ → List ℕ → Option Place → Words → List ℕ
message name text p w = concat (heading name p ∷ w.what ∷ codes "\n" ∷ lines_at text p ∷ help_line w.help ∷ [])

abbrev pub too_long_words : Words
too_long_words = words (codes "text too long" ∷ []) None

abbrev pub bad_byte_words : List ℕ → Place → Words
bad_byte_words text p = record { what = found_first (bytes_at text p); help = bad_byte_help (bytes_at text p) }

abbrev pub past_limit_words : Words
past_limit_words = words (codes "number past limit" ∷ []) (Some (codes "the greatest number is 170141183460469231731687303715884105727"))

-- reading stops at p, and these are the tokens of the text
abbrev pub syntax_words : List ℕ → List Token → Place → Words
syntax_words text ts p = record { what = found_token (bytes_at text p); help = syntax_help (stop_at ts p) }

-- a refused choose
abbrev pub choose_words : ℕ → List ℕ → Words
choose_words n refusal = words (codes "choose " ∷ decimal n ∷ codes ": " ∷ refusal ∷ []) None

-- the first rule that the program of a source breaks, where relations are linear so
abbrev pub rule_message : List ℕ → List ℕ → Linearity → List RawItemTree → TypeFault → List ℕ
rule_message name text how items e = message name text (rule_place e) (rule_words how items e)
