-- One more word of clap's walk behind a subcommand.
use Rattle.std.proofs.Common.{◌≡◌, ◌∙◌, ℕ, Bool, true, false, cond, refl, sym, ap, ap₂, List, [], ◌∷◌, fold, Option, Some, None, option_map, codes}
use Rattle.std.specs.Option.{option_map_or}
use Rattle.clap.proofs.FaultLemmas.{turn_is}
use Rattle.clap.proofs.WalkLemmas.{walked_is}
use Rattle.clap.specs.Faults.{bundle_fault, check_fault, flag_word_fault, defaults_fault, level_fault, other_fault, settle_fault, step_fault, turn_fault, walk_fault, word_fault}
use Rattle.clap.specs.Kinds.{Kinds, or_else}
use Rattle.clap.specs.Simple.{Shape}
use Rattle.clap.specs.Walk.{Held, Names, Rule, Row, Text, Walk, after_step, first_of, finished, idle, long_or_other, nothing_held, rows_after, settled, short_or_plain, subcommand_met, subcommand_or_other, trailing, value, walked, word_met}
use Rattle.clap.specs.declared.builder.value_parser.Reading.TheVariants.{AsWritten}
use Rattle.clap.specs.declared.parser.matches.ValueSource.TheVariants.{CommandLine}
use Rattle.cf_words.proofs.RowLemmas.{row_of_values}
use Rattle.cf_words.proofs.Uses.{IsOperand}
use Rattle.cf_words.specs.Grammar.{checks_found, flags_found, form_found, found_unless}
use Rattle.cf_words.specs.declared.command.CheckFlags.{CheckFlags}
use Rattle.cf_words.specs.declared.command.Flags.{Flags}
use Rattle.cf_words.specs.declared.command.ReplyForm.{ReplyForm}

-- what a command on one operand is asked
abbrev pub Asked : Type 0
Asked = Flags × ReplyForm × CheckFlags × Text

-- what is found in rows
abbrev pub said : List Row → Option Asked
said rows = option_map (λ o. (flags_found rows, form_found rows, checks_found rows, o)) (first_of (codes "operand") rows)

-- what a level comes to from a walk on
abbrev pub end_of : Shape → Walk → List Text → Held
end_of s w words = (fold (walked s.rules []) w words).held

abbrev pub kinds_behind : Shape → Held → Kinds
kinds_behind s end =
    or_else (settle_fault s.rules s.args_override_self end)
    (or_else (defaults_fault (settled s.rules end).rows s.rules) (check_fault s (finished s.rules end) false))

-- what `say` finds in the rows of a level, from a walk on, and from nothing; and one more word that passes, and one that does not
module _ {X : Type 0} (say : List Row → Option X) where
  abbrev pub found_from : Shape → Walk → List Text → Option X
  found_from s w words =
      found_unless (or_else (walk_fault s [] w words) (kinds_behind s (end_of s w words))) (say (finished s.rules (end_of s w words)))

  abbrev pub found_in : Shape → List Text → Option X
  found_in s words = found_unless (level_fault s [] nothing_held words false []) (say (rows_after s.rules [] words))

  abbrev pub after_turn : Shape → List Text → Kinds → Walk → Option X
  after_turn s words turn w =
      found_unless (or_else (or_else turn (walk_fault s [] w words)) (kinds_behind s (end_of s w words))) (say (finished s.rules (end_of s w words)))

  pub passes : (s : Shape) (w after : Walk) (word : Text) (words : List Text) → turn_fault s [] w word ≡ [] → walked s.rules [] w word ≡ after
      → found_from s w (word ∷ words) ≡ found_from s after words
  unfolding walk_fault
  passes s w after word words passed is = ap₂ (after_turn s words) passed is

  pub fails : (s : Shape) (w : Walk) (word : Text) (words : List Text) (kind : _) (kinds : Kinds) → turn_fault s [] w word ≡ kind ∷ kinds
      → found_from s w (word ∷ words) ≡ None
  unfolding walk_fault
  fails s w word words kind kinds failed = ap (λ turn. after_turn s words turn (walked s.rules [] w word)) failed

-- the walk between two words of a level
abbrev pub between : Held → ℕ → Walk
between held position = record { held = held; waiting = idle; position = position; is_trailing = false; stopped = None }

-- the rows so far, and the last word if the argument of this id has it
abbrev pub held_with : Text → List Row → Option Text → Held
held_with id rows last = record { rows = rows; pending = option_map (λ o. (id, o ∷ [])) last; skip = 0 }

abbrev pub at : List Row → Option Text → ℕ → Walk
at rows last position = between (held_with (codes "operand") rows last) position

abbrev pub flag_row : Text → Row
flag_row id = row_of_values id AsWritten CommandLine (codes "true" ∷ [])

abbrev pub row_with : Text → Text → Row
row_with id o = row_of_values id AsWritten CommandLine (o ∷ [])

abbrev pub operand_row : Text → Row
operand_row o = row_with (codes "operand") o

-- an operand is a value
module _ (word : Text) (is : IsOperand word) where
  pub operand_met : (c : List Rule) (names : Names) (position : ℕ) (h : Held) → subcommand_met names idle word ≡ None
      → word_met c names false idle position word h ≡ (h, value)
  operand_met c names position h none =
      ap (λ met. subcommand_or_other c met idle position word h) none
      ∙ ap₂ (λ dashes long. cond dashes (h, trailing position) (long_or_other c idle word long h)) is.no_dashes is.no_long
      ∙ ap (λ short. short_or_plain c idle word short h) is.no_short

  pub operand_fits : (s : Shape) (names : Names) (h : Held) → subcommand_met names idle word ≡ None → word_fault s names false idle word h ≡ []
  operand_fits s names h none =
      ap (λ met. other_fault s met word h) none
      ∙ ap₂ (λ dashes long. cond dashes [] (flag_word_fault s.rules s.args_override_self long word h)) is.no_dashes is.no_long
      ∙ ap (λ short. option_map_or (λ flags. bundle_fault s.rules s.args_override_self flags h) short []) is.no_short

  pub operand_turn : (s : Shape) (names : Names) (h : Held) (position : ℕ) → subcommand_met names idle word ≡ None
      → turn_fault s names (between h position) word ≡ step_fault s position h value
  operand_turn s names h position none =
      sym (turn_is s names (between h position) word h value (sym (operand_met s.rules names position h none)) (operand_fits s names h none))

  pub operand_walk : (s : Shape) (h : Held) (position : ℕ)
      → walked s.rules [] (between h position) word ≡ after_step s.rules word (between h position) h value
  operand_walk s h position =
      sym (walked_is s.rules [] (between h position) word h value (sym (operand_met s.rules [] position h refl)))

-- the operand that came before, if one came, and those that come
abbrev pub given_or : Option Text → List Text → List Text
given_or None words = words
given_or (Some o) words = o ∷ words

pub cond_same : {X : Type 0} (b : Bool) (x : X) → cond b x x ≡ x
cond_same true x = refl
cond_same false x = refl
