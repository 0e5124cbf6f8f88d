-- What clap finds behind `emit`.
use Rattle.std.proofs.Common.{◌≡◌, ◌∙◌, ◌&&◌, ◌||◌, ◌++◌, ℕ, Bool, true, false, not, cond, refl, sym, ap, ap₂, true≢false, List, [], ◌∷◌, fold, Option, Some, None, is_some, option_map, option_and_then, unwrap_or, codes, bytes_eq}
use Rattle.std.specs.Option.{option_map_or}
use Rattle.std.specs.Prelude.{slice_get}
use Rattle.clap.proofs.FaultLemmas.{turn_is}
use Rattle.clap.proofs.OnLiterals.{clap_on_literals}
use Rattle.clap.proofs.WalkLemmas.{walked_is}
use Rattle.clap.specs.Facts.{explicit_source}
use Rattle.clap.specs.Faults.{bundle_fault, check_fault, default_fault, defaults_fault, flag_word_fault, settle_fault, step_fault, turn_fault, use_fault, walk_fault, word_fault}
use Rattle.clap.specs.Kinds.{Kinds, check_kinds, or_else}
use Rattle.clap.specs.Simple.{Shape, built_leaf, filled, inherited, with_index}
use Rattle.clap.specs.Walk.{Held, Rule, Row, Text, Walk, has_row, idle, long_or_other, next, option, settled_rows, short_or_plain, trailing, value, walked, with_default, word_met}
use Rattle.clap.specs.declared.error.kind.ErrorKind.TheVariants.{InvalidValue, UnknownArgument}
use Rattle.clap.specs.declared.builder.value_parser.Reading.TheVariants.{AsWritten}
use Rattle.clap.specs.declared.parser.matches.ValueSource.TheVariants.{CommandLine}
use Rattle.cf_words.proofs.EmitUses.{EmitUse, IsEmitOperand, emit_words_of, main_flag, name_flag, operand}
use Rattle.cf_words.proofs.FlaggedLaws.{default_row, flag_default, flag_found, other_default, own_default, with_flag_default}
use Rattle.cf_words.proofs.LevelLaws.{after_turn, between, cond_same, fails, flag_row, found_from, found_in, operand_turn, operand_walk, passes, row_with}
use Rattle.cf_words.proofs.RowLemmas.{added, found, has_row_is, kept, row_at}
use Rattle.cf_print.specs.Names.{is_name, is_reserved}
use Rattle.cf_print.specs.Words.{words_of}
use Rattle.cf_print.specs.declared.language.Language.{Language}
use Rattle.cf_words.specs.Commands.{Command, emit}
use Rattle.cf_words.specs.Grammar.{emit_found, emitting_subcommand, flag, found_unless, operand as the_operand, program, valued}
use Rattle.cf_words.specs.Words.{emit_for, emit_on, emit_operands, emit_with, first_or_none, language_of, name_in, operands_behind_name, stands, stands_twice}

abbrev pub emitting : Shape
emitting = built_leaf (inherited program.top (emitting_subcommand (codes "emit")).top)

abbrev language_rule : Rule
language_rule = with_index 1 (filled (the_operand (codes "language")))

abbrev file_rule : Rule
file_rule = with_index 2 (filled (the_operand (codes "file")))

abbrev main_rule : Rule
main_rule = with_index 3 (filled (flag (codes "main")))

abbrev name_rule : Rule
name_rule = with_index 3 (filled (valued (codes "name")))

-- the walk where nothing waits, where the argument of this id has its value, and behind `--name`
abbrev held : Option (Text × List Text) → List Row → Held
held pending rows = record { rows = rows; pending = pending; skip = 0 }

abbrev free : List Row → ℕ → Walk
free rows position = between (held None rows) position

abbrev holding : Text → Text → List Row → ℕ → Walk
holding id o rows position = between (held (Some (id, o ∷ [])) rows) position

abbrev waiting : List Row → ℕ → Walk
waiting rows position =
    record { held = held (Some (codes "name", [])) rows; waiting = option (codes "name"); position = position; is_trailing = false; stopped = None }

-- how many operands were read, and the position of the next
data Place : Type 0 where
  first : Place
  second : Place
  third : Place

abbrev number : Place → ℕ
number first = 1
number second = 2
number third = 3

abbrev from : Walk → List Text → Option Command
from w words = found_from emit_found emitting w words

and_false : (b : Bool) → (b && false) ≡ false
and_false true = refl
and_false false = refl

-- what is found at the end of the words, where no word is left that waits
abbrev settled_to : Kinds → List Row → Option Command
settled_to kinds rows =
    let end = fold with_default rows emitting.rules in
    found_unless (or_else [] (or_else kinds (or_else (defaults_fault rows emitting.rules) (check_fault emitting end false)))) (emit_found end)

-- a value that waits is settled by the next word, or by the end
module _ (id o : Text) (rows : List Row) (settles : settle_fault emitting.rules emitting.args_override_self (held (Some (id, o ∷ [])) rows) ≡ [])
    (is : settled_rows emitting.rules (Some (id, o ∷ [])) rows ≡ rows ++ row_with id o ∷ []) where
  abbrev more : List Row
  more = rows ++ row_with id o ∷ []

  main_turns : (position : ℕ) → turn_fault emitting [] (holding id o rows position) (codes "--main") ≡ turn_fault emitting [] (free more position)
      (codes "--main")
  unfolding clap_on_literals
  main_turns position = ap₂ (λ kinds rs. or_else (or_else kinds (use_fault emitting.args_override_self main_rule [] rs)) []) settles is

  main_walks : (position : ℕ) → walked emitting.rules [] (holding id o rows position) (codes "--main") ≡ walked emitting.rules [] (free more position)
      (codes "--main")
  unfolding clap_on_literals
  main_walks position = ap (λ rs. walked emitting.rules [] (free rs position) (codes "--main")) is

  name_turns : (position : ℕ) → turn_fault emitting [] (holding id o rows position) (codes "--name") ≡ turn_fault emitting [] (free more position)
      (codes "--name")
  unfolding clap_on_literals
  name_turns position = ap (λ kinds. or_else kinds []) settles

  name_walks : (position : ℕ) → walked emitting.rules [] (holding id o rows position) (codes "--name") ≡ walked emitting.rules [] (free more position)
      (codes "--name")
  unfolding clap_on_literals
  name_walks position = ap (λ rs. walked emitting.rules [] (free rs position) (codes "--name")) is

  -- an operand where the argument of this rule takes it
  module _ (word : Text) (is_one : IsEmitOperand word) where
    operand_turns : (position : ℕ) (pending : Bool)
        → step_fault emitting position (holding id o rows position).held value
        ≡ cond (pending && false) [] (settle_fault emitting.rules emitting.args_override_self (held (Some (id, o ∷ [])) rows))
        → turn_fault emitting [] (holding id o rows position) word ≡ []
    operand_turns position pending step =
        operand_turn word is_one.is emitting [] (holding id o rows position).held position refl ∙ step
        ∙ ap₂ (λ b kinds. cond b [] kinds) (and_false pending) settles

    first_turns : turn_fault emitting [] (holding id o rows 1) word ≡ turn_fault emitting [] (free more 1) word
    first_turns = operand_turns 1 (bytes_eq id (codes "language")) refl ∙ sym (operand_turn word is_one.is emitting [] (free more 1).held 1 refl)

    second_turns : turn_fault emitting [] (holding id o rows 2) word ≡ turn_fault emitting [] (free more 2) word
    second_turns = operand_turns 2 (bytes_eq id (codes "file")) refl ∙ sym (operand_turn word is_one.is emitting [] (free more 2).held 2 refl)

    -- what is held behind it, whether or not the argument was waiting
    abbrev held_behind : Text → Bool → List Row → Held
    held_behind next_id b rs =
        let h = cond b (held (Some (id, o ∷ [])) rows) (held None rs) in
        record h { pending = Some ((unwrap_or h.pending (next_id, [])).0, (unwrap_or h.pending (next_id, [])).1 ++ word ∷ []) }

    first_walks : walked emitting.rules [] (holding id o rows 1) word ≡ walked emitting.rules [] (free more 1) word
    first_walks =
        operand_walk word is_one.is emitting (holding id o rows 1).held 1
        ∙ ap₂ (λ b rs. between (held_behind (codes "language") b rs) 2) (and_false (bytes_eq id (codes "language"))) is
        ∙ sym (operand_walk word is_one.is emitting (free more 1).held 1)

    second_walks : walked emitting.rules [] (holding id o rows 2) word ≡ walked emitting.rules [] (free more 2) word
    second_walks =
        operand_walk word is_one.is emitting (holding id o rows 2).held 2
        ∙ ap₂ (λ b rs. between (held_behind (codes "file") b rs) 3) (and_false (bytes_eq id (codes "file"))) is
        ∙ sym (operand_walk word is_one.is emitting (free more 2).held 2)

  settled_before : (p : Place) (us : List EmitUse) → from (holding id o rows (number p)) (emit_words_of us) ≡ from (free more (number p)) (emit_words_of us)
  unfolding walk_fault
  settled_before p [] = ap₂ settled_to settles is
  settled_before p (main_flag ∷ us) = ap₂ (after_turn emit_found emitting (emit_words_of us)) (main_turns (number p)) (main_walks (number p))
  settled_before p (name_flag ∷ us) = ap₂ (after_turn emit_found emitting (emit_words_of us)) (name_turns (number p)) (name_walks (number p))
  settled_before first (operand word is_one ∷ us) = ap₂ (after_turn emit_found emitting (emit_words_of us)) (first_turns word is_one) (first_walks word is_one)
  settled_before second (operand word is_one ∷ us) =
      ap₂ (after_turn emit_found emitting (emit_words_of us)) (second_turns word is_one) (second_walks word is_one)
  settled_before third (operand word is_one ∷ us) =
      fails emit_found emitting (holding id o rows 3) word (emit_words_of us) UnknownArgument []
      (operand_turn word is_one.is emitting [] (holding id o rows 3).held 3 refl)
      ∙ sym (fails emit_found emitting (free more 3) word (emit_words_of us) UnknownArgument []
      (operand_turn word is_one.is emitting [] (free more 3).held 3 refl))

unused : (id : Text) (rows : List Row) → row_at id rows ≡ None → has_row id rows ≡ false
unused id rows none = has_row_is id rows ∙ ap (λ r. is_some r) none

language_settles : (o : Text) (rows : List Row) → row_at (codes "language") rows ≡ None → (p : Place) (us : List EmitUse)
    → from (holding (codes "language") o rows (number p)) (emit_words_of us) ≡ from (free (rows ++ row_with (codes "language") o ∷ []) (number p))
    (emit_words_of us)
language_settles o rows none =
    let free_of : has_row (codes "language") rows ≡ false = unused (codes "language") rows none in
    settled_before (codes "language") o rows (rw free_of refl) (added (codes "language") AsWritten CommandLine (o ∷ []) rows none)

file_settles : (o : Text) (rows : List Row) → row_at (codes "file") rows ≡ None → (p : Place) (us : List EmitUse)
    → from (holding (codes "file") o rows (number p)) (emit_words_of us) ≡ from (free (rows ++ row_with (codes "file") o ∷ []) (number p)) (emit_words_of us)
file_settles o rows none =
    let free_of : has_row (codes "file") rows ≡ false = unused (codes "file") rows none in
    settled_before (codes "file") o rows (rw free_of refl) (added (codes "file") AsWritten CommandLine (o ∷ []) rows none)

name_settles : (o : Text) (rows : List Row) → row_at (codes "name") rows ≡ None → (p : Place) (us : List EmitUse)
    → from (holding (codes "name") o rows (number p)) (emit_words_of us) ≡ from (free (rows ++ row_with (codes "name") o ∷ []) (number p)) (emit_words_of us)
name_settles o rows none =
    let free_of : has_row (codes "name") rows ≡ false = unused (codes "name") rows none in
    settled_before (codes "name") o rows (rw free_of refl) (added (codes "name") AsWritten CommandLine (o ∷ []) rows none)

-- ---- one more word
main_turn : (rows : List Row) (position : ℕ) → has_row (codes "main") rows ≡ false → turn_fault emitting [] (free rows position) (codes "--main") ≡ []
unfolding clap_on_literals
main_turn rows position free_of = rw free_of refl

main_walk : (rows : List Row) (position : ℕ) → row_at (codes "main") rows ≡ None
    → walked emitting.rules [] (free rows position) (codes "--main") ≡ free (rows ++ flag_row (codes "main") ∷ []) position
unfolding clap_on_literals
main_walk rows position none = ap (λ rs. free rs position) (added (codes "main") AsWritten CommandLine (codes "true" ∷ []) rows none)

name_turn : (rows : List Row) (position : ℕ) → turn_fault emitting [] (free rows position) (codes "--name") ≡ []
unfolding clap_on_literals
name_turn rows position = refl

name_walk : (rows : List Row) (position : ℕ) → walked emitting.rules [] (free rows position) (codes "--name") ≡ waiting rows position
unfolding clap_on_literals
name_walk rows position = refl

-- `--name` at the end, and before `--main`
no_value : (rows : List Row) (position : ℕ) → from (waiting rows position) [] ≡ None
unfolding clap_on_literals
no_value rows position = refl

flag_for_a_value : (rows : List Row) (position : ℕ) → turn_fault emitting [] (waiting rows position) (codes "--main") ≡ InvalidValue ∷ []
unfolding clap_on_literals
flag_for_a_value rows position = refl

-- a word behind `--name`
module _ (word : Text) (is_one : IsEmitOperand word) (rows : List Row) (position : ℕ) where
  abbrev behind : Held
  behind = held (Some (codes "name", word ∷ [])) rows

  value_met : word_met emitting.rules [] false (option (codes "name")) position word (waiting rows position).held ≡ (behind, next idle)
  value_met =
      let h = (waiting rows position).held in
      ap₂ (λ dashes long. cond dashes (h, trailing position) (long_or_other emitting.rules (option (codes "name")) word long h)) is_one.is.no_dashes
      is_one.is.no_long
      ∙ ap (λ short. short_or_plain emitting.rules (option (codes "name")) word short h) is_one.is.no_short

  value_fits : word_fault emitting [] false (option (codes "name")) word (waiting rows position).held ≡ []
  value_fits =
      let h = (waiting rows position).held in
      ap₂ (λ dashes long. cond dashes [] (flag_word_fault emitting.rules emitting.args_override_self long word h)) is_one.is.no_dashes is_one.is.no_long
      ∙ ap (λ short. option_map_or (λ flags. bundle_fault emitting.rules emitting.args_override_self flags h) short []) is_one.is.no_short

  value_turn : turn_fault emitting [] (waiting rows position) word ≡ []
  value_turn = sym (turn_is emitting [] (waiting rows position) word behind (next idle) (sym value_met) value_fits)

  value_walk : walked emitting.rules [] (waiting rows position) word ≡ holding (codes "name") word rows position
  value_walk = sym (walked_is emitting.rules [] (waiting rows position) word behind (next idle) (sym value_met))

-- ---- the end
-- the operands that were given
data Given : Type 0 where
  none_given : Given
  one_given : Text → Given
  two_given : Text → Text → Given

abbrev given : Given → List Text
given none_given = []
given (one_given language) = language ∷ []
given (two_given language file) = language ∷ file ∷ []

abbrev language_in : Given → Option Text
language_in none_given = None
language_in (one_given language) = Some language
language_in (two_given language file) = Some language

abbrev file_in : Given → Option Text
file_in none_given = None
file_in (one_given language) = None
file_in (two_given language file) = Some file

abbrev place_of : Given → Place
place_of none_given = first
place_of (one_given language) = second
place_of (two_given language file) = third

-- a name that came before, or one that comes
abbrev name_behind : Option Text → Option Text → Option Text
name_behind None coming = coming
name_behind (Some name) coming = Some name

-- what is asked by words behind the flag, the name and the operands that came before
abbrev asked_behind : Bool → Option Text → Given → List Text → Option Command
asked_behind m n g words = emit_with (m || stands (codes "--main") words) (name_behind n (name_in words)) (given g ++ emit_operands words)

-- the rows tell these
record Tells (m : Bool) (n : Option Text) (g : Given) (rows : List Row) : Type 0 where
  main : row_at (codes "main") rows ≡ flag_found (codes "main") m
  name : row_at (codes "name") rows ≡ option_map (row_with (codes "name")) n
  language : row_at (codes "language") rows ≡ option_map (row_with (codes "language")) (language_in g)
  file : row_at (codes "file") rows ≡ option_map (row_with (codes "file")) (file_in g)

-- what the rows at the end have, and what is found in them
abbrev of_rows : Option Row → Option Row → Option Row → Option Row → Option Command
of_rows main_row name_row language_row file_row =
    let text = λ (r : Option Row). option_and_then (λ x. slice_get x.values 0) r in
    let is_true = λ (r : Option Row). option_map_or (λ t. bytes_eq t (codes "true")) (text r) false in
    let is_given = λ (r : Option Row). option_map_or (λ x. explicit_source x.source) r false in
    found_unless (check_kinds false false (not (is_given language_row) || (not (is_given file_row) || false)))
    (option_and_then (λ language. option_and_then (emit_on language (is_true main_row) (text name_row)) (text file_row))
    (text language_row))

abbrev rows_of : Bool → Option Text → Given → Option Command
rows_of m n g =
    of_rows (Some (cond m (flag_row (codes "main")) (default_row (codes "main")))) (option_map (row_with (codes "name")) n)
    (option_map (row_with (codes "language")) (language_in g)) (option_map (row_with (codes "file")) (file_in g))

answer_is : (m : Bool) (n : Option Text) (g : Given) → rows_of m n g ≡ asked_behind m n g []
answer_is m n none_given = refl
answer_is m n (one_given language) = refl
answer_is true None (two_given language file) = refl
answer_is true (Some o) (two_given language file) = refl
answer_is false None (two_given language file) = refl
answer_is false (Some o) (two_given language file) = refl

no_default_fault : (rows : List Row) → defaults_fault rows emitting.rules ≡ []
unfolding clap_on_literals
no_default_fault rows =
    let after_language = with_default rows language_rule in
    let after_file = with_default after_language file_rule in
    let after_main = with_default after_file main_rule in
    let language_passes : default_fault rows language_rule ≡ [] = cond_same _ [] in
    let file_passes : default_fault after_language file_rule ≡ [] = cond_same _ [] in
    let main_passes : default_fault after_file main_rule ≡ [] = cond_same _ [] in
    let name_passes : default_fault after_main name_rule ≡ [] = cond_same _ [] in
    λ i. or_else (language_passes i) (or_else (file_passes i) (or_else (main_passes i) (or_else (name_passes i) [])))

finished_is : (m : Bool) (rows : List Row) → row_at (codes "main") rows ≡ flag_found (codes "main") m
    → fold with_default rows emitting.rules ≡ with_flag_default (codes "main") m rows
finished_is m rows h =
    let end = with_flag_default (codes "main") m rows in
    ap (λ rs. fold with_default rs (file_rule ∷ main_rule ∷ name_rule ∷ [])) (cond_same (has_row (codes "language") rows) rows)
    ∙ ap (λ rs. fold with_default rs (main_rule ∷ name_rule ∷ [])) (cond_same (has_row (codes "file") rows) rows)
    ∙ ap (λ rs. fold with_default rs (name_rule ∷ [])) (flag_default (codes "main") m rows h)
    ∙ cond_same (has_row (codes "name") end) end

ends : (m : Bool) (n : Option Text) (g : Given) (rows : List Row) (position : ℕ) → Tells m n g rows
    → from (free rows position) [] ≡ asked_behind m n g []
unfolding walk_fault
ends m n g rows position h =
    let main_is = own_default (codes "main") m rows refl h.main in
    let name_is = other_default (codes "main") (codes "name") m rows refl ∙ h.name in
    let language_is = other_default (codes "main") (codes "language") m rows refl ∙ h.language in
    let file_is = other_default (codes "main") (codes "file") m rows refl ∙ h.file in
    ap₂ (λ kinds rs. found_unless (or_else [] (or_else [] (or_else kinds (check_fault emitting rs false)))) (emit_found rs)) (no_default_fault rows)
    (finished_is m rows h.main)
    ∙ (λ i. of_rows (main_is i) (name_is i) (language_is i) (file_is i)) ∙ answer_is m n g

-- ---- all words
-- what is no name leaves nothing asked
abbrev nothing : Language → Option Command
nothing l = None

none_of : (o : Option Language) → option_and_then nothing o ≡ None
none_of None = refl
none_of (Some l) = refl

no_name : (name : Text) → is_name name ≡ false → (m : Bool) (os : List Text) → emit_with m (Some name) os ≡ None
no_name name h m [] = refl
no_name name h m (language ∷ []) = refl
no_name name h m (language ∷ file ∷ []) =
    ap (λ o. cond (bytes_eq language (codes "smt")) None o)
    (ap (λ b. option_and_then (λ l. cond (b && not (is_reserved (words_of l) name))
    (Some (emit (record { language = l; has_main = m; name = name }) file)) None) (language_of language)) h
    ∙ none_of (language_of language))
    ∙ cond_same (bytes_eq language (codes "smt")) None
no_name name h m (language ∷ file ∷ other ∷ os) = refl

-- no flag comes that came before, and none comes twice
abbrev comes_again : Text → Bool → List Text → Bool
comes_again dashed came words = cond came (stands dashed words) (stands_twice dashed words)

record AreOnce (m : Bool) (n : Option Text) (words : List Text) : Type 0 where
  main : comes_again (codes "--main") m words ≡ false
  name : comes_again (codes "--name") (is_some n) words ≡ false

module _ (word : Text) (is_one : IsEmitOperand word) where
  -- an operand among words is neither flag
  abbrev asked_as : Bool → Option Text → Given → List Text → Bool → Bool → Option Command
  asked_as m n g words is_main is_name =
      emit_with (m || (is_main || stands (codes "--main") words)) (name_behind n (cond is_name (Some (first_or_none words)) (name_in words)))
      (given g ++ cond is_name (operands_behind_name words) (cond is_main (emit_operands words) (word ∷ emit_operands words)))

  operand_asked : (m : Bool) (n : Option Text) (g : Given) (words : List Text)
      → asked_behind m n g (word ∷ words)
      ≡ emit_with (m || stands (codes "--main") words) (name_behind n (name_in words)) (given g ++ word ∷ emit_operands words)
  operand_asked m n g words = ap₂ (asked_as m n g words) is_one.no_main is_one.no_name

  -- a name among words is no flag
  name_asked : (m : Bool) (g : Given) (words : List Text) → asked_behind m None g (codes "--name" ∷ word ∷ words) ≡ asked_behind m (Some word) g words
  name_asked m g words = ap (λ b. emit_with (m || (b || stands (codes "--main") words)) (Some word) (given g ++ emit_operands words)) is_one.no_main

  comes_behind : (m : Bool) (dashed : Text) (words : List Text) → bytes_eq word dashed ≡ false →
      comes_again dashed m (word ∷ words) ≡ comes_again dashed m words
  comes_behind m dashed words other = ap (λ b. cond m (b || stands dashed words) (cond b (stands dashed words) (stands_twice dashed words))) other

  once_behind : (m : Bool) (n : Option Text) (words : List Text) → AreOnce m n (word ∷ words) → AreOnce m n words
  once_behind m n words h = record {
    main = sym (comes_behind m (codes "--main") words is_one.no_main) ∙ h.main;
    name = sym (comes_behind (is_some n) (codes "--name") words is_one.no_name) ∙ h.name;
  }

  once_named : (m : Bool) (words : List Text) → AreOnce m None (codes "--name" ∷ word ∷ words) → AreOnce m (Some word) words
  once_named m words h = record {
    main = sym (comes_behind m (codes "--main") words is_one.no_main) ∙ h.main;
    name = sym (ap (λ b. b || stands (codes "--name") words) is_one.no_name) ∙ h.name;
  }

all_go : (us : List EmitUse) (m : Bool) (n : Option Text) (g : Given) (rows : List Row) → Tells m n g rows → AreOnce m n (emit_words_of us)
    → from (free rows (number (place_of g))) (emit_words_of us) ≡ asked_behind m n g (emit_words_of us)
all_go [] m n g rows h once = ends m n g rows (number (place_of g)) h
all_go (main_flag ∷ us) true n g rows h once = absurd (true≢false once.main)
all_go (main_flag ∷ us) false n g rows h once =
    let row = flag_row (codes "main") in
    let position = number (place_of g) in
    passes emit_found emitting (free rows position) (free (rows ++ row ∷ []) position) (codes "--main") (emit_words_of us)
    (main_turn rows position (unused (codes "main") rows h.main)) (main_walk rows position h.main)
    ∙ all_go us true n g (rows ++ row ∷ [])
    (record {
      main = found (codes "main") row rows refl h.main;
      name = kept (codes "name") row rows refl ∙ h.name;
      language = kept (codes "language") row rows refl ∙ h.language;
      file = kept (codes "file") row rows refl ∙ h.file;
    }) (record { main = once.main; name = once.name })
all_go (name_flag ∷ us) m (Some o) g rows h once = absurd (true≢false once.name)
all_go (name_flag ∷ []) m None g rows h once =
    let position = number (place_of g) in
    passes emit_found emitting (free rows position) (waiting rows position) (codes "--name") [] (name_turn rows position) (name_walk rows position)
    ∙ no_value rows position ∙ sym (no_name [] refl (m || stands (codes "--main") (emit_words_of (name_flag ∷ [])))
    (given g ++ emit_operands (emit_words_of (name_flag ∷ []))))
all_go (name_flag ∷ main_flag ∷ us) m None g rows h once =
    let position = number (place_of g) in
    passes emit_found emitting (free rows position) (waiting rows position) (codes "--name") (codes "--main" ∷ emit_words_of us) (name_turn rows position)
    (name_walk rows position)
    ∙ fails emit_found emitting (waiting rows position) (codes "--main") (emit_words_of us) InvalidValue [] (flag_for_a_value rows position)
    ∙ sym (no_name (codes "--main") refl (m || stands (codes "--main") (emit_words_of (name_flag ∷ main_flag ∷ us)))
    (given g ++ emit_operands (emit_words_of (name_flag ∷ main_flag ∷ us))))
all_go (name_flag ∷ name_flag ∷ us) m None g rows h once = absurd (true≢false once.name)
all_go (name_flag ∷ operand word is_one ∷ us) m None g rows h once =
    let row = row_with (codes "name") word in
    let position = number (place_of g) in
    passes emit_found emitting (free rows position) (waiting rows position) (codes "--name") (word ∷ emit_words_of us) (name_turn rows position)
    (name_walk rows position)
    ∙ passes emit_found emitting (waiting rows position) (holding (codes "name") word rows position) word (emit_words_of us)
    (value_turn word is_one rows position)
    (value_walk word is_one rows position)
    ∙ name_settles word rows h.name (place_of g) us
    ∙ all_go us m (Some word) g (rows ++ row ∷ [])
    (record {
      main = kept (codes "main") row rows refl ∙ h.main;
      name = found (codes "name") row rows refl h.name;
      language = kept (codes "language") row rows refl ∙ h.language;
      file = kept (codes "file") row rows refl ∙ h.file;
    }) (once_named word is_one m (emit_words_of us) once)
    ∙ sym (name_asked word is_one m g (emit_words_of us))
all_go (operand word is_one ∷ us) m n none_given rows h once =
    let row = row_with (codes "language") word in
    passes emit_found emitting (free rows 1) (holding (codes "language") word rows 2) word (emit_words_of us)
    (operand_turn word is_one.is emitting [] (free rows 1).held 1 refl) (operand_walk word is_one.is emitting (free rows 1).held 1)
    ∙ language_settles word rows h.language second us
    ∙ all_go us m n (one_given word) (rows ++ row ∷ [])
    (record {
      main = kept (codes "main") row rows refl ∙ h.main;
      name = kept (codes "name") row rows refl ∙ h.name;
      language = found (codes "language") row rows refl h.language;
      file = kept (codes "file") row rows refl ∙ h.file;
    }) (once_behind word is_one m n (emit_words_of us) once)
    ∙ sym (operand_asked word is_one m n none_given (emit_words_of us))
all_go (operand word is_one ∷ us) m n (one_given language) rows h once =
    let row = row_with (codes "file") word in
    passes emit_found emitting (free rows 2) (holding (codes "file") word rows 3) word (emit_words_of us)
    (operand_turn word is_one.is emitting [] (free rows 2).held 2 refl) (operand_walk word is_one.is emitting (free rows 2).held 2)
    ∙ file_settles word rows h.file third us
    ∙ all_go us m n (two_given language word) (rows ++ row ∷ [])
    (record {
      main = kept (codes "main") row rows refl ∙ h.main;
      name = kept (codes "name") row rows refl ∙ h.name;
      language = kept (codes "language") row rows refl ∙ h.language;
      file = found (codes "file") row rows refl h.file;
    }) (once_behind word is_one m n (emit_words_of us) once)
    ∙ sym (operand_asked word is_one m n (one_given language) (emit_words_of us))
all_go (operand word is_one ∷ us) m n (two_given language file) rows h once =
    fails emit_found emitting (free rows 3) word (emit_words_of us) UnknownArgument [] (operand_turn word is_one.is emitting [] (free rows 3).held 3 refl)
    ∙ sym (operand_asked word is_one m n (two_given language file) (emit_words_of us))

pub emit_found_are : (us : List EmitUse) → stands_twice (codes "--main") (emit_words_of us) ≡ false → stands_twice (codes "--name") (emit_words_of us) ≡ false
    → found_in emit_found emitting (emit_words_of us) ≡ emit_for (emit_words_of us)
emit_found_are us main_once name_once =
    all_go us false None none_given [] (record { main = refl; name = refl; language = refl; file = refl }) (record { main = main_once; name = name_once })
