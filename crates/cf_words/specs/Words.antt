-- The words of the command line, and the command that they are.
use Rattle.std.specs.Prelude.{◌≡◌, ⊤, ℕ, List, [], ◌∷◌, Bool, false, not, ◌&&◌, ◌||◌, ◌==◌, if◌then◌else◌, Option, Some, None, is_some, option_map, option_and_then, unwrap_or, find, filter, codes, decimal, bytes_eq, Result, Ok, Err}
use Rattle.std.specs.List.{list_all, list_any, range_with_len}
use Rattle.cf_print.specs.Names.{may_name}
use Rattle.cf_print.specs.Words.{words_of}
use Rattle.cf_print.specs.declared.language.Language.{Language}
use Rattle.cf_print.specs.declared.language.Language.TheVariants.{C, Python, JavaScript, Rust}
use Rattle.cf_words.specs.Commands.{Command, Emitting, compile, run, pre, check, exec, prove, emit, goals, verify, gen, help, version, plain_command}
use Rattle.cf_words.specs.declared.command.Command as declared
use Rattle.cf_words.specs.declared.command.CheckFlags.{CheckFlags}
use Rattle.cf_words.specs.declared.command.Flags.{Flags}
use Rattle.cf_words.specs.declared.command.ReplyForm.{ReplyForm}
use Rattle.cf_words.specs.declared.command.Strictness.{Strictness}
use Rattle.cf_words.specs.declared.command.Strictness.TheVariants as strictness
use Rattle.cf_words.specs.declared.fault.WordsFault.{WordsFault}
use Rattle.cf_words.specs.declared.fault.WordsFault.TheVariants.{Usage, NoMemory}

-- one of the six flags, and of the two of `emit`
abbrev pub is_flag : List ℕ → Bool
is_flag word =
    bytes_eq word (codes "--plain") || bytes_eq word (codes "--stats") || bytes_eq word (codes "--key") || bytes_eq word (codes "--jsonl")
    || bytes_eq word (codes "--strict") || bytes_eq word (codes "--unique")

abbrev pub is_emit_flag : List ℕ → Bool
is_emit_flag word = bytes_eq word (codes "--main") || bytes_eq word (codes "--name")

-- a word that is not empty and does not begin with a dash
abbrev pub is_name : List ℕ → Bool
is_name [] = false
is_name (first ∷ more) = not (first == 45)

-- a name, or the dash that stands for standard input
abbrev pub is_operand : List ℕ → Bool
is_operand word = is_name word || bytes_eq word (codes "-")

-- a word stands among words, and stands there twice
abbrev pub stands : List ℕ → List (List ℕ) → Bool
stands word words = list_any (λ w. bytes_eq w word) words

abbrev pub stands_twice : List ℕ → List (List ℕ) → Bool
stands_twice word [] = false
stands_twice word (first ∷ words) = if bytes_eq first word then stands word words else stands_twice word words

-- no flag stands twice
abbrev pub are_once : List (List ℕ) → Bool
are_once words =
    not (stands_twice (codes "--plain") words || stands_twice (codes "--stats") words || stands_twice (codes "--key") words
    || stands_twice (codes "--jsonl") words || stands_twice (codes "--strict") words || stands_twice (codes "--unique") words)

-- each word is an operand or one of the six flags, and no flag stands twice
abbrev pub may_ask : List (List ℕ) → Bool
may_ask words = list_all (λ w. is_flag w || is_operand w) words && are_once words

-- the same of the flags of `emit`
abbrev pub may_emit : List (List ℕ) → Bool
may_emit words =
    list_all (λ w. is_emit_flag w || is_operand w) words && not (stands_twice (codes "--main") words || stands_twice (codes "--name") words)

-- the first word is `emit`
abbrev pub is_emit : List (List ℕ) → Bool
is_emit [] = false
is_emit (first ∷ words) = bytes_eq first (codes "emit")

-- each word is an operand or a flag, and no flag stands twice; `emit` has flags of its own
abbrev pub may_be_parsed : List (List ℕ) → Bool
may_be_parsed words = if is_emit words then may_emit words else may_ask words

-- what a single word asks about the program
abbrev pub about_word : List ℕ → Option Command
about_word word =
    if bytes_eq word (codes "--help") || bytes_eq word (codes "-h") then Some help else if bytes_eq word (codes "--version") then Some version else None

abbrev pub about : List (List ℕ) → Option Command
about (word ∷ []) = about_word word
about words = None

-- one word about the program, or words that may be parsed
abbrev pub may_be_read : List (List ℕ) → Bool
may_be_read words = is_some (about words) || may_be_parsed words

unfoldable pub most_size : ℕ
most_size = 100

-- the number from 1 to the most that a word spells in decimal digits without leading zeros
abbrev pub size_of : List ℕ → Option ℕ
size_of word = find (λ n. bytes_eq word (decimal n)) (range_with_len 1 most_size)

-- something is asked of the passes, of the replies, and of the answers of `check`
abbrev pub asks_passes : Flags → Bool
asks_passes flags = flags.plain || flags.stats

abbrev pub asks_replies : ReplyForm → Bool
asks_replies form = form.key || form.jsonl

abbrev pub asks_answers : CheckFlags → Bool
asks_answers checks = checks.strict || checks.unique

-- how strict `check` is with these flags; `--unique` stands beside `--strict`
abbrev pub strictness_of : CheckFlags → Option Strictness
strictness_of checks =
    if checks.strict && checks.unique then Some strictness.Unique
    else if checks.strict then Some strictness.Existing
    else if checks.unique then None
    else Some strictness.Told

-- the command of a first word that reads no input, with these flags and this operand
abbrev pub command_without_input : List ℕ → Flags → List ℕ → Option Command
command_without_input first flags operand =
    if bytes_eq first (codes "compile") then Some (compile flags operand)
    else if asks_passes flags then None
    else if bytes_eq first (codes "pre") then Some (pre operand)
    else if bytes_eq first (codes "prove") then Some (prove operand)
    else if bytes_eq first (codes "gen") then option_map gen (size_of operand)
    else None

-- `run` and `exec` read the input, so they take no file from there; `exec` calls no pass
abbrev pub run_for : Flags → ReplyForm → List ℕ → Option Command
run_for flags form file = if is_name file then Some (run flags form file) else None

abbrev pub exec_for : Flags → ReplyForm → List ℕ → Option Command
exec_for flags form file = if is_name file && not (asks_passes flags) then Some (exec form file) else None

-- `check` calls no pass and replies to nothing
abbrev pub check_for : Flags → ReplyForm → CheckFlags → List ℕ → Option Command
check_for flags form checks file =
    if asks_passes flags then None
    else if asks_replies form then None
    else option_map (λ s. check s file) (strictness_of checks)

-- the command of a first word, with these flags and this operand: only `check` is strict, and only `run` and `exec` reply
abbrev pub command_for : List ℕ → Flags → ReplyForm → CheckFlags → List ℕ → Option Command
command_for first flags form checks operand =
    if bytes_eq first (codes "check") then check_for flags form checks operand
    else if asks_answers checks then None
    else if bytes_eq first (codes "run") then run_for flags form operand
    else if bytes_eq first (codes "exec") then exec_for flags form operand
    else if asks_replies form then None
    else command_without_input first flags operand

-- what the flags that stand among words ask
abbrev pub flags_in : List (List ℕ) → Flags
flags_in words = record { plain = stands (codes "--plain") words; stats = stands (codes "--stats") words }

abbrev pub form_in : List (List ℕ) → ReplyForm
form_in words = record { key = stands (codes "--key") words; jsonl = stands (codes "--jsonl") words }

abbrev pub checks_in : List (List ℕ) → CheckFlags
checks_in words = record { strict = stands (codes "--strict") words; unique = stands (codes "--unique") words }

-- the words that are no flags
abbrev pub operands : List (List ℕ) → List (List ℕ)
operands words = filter (λ w. not (is_flag w)) words

-- the element of a list that has one
abbrev pub only : List (List ℕ) → Option (List ℕ)
only (operand ∷ []) = Some operand
only operands = None

-- the command `verify`, which takes two names and no flag
abbrev pub verify_for : List (List ℕ) → Option Command
verify_for (file ∷ steps ∷ []) = if is_name file && is_name steps then Some (verify file steps) else None
verify_for words = None

-- ---- emit
-- the languages that are built
abbrev pub language_of : List ℕ → Option Language
language_of word =
    if bytes_eq word (codes "c") then Some C
    else if bytes_eq word (codes "python") then Some Python
    else if bytes_eq word (codes "js") then Some JavaScript
    else if bytes_eq word (codes "rust") then Some Rust
    else None

-- what stands behind `--name`, where it stands, or nothing where it stands last; and the name that a function has where it does not stand
abbrev pub usual_name : List ℕ
usual_name = codes "answer"

abbrev pub first_or_none : List (List ℕ) → List ℕ
first_or_none [] = []
first_or_none (word ∷ words) = word

abbrev pub name_in : List (List ℕ) → Option (List ℕ)
name_in [] = None
name_in (word ∷ words) = if bytes_eq word (codes "--name") then Some (first_or_none words) else name_in words

-- the words that are neither flags nor what stands behind `--name`
abbrev mutual
  pub emit_operands : List (List ℕ) → List (List ℕ)
  emit_operands [] = []
  emit_operands (word ∷ words) =
      if bytes_eq word (codes "--name") then operands_behind_name words
      else if bytes_eq word (codes "--main") then emit_operands words
      else word ∷ emit_operands words

  pub operands_behind_name : List (List ℕ) → List (List ℕ)
  operands_behind_name [] = []
  operands_behind_name (name ∷ words) = emit_operands words

-- the command `emit`, where what is called from outside may have this name in the language, and where the word is that of a language
abbrev pub emit_named : Emitting → List ℕ → Option Command
emit_named e file = if may_name (words_of e.language) e.name then Some (emit e file) else None

abbrev pub emit_language : List ℕ → Bool → Option (List ℕ) → List ℕ → Option Command
emit_language word has_main name file =
    option_and_then (λ l. emit_named (record { language = l; has_main = has_main; name = unwrap_or name usual_name }) file) (language_of word)

-- goals for solvers take neither flag
abbrev pub emit_goals : Bool → Option (List ℕ) → List ℕ → Option Command
emit_goals has_main name file = if is_some name || has_main then None else Some (goals file)

abbrev pub emit_on : List ℕ → Bool → Option (List ℕ) → List ℕ → Option Command
emit_on word has_main name file = if bytes_eq word (codes "smt") then emit_goals has_main name file else emit_language word has_main name file

-- it takes two operands
abbrev pub emit_with : Bool → Option (List ℕ) → List (List ℕ) → Option Command
emit_with has_main name (word ∷ file ∷ []) = emit_on word has_main name file
emit_with has_main name operands = None

abbrev pub emit_for : List (List ℕ) → Option Command
emit_for words = emit_with (stands (codes "--main") words) (name_in words) (emit_operands words)

-- ---- all
-- behind the first word stand flags and one operand, or two names behind `verify`, or what `emit` takes
abbrev pub command_in : List (List ℕ) → Option Command
command_in [] = None
command_in (first ∷ words) =
    if bytes_eq first (codes "emit") then emit_for words
    else if bytes_eq first (codes "verify") then verify_for words
    else option_and_then (command_for first (flags_in words) (form_in words) (checks_in words)) (only (operands words))

-- the command that words are which say nothing about the program
abbrev pub command_parsed : List (List ℕ) → Option Command
command_parsed words = if may_be_parsed words then command_in words else None

-- the command that the words are; none where they are no command
abbrev pub command_of : List (List ℕ) → Option Command
command_of words = if is_some (about words) then about words else command_parsed words

-- what is answered to words that are this command, or none; want of memory is free
abbrev pub WordsAnswer : Option Command → Result declared.Command WordsFault → Type 0
WordsAnswer asked (Ok command) = asked ≡ Some (plain_command command)
WordsAnswer asked (Err Usage) = asked ≡ None
WordsAnswer asked (Err NoMemory) = ⊤
