-- What clap is told of the words, and what is made of its answer.
use Rattle.std.specs.Prelude.{◌≡◌, ⊤, Result, Ok, Err, List, [], ◌∷◌, Bool, true, false, Option, Some, None, option_and_then, if◌then◌else◌, codes, bytes_eq}
use Rattle.std.specs.Option.{option_map_or}
use Rattle.clap.specs.Words.{App, Kinds, Row, Rule, Text, fault_of, first_of, new_app, new_rule, subcommand_of, subcommand_rows_of, with_rule, with_subcommand}
use Rattle.clap.specs.declared.builder.action.ArgAction.TheVariants.{SetTrue}
use Rattle.cf_words.specs.Commands.{Command}
use Rattle.cf_words.specs.Words.{command_for, emit_on, verify_for}
use Rattle.clap.specs.declared.parser.matches.ArgMatches.{ArgMatches}
use Rattle.cf_words.specs.declared.command.CheckFlags.{CheckFlags}
use Rattle.cf_words.specs.declared.command.Flags.{Flags}
use Rattle.cf_words.specs.declared.command.ReplyForm.{ReplyForm}
use Rattle.cf_words.specs.declared.fault.WordsFault.{WordsFault}
use Rattle.cf_words.specs.declared.fault.WordsFault.TheVariants.{Usage, NoMemory}

abbrev pub flag : Text → Rule
flag id = record (new_rule id) { long = Some id; action = Some SetTrue }

abbrev pub operand : Text → Rule
operand id = record (new_rule id) { required = true }

-- a flag with a value behind it
abbrev pub valued : Text → Rule
valued id = record (new_rule id) { long = Some id }

-- a subcommand with the six flags and an operand, and one with two operands; which command takes which flag is told by `command_for`
abbrev pub flagged_subcommand : Text → App
flagged_subcommand name =
    with_rule (with_rule (with_rule (with_rule (with_rule (with_rule (with_rule (new_app name)
    (flag (codes "plain"))) (flag (codes "stats"))) (flag (codes "key"))) (flag (codes "jsonl"))) (flag (codes "strict"))) (flag (codes "unique")))
    (operand (codes "operand"))

abbrev pub paired_subcommand : Text → App
paired_subcommand name = with_rule (with_rule (new_app name) (operand (codes "file"))) (operand (codes "steps"))

-- a subcommand with two operands, a flag, and one with a value
abbrev pub emitting_subcommand : Text → App
emitting_subcommand name =
    with_rule (with_rule (with_rule (with_rule (new_app name) (operand (codes "language"))) (operand (codes "file"))) (flag (codes "main")))
    (valued (codes "name"))

-- the program: its first word is a subcommand, and it has neither help nor version
abbrev pub program : App
program =
    let fresh = new_app (codes "comfusy") in
    record fresh { top = record fresh.top { no_binary_name = true; disable_help_flag = true; disable_help_subcommand = true; subcommand_required = true } }

abbrev pub grammar : App
grammar =
    with_subcommand
    (with_subcommand (with_subcommand (with_subcommand (with_subcommand (with_subcommand (with_subcommand (with_subcommand (with_subcommand program
    (flagged_subcommand (codes "compile")).top) (flagged_subcommand (codes "run")).top)
    (flagged_subcommand (codes "pre")).top) (flagged_subcommand (codes "check")).top)
    (flagged_subcommand (codes "exec")).top) (flagged_subcommand (codes "prove")).top)
    (paired_subcommand (codes "verify")).top) (flagged_subcommand (codes "gen")).top) (emitting_subcommand (codes "emit")).top

-- whether a flag was found
abbrev pub is_set : Text → List Row → Bool
is_set id rows = option_map_or (λ text. bytes_eq text (codes "true")) (first_of id rows) false

abbrev pub flags_found : List Row → Flags
flags_found rows = record { plain = is_set (codes "plain") rows; stats = is_set (codes "stats") rows }

abbrev pub form_found : List Row → ReplyForm
form_found rows = record { key = is_set (codes "key") rows; jsonl = is_set (codes "jsonl") rows }

abbrev pub checks_found : List Row → CheckFlags
checks_found rows = record { strict = is_set (codes "strict") rows; unique = is_set (codes "unique") rows }

-- the command `verify` on the two operands that were found
abbrev pub verify_found : List Row → Option Command
verify_found rows =
    option_and_then (λ file. option_and_then (λ steps. verify_for (file ∷ steps ∷ [])) (first_of (codes "steps") rows)) (first_of (codes "file") rows)

-- the command `emit` on what was found
abbrev pub name_found : List Row → Option Text
name_found rows = first_of (codes "name") rows

abbrev pub emit_in : Text → List Row → Option Command
emit_in word rows = option_and_then (emit_on word (is_set (codes "main") rows) (name_found rows)) (first_of (codes "file") rows)

abbrev pub emit_found : List Row → Option Command
emit_found rows = option_and_then (λ word. emit_in word rows) (first_of (codes "language") rows)

-- the command of a subcommand with what was found for it, and of one that is not `emit`
abbrev pub plain_found : Text → List Row → Option Command
plain_found name rows =
    if bytes_eq name (codes "verify") then verify_found rows
    else option_and_then (command_for name (flags_found rows) (form_found rows) (checks_found rows)) (first_of (codes "operand") rows)

abbrev pub command_found : Option (Text × List Row) → Option Command
command_found None = None
command_found (Some found) = if bytes_eq found.0 (codes "emit") then emit_found found.1 else plain_found found.0 found.1

-- the answer, where no kind of error comes
abbrev pub found_unless : {X : Type 0} → Kinds → Option X → Option X
found_unless [] answer = answer
found_unless (kind ∷ kinds) answer = None

-- the command that clap's parse of the words leads to
abbrev pub clap_command : List Text → Option Command
clap_command words = found_unless (fault_of grammar words) (command_found (subcommand_of grammar words))

-- what a parse answers, where the words lead to this command or to none
abbrev pub MatchesAnswer : Option Command → Result ArgMatches WordsFault → Type 0
MatchesAnswer asked (Ok matches) = command_found (subcommand_rows_of matches) ≡ asked
MatchesAnswer asked (Err Usage) = asked ≡ None
MatchesAnswer asked (Err NoMemory) = ⊤
