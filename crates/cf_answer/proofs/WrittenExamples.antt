-- What is written of an end: by the fault, the edition and the command.
use Rattle.std.proofs.Common.{◌≡◌, inl, inr, subst, sym, refl, ℕ, ◌≤◌, false, List, [], ◌∷◌, length, take, codes, Option, Some, None, arith}
use Rattle.std.proofs.lemmas.List.{length-take, take_all}
use Rattle.std.specs.Prelude.{Ok, Err}
use Rattle.std.specs.Fmt.{digits}
use Rattle.cf_lex.specs.Editions.{edition_of}
use Rattle.cf_lex.specs.Tokens.{at_end}
use Rattle.cf_lex.specs.declared.token.Token.{Token}
use Rattle.cf_tree.specs.DefView.{RawItemTree}
use Rattle.cf_tree.specs.declared.base.Edition.TheVariants.{Two, Three}
use Rattle.cf_tree.specs.declared.base.Place.{Place}
use Rattle.cf_linear.specs.declared.refusal.LimitKind.TheVariants.{Cases}
use Rattle.cf_linear.specs.declared.refusal.Refusal.TheVariants.{Limit}
use Rattle.cf_program.specs.Checked.{functions_of}
use Rattle.cf_program.specs.declared.fault.TypeFault.TheVariants.{NotLinear}
use Rattle.cf_program.specs.declared.linearity.Linearity.TheVariants.{Plain, Late}
use Rattle.cf_help.specs.Faults.{words}
use Rattle.cf_help.specs.Messages.{message, rule_message, syntax_words}
use Rattle.cf_help.specs.Numbers.{function_place, number_place}
use Rattle.cf_print.specs.declared.language.Language.TheVariants.{C}
use Rattle.cf_words.specs.Commands.{Emitting, compile, run, pre, check, exec, prove, emit, goals, verify, gen, help, version}
use Rattle.cf_words.specs.declared.command.Flags.{Flags}
use Rattle.cf_words.specs.declared.command.ReplyForm.{ReplyForm}
use Rattle.cf_words.specs.declared.command.Strictness.TheVariants as strictness
use Rattle.cf_answer.specs.Limits.{text_limit, of_source}
use Rattle.cf_answer.specs.Sources.{HasTokens, SpellsProgram}
use Rattle.cf_answer.specs.Written.{source_of, linearity_of, front_of, line_of, message_or, IsDeserted, IsOfText, IsSaid, IsSaidIn, IsWritten, IsWrittenBy}
use Rattle.cf_answer.specs.declared.fault.Fault.TheVariants as fault
use Rattle.cf_answer.specs.declared.fault.StepsFault.TheVariants.{Syntax}

abbrev flags : Flags
flags = record { plain = false; stats = false }

abbrev form : ReplyForm
form = record { key = false; jsonl = false }

abbrev in_c : Emitting
in_c = record { language = C; has_main = false; name = codes "answer" }

abbrev name : List ℕ
name = codes "p.cf"

abbrev in_three : List ℕ
in_three = codes "comfusy 3\ndef main(a: int): int = a / 2\n"

abbrev in_two : List ℕ
in_two = codes "def main(a: int): int = a / 2\n"

abbrev at : ℕ → ℕ → Place
at line column = record { line = line; column = column }

-- ---- the source of a command
sources : (source_of (compile flags name) ≡ Some name) × (source_of (run flags form name) ≡ Some name) × (source_of (pre name) ≡ Some name)
    × (source_of (check strictness.Told name) ≡ Some name) × (source_of (prove name) ≡ Some name) × (source_of (verify name (codes "s")) ≡ Some name)
sources = (refl, refl, refl, refl, refl, refl)

source-of_emit : (source_of (emit in_c name) ≡ Some name) × (linearity_of (emit in_c name) ≡ Plain)
source-of_emit = (refl, refl)

source-of_goals : (source_of (goals name) ≡ Some name) × (linearity_of (goals name) ≡ Plain)
source-of_goals = (refl, refl)

no-sources : (source_of (exec form name) ≡ None) × (source_of (gen 7) ≡ None) × (source_of help ≡ None) × (source_of version ≡ None)
no-sources = (refl, refl, refl, refl)

linear-by_the_command : (linearity_of (run flags form name) ≡ Late) × (linearity_of (compile flags name) ≡ Plain) × (linearity_of (pre name) ≡ Plain)
    × (linearity_of (check strictness.Told name) ≡ Plain) × (linearity_of (prove name) ≡ Plain) × (linearity_of (verify name (codes "s")) ≡ Plain)
linear-by_the_command = (refl, refl, refl, refl, refl, refl)

-- ---- faults of a text of edition 3
said-too_long : IsSaid Plain name in_three fault.TextTooLong (codes "p.cf: text too long\n")
said-too_long = refl

said-of_a_byte : IsSaid Plain name in_three (fault.BadByte (at 2 27))
    (codes "p.cf:2:27: bad byte: found '/'\ndef main(a: int): int = a / 2\n                          ^\nhelp: division is div(a, 2), and what is left over is mod(a, 2)\n")
unfolding digits
said-of_a_byte = refl

said-of_a_number : IsSaid Plain name (codes "comfusy 3\ndef main(): int = 9\n") (fault.NumberPast (at 2 19))
    (codes "p.cf:2:19: number past limit\ndef main(): int = 9\n                  ^\nhelp: the greatest number is 170141183460469231731687303715884105727\n")
unfolding digits
said-of_a_number = refl

-- the words about a token are those of the tokens that the text has
said-of_a_token : (ts : List Token) (end : Place) → HasTokens (of_source Three) in_three ts end at_end →
    IsSaid Plain name in_three (fault.Syntax (at 2 25)) (message name in_three (Some (at 2 25)) (syntax_words in_three ts (at 2 25)))
said-of_a_token ts end h = (ts, end, h, refl)

-- those about a rule are of the program that it spells, and of relations that have to be linear so
said-of_a_rule : (items : List RawItemTree) → SpellsProgram in_three items →
    IsSaid Late name in_three (fault.Rule (NotLinear (at 2 27))) (rule_message name in_three Late items (NotLinear (at 2 27)))
said-of_a_rule items s = (items, s, refl)

-- a choose that is refused stands at its place, and a function that is too large or too deep at its own
said-of_a_choose : (items : List RawItemTree) → SpellsProgram in_three items →
    IsSaid Plain name in_three (fault.Choose 12 (Limit Cases 2048))
    (message name in_three (number_place items 12) (words (codes "choose 12: Cases 2048" ∷ []) None))
unfolding digits
said-of_a_choose items s = (items, s, refl)

said-of_a_weight : (items : List RawItemTree) → SpellsProgram in_three items →
    IsSaid Plain name in_three (fault.Weight 1 1572859)
    (message name in_three (function_place (functions_of items) 1) (words (codes "Weight 1572859" ∷ []) None))
unfolding digits
said-of_a_weight items s = (items, s, refl)

said-of_a_depth : (items : List RawItemTree) → SpellsProgram in_three items →
    IsSaid Plain name in_three (fault.Depth 2 201) (message name in_three (function_place (functions_of items) 2) (words (codes "Depth 201" ∷ []) None))
unfolding digits
said-of_a_depth items s = (items, s, refl)

-- ---- all other faults have their line
said-of_the_outside : IsSaid Plain name in_three fault.File (codes "cannot read file\n") × IsSaid Plain name in_three fault.Input (codes "cannot read input\n")
    × IsSaid Plain name in_three fault.Output (codes "cannot write output\n") × IsSaid Plain name in_three fault.NoMemory (codes "no memory\n")
    × IsSaid Plain name in_three fault.OutputTooLong (codes "text too long\n")
said-of_the_outside = (refl, refl, refl, refl, refl)

-- a strict check has refused nothing, so its line is that of language 2
said-of_answers : IsSaid Plain name in_three (fault.AnswersNo 2) (codes "check: 2 answers are no\n")
    × IsSaid Plain name in_three (fault.AnswersUndecided 1) (codes "check: 1 answer is undecided\n")
unfolding digits
said-of_answers = (refl, refl)

-- no part of the text is at fault where a language has no sets
said-of_sets : IsSaid Plain name in_three fault.NoSetsInC (codes "no sets in c\n") × IsSaid Plain name in_three fault.NoSetsInSmt (codes "no sets in smt\n")
said-of_sets = (refl, refl)

said-of_steps : IsSaid Plain name in_three (fault.Steps (Syntax (at 3 4))) (codes "steps line 3 column 4: syntax\n")
unfolding digits
said-of_steps = refl

-- ---- by the edition of the text
written-in_two : IsWritten Plain name in_two (Err (fault.BadByte (at 1 27))) (codes "line 1 column 27: bad byte\n")
unfolding text_limit digits
written-in_two = refl

written-in_three : IsWritten Plain name in_three (Err fault.TextTooLong) (codes "p.cf: text too long\n")
unfolding text_limit
written-in_three = refl

written-of_no_fault : IsWritten Plain name in_three (Ok tt) []
written-of_no_fault = refl

-- one byte more than a source may have is read of it
front-of_a_short_text : (text : List ℕ) → length text ≤ 1048577 → front_of text ≡ text
unfolding text_limit
front-of_a_short_text text h = take_all 1048577 text h

front-of_a_long_text : (text : List ℕ) → 1048577 ≤ length text → length (front_of text) ≡ 1048577
unfolding text_limit
front-of_a_long_text text h = let count = length-take 1048577 text in omega (arith, count, h)

-- ---- by the command
written-of_no_command : IsWrittenBy None (λ name. None) (Err fault.NoMemory) (codes "no memory\n")
written-of_no_command = refl

-- a target has its line in both editions
written-of_a_target : IsWrittenBy (Some (exec form name)) (λ name. Some in_three) (Err fault.BadTarget) (codes "target not well typed\n")
written-of_a_target = inl refl

written-of_a_source : IsWrittenBy (Some (check strictness.Told name)) (λ name. Some in_three) (Err fault.TextTooLong) (codes "p.cf: text too long\n")
unfolding text_limit
written-of_a_source = inl (in_three, refl, refl)

-- ---- a reader that went away
silent-in_three : IsWrittenBy (Some (run flags form name)) (λ name. Some in_three) (Err fault.Output) []
silent-in_three = inr (refl, refl, in_three, refl, refl)

silent-with_a_target : IsWrittenBy (Some (exec form name)) (λ name. Some in_three) (Err fault.Output) []
silent-with_a_target = inr (refl, refl, in_three, refl, refl)

no-silence_in_two : IsDeserted (name ∷ []) (λ name. Some in_two) (Err fault.Output) [] → ⊥
no-silence_in_two (is, none, text, told, three) = let clash : Two ≡ Three = subst (λ t. edition_of t ≡ Three) (sym told) three in cc

no-silence_about_the_input : IsDeserted (name ∷ []) (λ name. Some in_three) (Err fault.Input) [] → ⊥
no-silence_about_the_input (is, none, text, told, three) = cc

no-silence_without_a_file : IsDeserted [] (λ name. Some in_three) (Err fault.Output) [] → ⊥
no-silence_without_a_file h = h

-- ---- within the program
line-of_a_message : line_of (record { answer = Err fault.TextTooLong; message = Some (codes "m") }) ≡ codes "m"
line-of_a_message = refl

line-of_none : line_of (record { answer = Err fault.TextTooLong; message = None }) ≡ codes "text too long\n"
line-of_none = refl

of-no_text : (IsOfText (Err fault.NoMemory) → ⊥) × (IsOfText (Err fault.Output) → ⊥) × (IsOfText (Ok tt) → ⊥)
of-no_text = (λ h. h, λ h. h, λ h. h)
