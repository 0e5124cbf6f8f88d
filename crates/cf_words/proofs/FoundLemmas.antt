-- What is read of the matches that clap gives.
use Rattle.std.proofs.Common.{◌≡◌, ◌≢◌, ◌∙◌, ◌||◌, cond, Bool, true, false, refl, sym, ap, ap₂, subst, true≢false, inl, inr, List, [], ◌∷◌, Option, Some, None, is_some, Ok, Err, option_map, option_and_then, unwrap_or, codes, bytes_eq}
use Rattle.std.specs.Option.{option_map_or}
use Rattle.std.specs.Borrow.{Bor}
use Rattle.std.specs.Prelude.{Result}
use Rattle.clap.proofs.WalkLemmas.{first_value-rows}
use Rattle.clap.specs.Words.{App, FailsBy, HasMatchesOf, IsAmong, Kinds, Text, fault_of, first_value, found_of, is_simple_and_free, kind_of, rows_of, subcommand_of}
use Rattle.clap.specs.declared.error.Error.{Error}
use Rattle.clap.specs.declared.error.kind.ErrorKind.{ErrorKind}
use Rattle.clap.specs.declared.error.kind.ErrorKind.TheVariants.{OutOfMemory}
use Rattle.clap.specs.declared.parser.matches.ArgMatches.{ArgMatches}
use Rattle.clap.specs.Walk.{Row, first_of}
use Rattle.cf_print.specs.declared.language.Language.{Language}
use Rattle.cf_words.specs.Commands.{Command, plain_command}
use Rattle.cf_words.proofs.GrammarLaws.{clap_agrees, is_exact, is_simple_grammar}
use Rattle.cf_words.specs.Grammar.{MatchesAnswer, checks_found, clap_command, command_found, emit_found, emit_in, flags_found, form_found, found_unless, grammar, is_set, name_found, plain_found, verify_found}
use Rattle.cf_words.specs.Words.{WordsAnswer, about, command_for, command_in, command_of, command_parsed, emit_goals, emit_language, emit_named, emit_on, language_of, may_be_parsed, may_be_read, usual_name, verify_for}
use Rattle.cf_words.specs.declared.command.Command as declared
use Rattle.cf_words.specs.declared.fault.WordsFault.{WordsFault}
use Rattle.cf_words.specs.declared.fault.WordsFault.TheVariants.{Usage, NoMemory}

pub set_is : (m : ArgMatches) (id : Text) (o : Option (Bor Text)) → option_map (λ s. s.now) o ≡ first_value (found_of m) id
    → option_map_or (λ t. bytes_eq t (codes "true")) (option_map (λ s. s.now) o) false ≡ is_set id (rows_of (found_of m))
set_is m id o e = ap (λ t. option_map_or (λ x. bytes_eq x (codes "true")) t false) (e ∙ first_value-rows (found_of m) id)

pub operand_is : (m : ArgMatches) (name : Text) (o : Option (Bor Text)) → option_map (λ s. s.now) o ≡ first_value (found_of m) (codes "operand")
    → bytes_eq name (codes "verify") ≡ false
    → option_and_then (command_for name (flags_found (rows_of (found_of m))) (form_found (rows_of (found_of m))) (checks_found (rows_of (found_of m))))
    (option_map (λ s. s.now) o)
    ≡ plain_found name (rows_of (found_of m))
operand_is m name o e other =
    let rows = rows_of (found_of m) in
    ap₂ (λ b text. cond b (verify_found rows) (option_and_then (command_for name (flags_found rows) (form_found rows) (checks_found rows)) text)) (sym other)
    (e ∙ first_value-rows (found_of m) (codes "operand"))

-- the two operands of `verify`, as they are read
pub no_file : (m : ArgMatches) → None ≡ first_value (found_of m) (codes "file") → None ≡ verify_found (rows_of (found_of m))
no_file m f =
    ap (option_and_then (λ x. option_and_then (λ y. verify_for (x ∷ y ∷ [])) (first_of (codes "steps") (rows_of (found_of m)))))
    (f ∙ first_value-rows (found_of m) (codes "file"))

pub files_are : (m : ArgMatches) (file steps : Option (Bor Text)) → option_map (λ s. s.now) file ≡ first_value (found_of m) (codes "file")
    → option_map (λ s. s.now) steps ≡ first_value (found_of m) (codes "steps")
    → option_and_then (λ x. option_and_then (λ y. verify_for (x ∷ y ∷ [])) (option_map (λ s. s.now) steps)) (option_map (λ s. s.now) file)
    ≡ verify_found (rows_of (found_of m))
files_are m file steps f s =
    ap₂ (λ x y. option_and_then (λ v. option_and_then (λ w. verify_for (v ∷ w ∷ [])) y) x) (f ∙ first_value-rows (found_of m) (codes "file"))
    (s ∙ first_value-rows (found_of m) (codes "steps"))

-- what was found for `emit`, one after the other
pub name_is : (m : ArgMatches) (o : Option (Bor Text)) → option_map (λ s. s.now) o ≡ first_value (found_of m) (codes "name")
    → option_map (λ s. s.now) o ≡ name_found (rows_of (found_of m))
name_is m o e = e ∙ first_value-rows (found_of m) (codes "name")

pub language_is : (m : ArgMatches) (o : Option (Bor Text)) → option_map (λ s. s.now) o ≡ first_value (found_of m) (codes "language")
    → option_and_then (λ word. emit_in word (rows_of (found_of m))) (option_map (λ s. s.now) o) ≡ emit_found (rows_of (found_of m))
language_is m o e = ap (option_and_then (λ word. emit_in word (rows_of (found_of m)))) (e ∙ first_value-rows (found_of m) (codes "language"))

pub file_is : (m : ArgMatches) (word : Text) (o : Option (Bor Text)) → option_map (λ s. s.now) o ≡ first_value (found_of m) (codes "file")
    → option_and_then (emit_on word (is_set (codes "main") (rows_of (found_of m))) (name_found (rows_of (found_of m)))) (option_map (λ s. s.now) o)
    ≡ emit_in word (rows_of (found_of m))
file_is m word o e =
    let rows = rows_of (found_of m) in
    ap (option_and_then (emit_on word (is_set (codes "main") rows) (name_found rows))) (e ∙ first_value-rows (found_of m) (codes "file"))

-- a command that may be there, as an answer
pub answer_some : (found : Option declared.Command) (asked : Option Command) (command : declared.Command) → option_map plain_command found ≡ asked →
    found ≡ Some command → WordsAnswer asked (Ok command)
answer_some found asked command e is = sym e ∙ ap (option_map plain_command) is

pub answer_none : (found : Option declared.Command) (asked : Option Command) → option_map plain_command found ≡ asked → found ≡ None →
    WordsAnswer asked (Err Usage)
answer_none found asked e is = sym e ∙ ap (option_map plain_command) is

-- a subcommand is `emit` or another
pub emit_behind : (name : Text) (rows : List Row) (r : Result declared.Command WordsFault) → bytes_eq name (codes "emit") ≡ true →
    WordsAnswer (emit_found rows) r → WordsAnswer (command_found (Some (name, rows))) r
emit_behind name rows r is h = subst (λ b. WordsAnswer (cond b (emit_found rows) (plain_found name rows)) r) (sym is) h

pub plain_behind : (name : Text) (rows : List Row) (r : Result declared.Command WordsFault) → bytes_eq name (codes "emit") ≡ false →
    WordsAnswer (plain_found name rows) r → WordsAnswer (command_found (Some (name, rows))) r
plain_behind name rows r other h = subst (λ b. WordsAnswer (cond b (emit_found rows) (plain_found name rows)) r) (sym other) h

-- a language that a word is, and a word that is none
module _ (word : Text) (name : Option Text) (file : Text) (has_main : Bool) where
  abbrev in_language : Option Language → Option Command
  in_language o = option_and_then (λ l. emit_named (record { language = l; has_main = has_main; name = unwrap_or name usual_name }) file) o

  pub language_there : (l : Language) (r : Result declared.Command WordsFault) → language_of word ≡ Some l →
      WordsAnswer (emit_named (record { language = l; has_main = has_main; name = unwrap_or name usual_name }) file) r →
      WordsAnswer (emit_language word has_main name file) r
  language_there l r is h = subst (λ o. WordsAnswer (in_language o) r) (sym is) h

  pub goals_behind : (r : Result declared.Command WordsFault) → bytes_eq word (codes "smt") ≡ true → WordsAnswer (emit_goals has_main name file) r →
      WordsAnswer (emit_on word has_main name file) r
  goals_behind r is h = subst (λ b. WordsAnswer (cond b (emit_goals has_main name file) (emit_language word has_main name file)) r) (sym is) h

  pub language_behind : (r : Result declared.Command WordsFault) → bytes_eq word (codes "smt") ≡ false → WordsAnswer (emit_language word has_main name file) r →
      WordsAnswer (emit_on word has_main name file) r
  language_behind r other h = subst (λ b. WordsAnswer (cond b (emit_goals has_main name file) (emit_language word has_main name file)) r) (sym other) h

  pub no_language : language_of word ≡ None → WordsAnswer (emit_language word has_main name file) (Err Usage)
  no_language h = ap in_language h

no_answer : {X : Type 0} (kind : ErrorKind) (kinds : Kinds) (answer : Option X) → IsAmong kind kinds → found_unless kinds answer ≡ None
no_answer kind [] answer among = absurd among
no_answer kind (first ∷ kinds) answer among = refl

-- what the contract of clap's parse says of words, where the command is told by this grammar
module _ (app : App) (told : app ≡ grammar) (words : List Text) where
  pub taken : (m : ArgMatches) → HasMatchesOf app words m → (is_simple_and_free app ≡ true → FailsBy {T = ArgMatches} (fault_of app words) (Ok m))
      → MatchesAnswer (clap_command words) (Ok m)
  taken m matches fails =
      let found = (subst (λ a. HasMatchesOf a words m) told matches) is_simple_grammar in
      let passed : fault_of grammar words ≡ [] = (subst (λ a. is_simple_and_free a ≡ true → fault_of a words ≡ []) told fails) is_exact in
      ap command_found found.1 ∙ sym (ap (λ kinds. found_unless kinds (command_found (subcommand_of grammar words))) passed)

  pub refused : (e : Error) (f : WordsFault) → (is_simple_and_free app ≡ true → FailsBy {T = ArgMatches} (fault_of app words) (Err e))
      → (f ≡ Usage → kind_of e ≢ OutOfMemory)
      → MatchesAnswer (clap_command words) (Err f)
  refused e NoMemory fails exact = tt
  refused e Usage fails exact = elim (subst (λ a. is_simple_and_free a ≡ true → FailsBy {T = ArgMatches} (fault_of a words) (Err e)) told fails is_exact) [
    | inl memory ↦ absurd (exact refl memory)
    | inr among ↦ no_answer (kind_of e) (fault_of grammar words) (command_found (subcommand_of grammar words)) among
  ]

-- the command of words that may be parsed is the one that the parse leads to
pub parsed : (words : List Text) (asked : Option Command) → may_be_parsed words ≡ true → clap_command words ≡ asked → command_parsed words ≡ asked
parsed words asked tested is = ap (λ b. cond b (command_in words) None) tested ∙ sym (clap_agrees words tested) ∙ is

pub parsed_as : (words : List Text) (found : Option Command) (r : Result declared.Command WordsFault) → may_be_parsed words ≡ true →
    found ≡ clap_command words → WordsAnswer found r → WordsAnswer (command_parsed words) r
parsed_as words found r tested is h = subst (λ o. WordsAnswer o r) (is ∙ sym (parsed words (clap_command words) tested refl)) h

pub not_parsed : (words : List Text) (f : WordsFault) → may_be_parsed words ≡ true → MatchesAnswer (clap_command words) (Err f)
    → WordsAnswer (command_parsed words) (Err f)
not_parsed words Usage tested none = parsed words None tested none
not_parsed words NoMemory tested none = tt

-- words that are about the program, and others
pub told : (words : List Text) (found : Option declared.Command) (command : declared.Command) → option_map plain_command found ≡ about words →
    found ≡ Some command
    → about words ≡ Some (plain_command command)
told words found command e is = sym e ∙ ap (option_map plain_command) is

pub told_of : (words : List Text) (command : Command) → about words ≡ Some command → command_of words ≡ Some command
told_of words command is = ap (λ o. cond (is_some o) o (command_parsed words)) is

pub told_read : (words : List Text) (command : Command) → about words ≡ Some command → may_be_read words ≡ false → ⊥
told_read words command is e = true≢false (sym (ap (λ o. is_some o || may_be_parsed words) is) ∙ e)

pub untold : (words : List Text) (found : Option declared.Command) → option_map plain_command found ≡ about words → found ≡ None → about words ≡ None
untold words found e is = sym e ∙ ap (option_map plain_command) is

pub untold_of : (words : List Text) (r : Result declared.Command WordsFault) → about words ≡ None → WordsAnswer (command_parsed words) r
    → WordsAnswer (command_of words) r
untold_of words r none h = subst (λ o. WordsAnswer (cond (is_some o) o (command_parsed words)) r) (sym none) h

pub untold_read : (words : List Text) → about words ≡ None → may_be_read words ≡ false → may_be_parsed words ≡ false
untold_read words none e = sym (ap (λ o. is_some o || may_be_parsed words) none) ∙ e
