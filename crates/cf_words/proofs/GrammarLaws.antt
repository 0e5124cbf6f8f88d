-- What clap makes of words that may be parsed is what the definition makes of them.
use Rattle.std.proofs.Common.{◌≡◌, ◌∙◌, ◌||◌, Bool, true, false, true≢false, not, cond, refl, sym, ap, ap₂, subst, List, [], ◌∷◌, fold, Option, Some, None, is_some, option_map, option_and_then, codes, bytes_eq}
use Rattle.std.proofs.Common.{◌⊎◌, inl, inr}
use Rattle.std.proofs.lemmas.Slice.Eq.{bytes_eq-Decides}
use Rattle.std.specs.List.{list_all}
use Rattle.clap.proofs.FaultLemmas.{stopped_fault}
use Rattle.clap.proofs.OnLiterals.{clap_on_literals}
use Rattle.clap.proofs.WalkLemmas.{both, walk_stopped}
use Rattle.clap.specs.Faults.{entered_fault, is_simple_and_free, check_fault, defaults_fault, level_fault, settle_fault, turn_fault, walk_fault}
use Rattle.clap.specs.Kinds.{Kinds, or_else}
use Rattle.clap.specs.Simple.{Shape, built, entered, is_simple, names_of}
use Rattle.clap.specs.Walk.{Row, Text, Walk, first_of, finished, idle, nothing_held, rows_after, settled, subcommand_met, walk_from, walked}
use Rattle.clap.specs.declared.error.kind.ErrorKind.TheVariants.{InvalidSubcommand, UnknownArgument}
use Rattle.cf_words.specs.Commands.{Command, compile as the_compile, pre as the_pre, prove as the_prove, gen as the_gen}
use Rattle.cf_words.specs.Grammar.{checks_found, clap_command, command_found, emit_found, flags_found, form_found, found_unless, grammar, verify_found}
use Rattle.cf_words.specs.Words.{asks_answers, asks_passes, asks_replies, check_for, checks_in, command_for, command_in, command_without_input, emit_for, exec_for, flags_in, form_in, is_emit, is_emit_flag, is_flag, is_operand, may_ask, may_be_parsed, may_emit, only, operands, run_for, size_of, stands, stands_twice, verify_for}
use Rattle.cf_words.specs.declared.command.CheckFlags.{CheckFlags}
use Rattle.cf_words.specs.declared.command.Flags.{Flags}
use Rattle.cf_words.specs.declared.command.ReplyForm.{ReplyForm}
use Rattle.cf_words.proofs.Uses.{AreOnce, Flag, IsOperand, Use, flag_word, once_of, uses_of, words_of, plain, stats, key, jsonl, strict, unique, flag, operand}
use Rattle.cf_words.proofs.LevelLaws.{Asked, said, found_in, at, operand_turn, cond_same}
use Rattle.cf_words.proofs.FlaggedLaws.{flagged, flags_found_are}
use Rattle.cf_words.proofs.PairedLaws.{paired, paired_found_are}
use Rattle.cf_words.proofs.EmitUses.{EmitUse, emit_uses_of, emit_words_of}
use Rattle.cf_words.proofs.EmitLaws.{emit_found_are, emitting}

pub data Verb : Type 0 where
  compile : Verb
  run : Verb
  pre : Verb
  check : Verb
  exec : Verb
  prove : Verb
  verify : Verb
  gen : Verb

abbrev verb_word : Verb → Text
verb_word compile = codes "compile"
verb_word run = codes "run"
verb_word pre = codes "pre"
verb_word check = codes "check"
verb_word exec = codes "exec"
verb_word prove = codes "prove"
verb_word verify = codes "verify"
verb_word gen = codes "gen"

abbrev kinds_behind_top : Walk → Bool → Kinds
kinds_behind_top w has_subcommand =
    let top = (built grammar).top in
    or_else (settle_fault top.rules top.args_override_self w.held)
    (or_else (defaults_fault (settled top.rules w.held).rows top.rules) (check_fault top (finished top.rules w.held) has_subcommand))

-- the same, by the kinds of the walk over the words and by the walk
abbrev top_command : Kinds → Walk → Option Command
top_command kinds w =
    let app = built grammar in
    found_unless (or_else kinds (or_else (entered_fault app w.stopped) (kinds_behind_top w (is_some (entered app w.stopped)))))
    (command_found (entered app w.stopped))

abbrev start : Walk
start = walk_from nothing_held

abbrev stopped_at : Text → List Text → Walk
stopped_at name words = record start { stopped = Some (name, words) }

abbrev command_with : Text → Asked → Option Command
command_with name asked = command_for name asked.0 asked.1 asked.2 asked.3

-- what a first word asks with flags and an operand
with_asked : (name : Text) (f : Flags) (g : ReplyForm) (k : CheckFlags) (o : Option Text)
    → option_and_then (command_with name) (option_map (λ x. (f, g, k, x)) o) ≡ option_and_then (command_for name f g k) o
with_asked name f g k None = refl
with_asked name f g k (Some o) = refl

-- what is asked by a subcommand with one operand, and by `verify`
abbrev asked_of_one : Text → List Text → Option Command
asked_of_one name words = option_and_then (command_with name) (found_in said (flagged name) words)

abbrev asked_of : Verb → List Text → Option Command
asked_of compile words = asked_of_one (codes "compile") words
asked_of run words = asked_of_one (codes "run") words
asked_of pre words = asked_of_one (codes "pre") words
asked_of check words = asked_of_one (codes "check") words
asked_of exec words = asked_of_one (codes "exec") words
asked_of prove words = asked_of_one (codes "prove") words
asked_of verify words = found_in verify_found (paired (codes "verify")) words
asked_of gen words = asked_of_one (codes "gen") words

abbrev kinds_in : Shape → List Text → Kinds
kinds_in s words = level_fault s [] nothing_held words false []

level_asks : (name : Text) (kinds : Kinds) (rows : List Row)
    → found_unless (or_else kinds [])
    (option_and_then (command_for name (flags_found rows) (form_found rows) (checks_found rows)) (first_of (codes "operand") rows))
    ≡ option_and_then (command_with name) (found_unless kinds (said rows))
level_asks name [] rows = sym (with_asked name (flags_found rows) (form_found rows) (checks_found rows) (first_of (codes "operand") rows))
level_asks name (kind ∷ kinds) rows = refl

level_says : (say : List Row → Option Command) (kinds : Kinds) (rows : List Row)
    → found_unless (or_else kinds []) (say rows) ≡ found_unless kinds (say rows)
level_says say [] rows = refl
level_says say (kind ∷ kinds) rows = refl

abbrev rows_behind : Text → List Text → List Row
rows_behind name words = rows_after (flagged name).rules [] words

asks_one : (name : Text) (words : List Text)
    → found_unless (or_else (kinds_in (flagged name) words) []) (option_and_then (command_for name (flags_found (rows_behind name words))
    (form_found (rows_behind name words)) (checks_found (rows_behind name words))) (first_of (codes "operand") (rows_behind name words)))
    ≡ asked_of_one name words
asks_one name words = level_asks name (kinds_in (flagged name) words) (rows_behind name words)

-- the words behind a subcommand are left to it
entering : (v : Verb) (words : List Text) → clap_command (verb_word v ∷ words) ≡ top_command [] (stopped_at (verb_word v) words)
unfolding clap_on_literals
entering compile words = ap₂ top_command (stopped_fault (built grammar).top (names_of (built grammar)) start (codes "compile", []) words)
    (sym (walk_stopped (built grammar).top.rules (names_of (built grammar)) start (codes "compile") [] words))
entering run words = ap₂ top_command (stopped_fault (built grammar).top (names_of (built grammar)) start (codes "run", []) words)
    (sym (walk_stopped (built grammar).top.rules (names_of (built grammar)) start (codes "run") [] words))
entering pre words = ap₂ top_command (stopped_fault (built grammar).top (names_of (built grammar)) start (codes "pre", []) words)
    (sym (walk_stopped (built grammar).top.rules (names_of (built grammar)) start (codes "pre") [] words))
entering check words = ap₂ top_command (stopped_fault (built grammar).top (names_of (built grammar)) start (codes "check", []) words)
    (sym (walk_stopped (built grammar).top.rules (names_of (built grammar)) start (codes "check") [] words))
entering exec words = ap₂ top_command (stopped_fault (built grammar).top (names_of (built grammar)) start (codes "exec", []) words)
    (sym (walk_stopped (built grammar).top.rules (names_of (built grammar)) start (codes "exec") [] words))
entering prove words = ap₂ top_command (stopped_fault (built grammar).top (names_of (built grammar)) start (codes "prove", []) words)
    (sym (walk_stopped (built grammar).top.rules (names_of (built grammar)) start (codes "prove") [] words))
entering verify words = ap₂ top_command (stopped_fault (built grammar).top (names_of (built grammar)) start (codes "verify", []) words)
    (sym (walk_stopped (built grammar).top.rules (names_of (built grammar)) start (codes "verify") [] words))
entering gen words = ap₂ top_command (stopped_fault (built grammar).top (names_of (built grammar)) start (codes "gen", []) words)
    (sym (walk_stopped (built grammar).top.rules (names_of (built grammar)) start (codes "gen") [] words))

entered_is : (v : Verb) (words : List Text) → top_command [] (stopped_at (verb_word v) words) ≡ asked_of v words
unfolding clap_on_literals
entered_is compile words = asks_one (codes "compile") words
entered_is run words = asks_one (codes "run") words
entered_is pre words = asks_one (codes "pre") words
entered_is check words = asks_one (codes "check") words
entered_is exec words = asks_one (codes "exec") words
entered_is prove words = asks_one (codes "prove") words
entered_is verify words = level_says verify_found (kinds_in (paired (codes "verify")) words) (rows_after (paired (codes "verify")).rules [] words)
entered_is gen words = asks_one (codes "gen") words

-- the same of `emit`
entering_emit : (words : List Text) → clap_command (codes "emit" ∷ words) ≡ top_command [] (stopped_at (codes "emit") words)
unfolding clap_on_literals
entering_emit words = ap₂ top_command (stopped_fault (built grammar).top (names_of (built grammar)) start (codes "emit", []) words)
    (sym (walk_stopped (built grammar).top.rules (names_of (built grammar)) start (codes "emit") [] words))

entered_emit : (words : List Text) → top_command [] (stopped_at (codes "emit") words) ≡ found_in emit_found emitting words
unfolding clap_on_literals
entered_emit words = level_says emit_found (kinds_in emitting words) (rows_after emitting.rules [] words)

emit_first : (us : List EmitUse) → stands_twice (codes "--main") (emit_words_of us) ≡ false → stands_twice (codes "--name") (emit_words_of us) ≡ false
    → clap_command (codes "emit" ∷ emit_words_of us) ≡ command_in (codes "emit" ∷ emit_words_of us)
emit_first us main_once name_once = entering_emit (emit_words_of us) ∙ entered_emit (emit_words_of us) ∙ emit_found_are us main_once name_once

module _ (us : List Use) (once : AreOnce (words_of us)) where
  asked_is_one : (name : Text)
      → asked_of_one name (words_of us)
      ≡ option_and_then (command_for name (flags_in (words_of us)) (form_in (words_of us)) (checks_in (words_of us))) (only (operands (words_of us)))
  asked_is_one name =
      ap (option_and_then (command_with name)) (flags_found_are name us once)
      ∙ with_asked name (flags_in (words_of us)) (form_in (words_of us)) (checks_in (words_of us)) (only (operands (words_of us)))

  asked_is : (v : Verb) → asked_of v (words_of us) ≡ command_in (verb_word v ∷ words_of us)
  asked_is compile = asked_is_one (codes "compile")
  asked_is run = asked_is_one (codes "run")
  asked_is pre = asked_is_one (codes "pre")
  asked_is check = asked_is_one (codes "check")
  asked_is exec = asked_is_one (codes "exec")
  asked_is prove = asked_is_one (codes "prove")
  asked_is verify = paired_found_are (codes "verify") us
  asked_is gen = asked_is_one (codes "gen")

  verb_first : (v : Verb) → clap_command (verb_word v ∷ words_of us) ≡ command_in (verb_word v ∷ words_of us)
  verb_first v = entering v (words_of us) ∙ entered_is v (words_of us) ∙ asked_is v

-- the word is no verb
record IsOther (w : Text) : Type 0 where
  compile : (bytes_eq (codes "compile") w ≡ false) × (bytes_eq w (codes "compile") ≡ false)
  run : (bytes_eq (codes "run") w ≡ false) × (bytes_eq w (codes "run") ≡ false)
  pre : (bytes_eq (codes "pre") w ≡ false) × (bytes_eq w (codes "pre") ≡ false)
  check : (bytes_eq (codes "check") w ≡ false) × (bytes_eq w (codes "check") ≡ false)
  exec : (bytes_eq (codes "exec") w ≡ false) × (bytes_eq w (codes "exec") ≡ false)
  prove : (bytes_eq (codes "prove") w ≡ false) × (bytes_eq w (codes "prove") ≡ false)
  verify : (bytes_eq (codes "verify") w ≡ false) × (bytes_eq w (codes "verify") ≡ false)
  gen : (bytes_eq (codes "gen") w ≡ false) × (bytes_eq w (codes "gen") ≡ false)
  emit : (bytes_eq (codes "emit") w ≡ false) × (bytes_eq w (codes "emit") ≡ false)

data Named (w : Text) : Type 0 where
  verb : (v : Verb) → verb_word v ≡ w → Named w
  other : IsOther w → Named w

apart : (a w : Text) → (a ≡ w) ⊎ ((bytes_eq a w ≡ false) × (bytes_eq w a ≡ false))
apart a w = go (bytes_eq a w) refl (bytes_eq w a) refl
  where
    go : (b : Bool) → bytes_eq a w ≡ b → (c : Bool) → bytes_eq w a ≡ c → (a ≡ w) ⊎ ((bytes_eq a w ≡ false) × (bytes_eq w a ≡ false))
    go true t c u = inl ((bytes_eq-Decides a w).0 t)
    go false t true u = inl (sym ((bytes_eq-Decides w a).0 u))
    go false t false u = inr (t, u)

-- a word that is not `emit`
not_emit : (w : Text) → bytes_eq w (codes "emit") ≡ false → (bytes_eq (codes "emit") w ≡ false) × (bytes_eq w (codes "emit") ≡ false)
not_emit w differs = elim (apart (codes "emit") w) [
  | inl is ↦ absurd (true≢false (subst (λ v. bytes_eq v (codes "emit") ≡ false) (sym is) differs))
  | inr both_ways ↦ both_ways
]

named : (w : Text) → bytes_eq w (codes "emit") ≡ false → Named w
named w differs = elim (apart (codes "compile") w) [
  | inl is ↦ verb compile is
  | inr not_compile ↦ elim (apart (codes "run") w) [
    | inl is ↦ verb run is
    | inr not_run ↦ elim (apart (codes "pre") w) [
      | inl is ↦ verb pre is
      | inr not_pre ↦ elim (apart (codes "check") w) [
        | inl is ↦ verb check is
        | inr not_check ↦ elim (apart (codes "exec") w) [
          | inl is ↦ verb exec is
          | inr not_exec ↦ elim (apart (codes "prove") w) [
            | inl is ↦ verb prove is
            | inr not_prove ↦ elim (apart (codes "verify") w) [
              | inl is ↦ verb verify is
              | inr not_verify ↦ elim (apart (codes "gen") w) [
                | inl is ↦ verb gen is
                | inr not_gen ↦ other
                    (record {
                      compile = not_compile;
                      run = not_run;
                      pre = not_pre;
                      check = not_check;
                      exec = not_exec;
                      prove = not_prove;
                      verify = not_verify;
                      gen = not_gen;
                      emit = not_emit w differs;
                    })
              ]
            ]
          ]
        ]
      ]
    ]
  ]
]

none_then : (g : Text → Option Command) (o : Option Text) → ((x : Text) → g x ≡ None) → option_and_then g o ≡ None
none_then g None h = refl
none_then g (Some o) h = h o

other_without_input : (f : Flags) (word : Text) → IsOther word → (x : Text) → command_without_input word f x ≡ None
other_without_input f word h x =
    (λ i. cond (h.compile.1 i) (Some (the_compile f x)) (cond (asks_passes f) None
    (cond (h.pre.1 i) (Some (the_pre x)) (cond (h.prove.1 i) (Some (the_prove x)) (cond (h.gen.1 i) (option_map the_gen (size_of x)) None)))))
    ∙ cond_same (asks_passes f) None

other_asks_none : (f : Flags) (g : ReplyForm) (k : CheckFlags) (word : Text) → IsOther word → (x : Text) → command_for word f g k x ≡ None
other_asks_none f g k word h x =
    (λ i. cond (h.check.1 i) (check_for f g k x) (cond (asks_answers k) None
    (cond (h.run.1 i) (run_for f g x) (cond (h.exec.1 i) (exec_for f g x) (cond (asks_replies g) None (other_without_input f word h x i))))))
    ∙ ap (cond (asks_answers k) None) (cond_same (asks_replies g) None) ∙ cond_same (asks_answers k) None

-- behind such a word nothing is asked
other_in : (w : Text) (words : List Text) → IsOther w → command_in (w ∷ words) ≡ None
other_in w words h =
    let f = flags_in words in
    let g = form_in words in
    let k = checks_in words in
    ap₂ (λ a b. cond a (emit_for words) (cond b (verify_for words) (option_and_then (command_for w f g k) (only (operands words))))) h.emit.1 h.verify.1
    ∙ none_then (command_for w f g k) (only (operands words)) (other_asks_none f g k w h)

abbrev hit : Text → Option (Text × List Text)
hit name = Some (name, [])

-- no subcommand answers to the word
no_subcommand : (w : Text) → IsOther w → subcommand_met (names_of (built grammar)) idle w ≡ None
no_subcommand w h =
    λ i. option_map (λ s. s.0) (cond (h.compile.0 i || false) (hit (codes "compile")) (cond (h.run.0 i || false) (hit (codes "run"))
    (cond (h.pre.0 i || false) (hit (codes "pre")) (cond (h.check.0 i || false) (hit (codes "check")) (cond (h.exec.0 i || false) (hit (codes "exec"))
    (cond (h.prove.0 i || false) (hit (codes "prove")) (cond (h.verify.0 i || false) (hit (codes "verify")) (cond (h.gen.0 i || false) (hit (codes "gen"))
    (cond (h.emit.0 i || false) (hit (codes "emit")) None)))))))))

stray : (w : Text) (is : IsOperand w) → IsOther w
    → turn_fault (built grammar).top (names_of (built grammar)) (at [] None 1) w ≡ UnknownArgument ∷ InvalidSubcommand ∷ []
stray w is h = operand_turn w is (built grammar).top (names_of (built grammar)) (at [] None 1).held 1 (no_subcommand w h)

abbrev top_turn : List Text → Kinds → Walk → Option Command
top_turn words turn w =
    let top = (built grammar).top in
    let names = names_of (built grammar) in
    top_command (or_else turn (walk_fault top names w words)) (fold (walked top.rules names) w words)

other_first : (w : Text) (is : IsOperand w) (words : List Text) → IsOther w → clap_command (w ∷ words) ≡ None
unfolding walk_fault
other_first w is words h =
    ap (λ turn. top_turn words turn (walked (built grammar).top.rules (names_of (built grammar)) start w)) (stray w is h)

operand_first : (us : List Use) (w : Text) (is : IsOperand w) → Named w → AreOnce (words_of us)
    → clap_command (w ∷ words_of us) ≡ command_in (w ∷ words_of us)
operand_first us w is (verb v e) once = subst (λ y. clap_command (y ∷ words_of us) ≡ command_in (y ∷ words_of us)) e (verb_first us once v)
operand_first us w is (other h) once = other_first w is (words_of us) h ∙ sym (other_in w (words_of us) h)

-- a flag is no verb
no_verb : (f : Flag) → IsOther (flag_word f)
no_verb f = record {
  compile = (refl, refl);
  run = (refl, refl);
  pre = (refl, refl);
  check = (refl, refl);
  exec = (refl, refl);
  prove = (refl, refl);
  verify = (refl, refl);
  gen = (refl, refl);
  emit = (refl, refl);
}

flag_before : (f : Flag) (words : List Text) → clap_command (flag_word f ∷ words) ≡ None
unfolding clap_on_literals
flag_before plain words = refl
flag_before stats words = refl
flag_before key words = refl
flag_before jsonl words = refl
flag_before strict words = refl
flag_before unique words = refl

uses_go : (us : List Use) → is_emit (words_of us) ≡ false → AreOnce (words_of us) → clap_command (words_of us) ≡ command_in (words_of us)
unfolding clap_on_literals
uses_go [] differs once = refl
uses_go (flag f ∷ us) differs once = flag_before f (words_of us) ∙ sym (other_in (flag_word f) (words_of us) (no_verb f))
uses_go (operand word is ∷ us) differs once =
    operand_first us word is (named word differs)
    (λ f. sym (ap (λ b. cond b (stands (flag_word f) (words_of us)) (stands_twice (flag_word f) (words_of us))) (is.no_flag f)) ∙ once f)

-- what clap makes of words that may be parsed
plain_agrees : (words : List Text) → is_emit words ≡ false → may_ask words ≡ true → clap_command words ≡ command_in words
plain_agrees words differs h =
    let parts = both (list_all (λ w. is_flag w || is_operand w) words) _ h in
    let us = uses_of words parts.0 in
    subst (λ ws. clap_command ws ≡ command_in ws) us.1
    (uses_go us.0 (ap is_emit us.1 ∙ differs) (subst AreOnce (sym us.1) (once_of words parts.1)))

neither : (a b : Bool) → not (a || b) ≡ true → (a ≡ false) × (b ≡ false)
neither true b h = absurd (true≢false (sym h))
neither false true h = absurd (true≢false (sym h))
neither false false h = (refl, refl)

-- `emit` itself is an operand that is no flag, so that the words behind it are asked alone
emit_agrees : (words : List Text) → may_emit (codes "emit" ∷ words) ≡ true → clap_command (codes "emit" ∷ words) ≡ command_in (codes "emit" ∷ words)
emit_agrees words h =
    let parts = both (list_all (λ w. is_emit_flag w || is_operand w) words) _ h in
    let once = neither (stands_twice (codes "--main") words) (stands_twice (codes "--name") words) parts.1 in
    let us = emit_uses_of words parts.0 in
    subst (λ ws. clap_command (codes "emit" ∷ ws) ≡ command_in (codes "emit" ∷ ws)) us.1
    (emit_first us.0 (ap (stands_twice (codes "--main")) us.1 ∙ once.0) (ap (stands_twice (codes "--name")) us.1 ∙ once.1))

pub clap_agrees : (words : List Text) → may_be_parsed words ≡ true → clap_command words ≡ command_in words
clap_agrees [] h = plain_agrees [] refl h
clap_agrees (word ∷ words) h = go (bytes_eq word (codes "emit")) refl h
  where
    go : (b : Bool) → bytes_eq word (codes "emit") ≡ b → cond b (may_emit (word ∷ words)) (may_ask (word ∷ words)) ≡ true
        → clap_command (word ∷ words) ≡ command_in (word ∷ words)
    go true is asked =
        subst (λ w. may_emit (w ∷ words) ≡ true → clap_command (w ∷ words) ≡ command_in (w ∷ words)) (sym ((bytes_eq-Decides word (codes "emit")).0 is))
        (emit_agrees words) asked
    go false is asked = plain_agrees (word ∷ words) is asked

-- clap's contract says what a parse by this grammar gives, and why it fails
pub is_simple_grammar : is_simple grammar ≡ true
unfolding clap_on_literals
is_simple_grammar = refl

pub is_exact : is_simple_and_free grammar ≡ true
unfolding clap_on_literals
is_exact = refl
