-- What clap finds behind a subcommand with two operands.
use Rattle.std.proofs.Common.{◌≡◌, ◌∙◌, ◌&&◌, ℕ, Bool, true, false, cond, refl, sym, List, [], ◌∷◌, Some, None}
use Rattle.std.specs.Prelude.{codes}
use Rattle.clap.proofs.OnLiterals.{clap_on_literals}
use Rattle.clap.specs.Faults.{turn_fault}
use Rattle.clap.specs.Simple.{Shape, built_leaf, inherited}
use Rattle.clap.specs.Walk.{Held, Text, Walk}
use Rattle.clap.specs.declared.error.kind.ErrorKind.TheVariants.{UnknownArgument}
use Rattle.cf_words.specs.Commands.{Command, verify}
use Rattle.cf_words.specs.Grammar.{paired_subcommand, program, verify_found}
use Rattle.cf_words.specs.Words.{is_name, verify_for}
use Rattle.cf_words.proofs.Uses.{Flag, Use, flag_word, words_of, plain, stats, key, jsonl, strict, unique, flag, operand}
use Rattle.cf_words.proofs.LevelLaws.{found_from, found_in, passes, fails, between, held_with, row_with, operand_turn, operand_walk}

abbrev pub paired : Text → Shape
paired name = built_leaf (inherited program.top (paired_subcommand name).top)

-- the walk where nothing was read, where one operand waits, and where a second one waits behind it
abbrev none_read : Walk
none_read = between (held_with (codes "file") [] None) 1

abbrev one_read : Text → Walk
one_read file = between (held_with (codes "file") [] (Some file)) 2

abbrev two_read : Text → Text → Walk
two_read file steps = between (held_with (codes "steps") (row_with (codes "file") file ∷ []) (Some steps)) 3

-- a flag is no name, so that it leaves nothing asked
none_behind : (b : Bool) (c : Command) → cond (b && false) (Some c) None ≡ None
none_behind true c = refl
none_behind false c = refl

flag_first : (f : Flag) (words : List Text) → verify_for (flag_word f ∷ words) ≡ None
flag_first f [] = refl
flag_first f (x ∷ []) = refl
flag_first f (x ∷ y ∷ words) = refl

flag_second : (file : Text) (f : Flag) (words : List Text) → verify_for (file ∷ flag_word f ∷ words) ≡ None
flag_second file f [] = none_behind (is_name file) (verify file (flag_word f))
flag_second file f (x ∷ words) = refl

module _ (name : Text) where
  flag_unknown : (f : Flag) (h : Held) (position : ℕ) → turn_fault (paired name) [] (between h position) (flag_word f) ≡ UnknownArgument ∷ []
  unfolding clap_on_literals
  flag_unknown plain h position = refl
  flag_unknown stats h position = refl
  flag_unknown key h position = refl
  flag_unknown jsonl h position = refl
  flag_unknown strict h position = refl
  flag_unknown unique h position = refl

  behind_two : (us : List Use) (file steps : Text)
      → found_from verify_found (paired name) (two_read file steps) (words_of us) ≡ verify_for (file ∷ steps ∷ words_of us)
  unfolding clap_on_literals
  behind_two [] file steps = refl
  behind_two (flag f ∷ us) file steps =
      fails verify_found (paired name) (two_read file steps) (flag_word f) (words_of us) UnknownArgument [] (flag_unknown f (two_read file steps).held 3)
  behind_two (operand word is ∷ us) file steps =
      fails verify_found (paired name) (two_read file steps) word (words_of us) UnknownArgument []
      (operand_turn word is (paired name) [] (two_read file steps).held 3 refl)

  behind_one : (us : List Use) (file : Text) → found_from verify_found (paired name) (one_read file) (words_of us) ≡ verify_for (file ∷ words_of us)
  unfolding clap_on_literals
  behind_one [] file = refl
  behind_one (flag f ∷ us) file =
      fails verify_found (paired name) (one_read file) (flag_word f) (words_of us) UnknownArgument [] (flag_unknown f (one_read file).held 2)
      ∙ sym (flag_second file f (words_of us))
  behind_one (operand word is ∷ us) file =
      passes verify_found (paired name) (one_read file) (two_read file word) word (words_of us)
      (operand_turn word is (paired name) [] (one_read file).held 2 refl) (operand_walk word is (paired name) (one_read file).held 2)
      ∙ behind_two us file word

  pub paired_found_are : (us : List Use) → found_in verify_found (paired name) (words_of us) ≡ verify_for (words_of us)
  unfolding clap_on_literals
  paired_found_are [] = refl
  paired_found_are (flag f ∷ us) =
      fails verify_found (paired name) none_read (flag_word f) (words_of us) UnknownArgument [] (flag_unknown f none_read.held 1)
      ∙ sym (flag_first f (words_of us))
  paired_found_are (operand word is ∷ us) =
      passes verify_found (paired name) none_read (one_read word) word (words_of us) (operand_turn word is (paired name) [] none_read.held 1 refl)
      (operand_walk word is (paired name) none_read.held 1)
      ∙ behind_one us word
