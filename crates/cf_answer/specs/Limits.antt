-- The limits of texts and of the input, by edition.
use Rattle.std.specs.Prelude.{ℕ, List, [], ◌∷◌, Option, Some, None}
use Rattle.cf_io.specs.Limits.{input_limit}
use Rattle.cf_lex.specs.Editions.{edition_of}
use Rattle.cf_tree.specs.declared.base.Edition.{Edition}
use Rattle.cf_tree.specs.declared.base.Edition.TheVariants.{Two, Three}
use Rattle.cf_answer.specs.declared.limits.TheConstants.{TEXT_LIMIT}

-- the most bytes of a source text
unfoldable pub text_limit : ℕ
text_limit = TEXT_LIMIT

-- the most bytes of a target and of a steps file of edition 3, and of what `compile` and `prove` write there
unfoldable pub written_limit : ℕ
written_limit = 67108864

-- the texts that are read: the source of an edition; a target or a steps file of one
pub data TextKind : Type 0 where
  of_source : Edition → TextKind
  of_target : Edition → TextKind

-- the edition by whose tokens it is read; targets and steps files have those of language 2
abbrev pub tokens_of : TextKind → Edition
tokens_of (of_source edition) = edition
tokens_of (of_target edition) = Two

-- the most bytes of such a text
abbrev pub most_of : TextKind → ℕ
most_of (of_source edition) = text_limit
most_of (of_target Two) = text_limit
most_of (of_target Three) = written_limit

-- the most bytes that are written of a target or of steps of an edition; of language 2 there is no limit
abbrev pub written_most : Edition → Option ℕ
written_most Two = None
written_most Three = Some written_limit

-- the most bytes of an input; edition 3 has no limit
abbrev pub input_limit_of : Edition → Option ℕ
input_limit_of Two = Some input_limit
input_limit_of Three = None

-- the edition in which files are answered: that of the source or the target, which is the first
abbrev pub edition_for : List (List ℕ) → Edition
edition_for [] = Two
edition_for (file ∷ files) = edition_of file

-- the most bytes of the input that are answered with these files
abbrev pub input_most : List (List ℕ) → Option ℕ
input_most files = input_limit_of (edition_for files)
