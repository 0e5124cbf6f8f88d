-- Tokens for worked examples, all at one place.
use Rattle.std.specs.Prelude.{ℕ, pos, List}
use Rattle.cf_lex.specs.declared.token.Token.{Token}
use Rattle.cf_lex.specs.declared.token.TokenKind.TheVariants as kinds
use Rattle.cf_tree.specs.declared.base.Place.{Place}

abbrev pub here : Place
here = record { line = 1; column = 1 }

abbrev pub word : List ℕ → Token
word x = record { place = here; kind = kinds.Word x }

abbrev pub sign : List ℕ → Token
sign x = record { place = here; kind = kinds.Sign x }

abbrev pub literal : ℕ → Token
literal n = record { place = here; kind = kinds.Literal (pos n) }
