-- Tokens, and where reading stops, as the program has them.
use Rattle.std.specs.Prelude.{ℕ, List, map, Option, option_map}
use Rattle.std.specs.Borrow.{Bor}
use Rattle.cf_lex.specs.declared.token.TokenKind.{TokenKind}
use Rattle.cf_help.specs.Syntax.{Stop}
use Rattle.cf_help.specs.declared.stop.Stop.{Stop as Stopped}

abbrev pub text_seen : Option (Bor (List ℕ)) → Option (List ℕ)
text_seen word = option_map (λ w. w.now) word

abbrev pub kind_seen : Option (Bor TokenKind) → Option TokenKind
kind_seen kind = option_map (λ k. k.now) kind

abbrev pub kinds_seen : List (Bor TokenKind) → List TokenKind
kinds_seen kinds = map (λ k. k.now) kinds

abbrev pub stop_of : Stopped → Stop
stop_of s = record { refused = kind_seen s.refused; before = kinds_seen s.before.items; next = kind_seen s.next }
