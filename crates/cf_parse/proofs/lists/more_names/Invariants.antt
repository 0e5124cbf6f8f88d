use Rattle.std.proofs.Common.{◌≡◌, ◌-◌, length}
use Rattle.std.specs.Prelude.{codes}
use Rattle.cf_lex.specs.declared.token.TokenKind.TheVariants.{Sign}
use Rattle.cf_reader.specs.Readers.{more_of, must, a_name}
use Rattle.cf_parse.specs.Reading.{named}
use Rattle.cf_parse.proofs.lists.more_names.Given as goal

abbrev pub invariant-loop : goal.invariant-loop
invariant-loop l =
    more_of named (must (a_name l.edition)) (Sign (codes ",")) (Sign (codes ")")) (length l.fn.tokens - l.counter) (l.done.names.items, l.done.places.items) l.rest
    ≡ more_of named (must (a_name l.edition)) (Sign (codes ",")) (Sign (codes ")")) (length l.fn.tokens) (l.fn.first.names.items, l.fn.first.places.items) l.fn.tokens
