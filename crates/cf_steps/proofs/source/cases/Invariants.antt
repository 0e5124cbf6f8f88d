use Rattle.std.proofs.Common.{◌≡◌, ◌-◌, [], length, map}
use Rattle.std.specs.Prelude.{codes}
use Rattle.cf_lex.specs.declared.token.TokenKind.TheVariants.{Word, Sign}
use Rattle.cf_reader.specs.Readers.{more_of, snoc}
use Rattle.cf_steps.specs.Reading.{case_of}
use Rattle.cf_steps.proofs.source.cases.Given as goal

abbrev pub invariant-loop : goal.invariant-loop
invariant-loop l =
    more_of snoc case_of (Word (codes "case")) (Sign (codes "}")) (length l.fn.tokens - l.counter) (map (λ c. c.items) l.done.items) l.rest
    ≡ more_of snoc case_of (Word (codes "case")) (Sign (codes "}")) (length l.fn.tokens) [] l.fn.tokens
