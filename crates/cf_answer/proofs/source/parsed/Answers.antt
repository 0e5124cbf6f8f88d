use Rattle.std.proofs.Common.{inl, refl}
use Rattle.cf_answer.specs.Limits.{of_source}
use Rattle.cf_answer.proofs.SpelledLemmas.{spelled_program}
use Rattle.cf_answer.proofs.TextLemmas.{spelled_in, no_source_in}
use Rattle.cf_answer.proofs.source.parsed.Goals as goal

pub returns-in-Ok-clause-verdict : goal.returns-in-Ok-clause-verdict
returns-in-Ok-clause-verdict c =
    let list = c.in_ok-list.list in
    spelled_in c.args.edition c.args.text.now _ list.list.items list.end c.requires.edition
    (c.in_ok-list.ensures.tokens (of_source c.args.edition) refl c.requires.short) c.in-Ok.ensures.found

pub returns-in-Ok-clause-numbers : goal.returns-in-Ok-clause-numbers
returns-in-Ok-clause-numbers c = spelled_program c.args.edition _ c.in_ok-list.list.list.items c.in-Ok.ensures.found c.in_ok-list.ensures.within

pub returns-in-Err-Syntax-clause-verdict : goal.returns-in-Err-Syntax-clause-verdict
returns-in-Err-Syntax-clause-verdict c =
    let is = c.in-Err-Syntax.field-0-is in
    let list = c.in_ok-list.list in
    inl (no_source_in c.args.edition c.args.text.now list.list.items list.end c.in-Err-Syntax.place c.requires.edition
    (c.in_ok-list.ensures.tokens (of_source c.args.edition) refl c.requires.short) (rw is at c.in-Err-Syntax.ensures.only)
    (rw is at c.in-Err-Syntax.ensures.place)
    (rw is at c.in-Err-Syntax.ensures.exact))
