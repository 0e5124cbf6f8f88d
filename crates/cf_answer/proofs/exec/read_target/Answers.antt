use Rattle.std.proofs.Common.{◌≡◌, ◌∙◌, ◌<◌, inl, ap, length, arith}
use Rattle.cf_lex.specs.Editions.{edition_of}
use Rattle.cf_answer.specs.Limits.{of_target, most_of}
use Rattle.cf_answer.specs.Refusals.{too_long}
use Rattle.cf_answer.proofs.exec.read_target.Goals as goal

pub returns-then-text-longest_target : goal.returns-then-text-longest_target
returns-then-text-longest_target c =
    let most : c.longest_target.result ≡ most_of (of_target (edition_of c.args.text.now)) =
    c.longest_target.ensures.is ∙ ap (λ e. most_of (of_target e)) c.edition_of-edition.ensures.is in
    let past : most_of (of_target (edition_of c.args.text.now)) < length c.args.text.now = omega (arith, c.if-text-longest_target.true, most) in
    inl (too_long past)
