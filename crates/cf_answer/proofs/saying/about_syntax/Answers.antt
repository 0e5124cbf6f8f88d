use Rattle.std.proofs.Common.{◌≡◌, refl, sym, subst, rules}
use Rattle.cf_tree.specs.declared.base.Edition.TheVariants.{Three}
use Rattle.cf_lex.specs.Tokens.{at_end}
use Rattle.cf_answer.specs.Limits.{of_source}
use Rattle.cf_answer.specs.Sources.{HasTokens}
use Rattle.cf_answer.proofs.SayingLemmas.{small_text, when_made}
use Rattle.cf_answer.proofs.saying.about_syntax.Goals as goal

pub lexed-requires : goal.lexed-requires
lexed-requires c = record { place = small_text _ c.requires.short }

pub returns-in-Ok : goal.returns-in-Ok
returns-in-Ok c =
    let same : c.as_slice.result.now ≡ c.in-Ok.list.list.items = search rules in
    let tokens = subst (λ ts. HasTokens (of_source Three) c.args.source.now.text.now ts c.in-Ok.list.end at_end) (sym same)
    (c.in-Ok.ensures.tokens (of_source Three) refl c.requires.short) in
    when_made _ _ c.about_tokens.result (λ m is. (c.as_slice.result.now, c.in-Ok.list.end, tokens, rw is refl)) c.about_tokens.ensures
