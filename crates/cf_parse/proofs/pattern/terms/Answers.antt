use Rattle.std.proofs.Common.{rules, ◌-◌, ◌+◌, length, sym, ◌∙◌, arith}
use Rattle.std.proofs.lemmas.Result.{err_from_is_err_and}
use Rattle.cf_parse.specs.Reading.{all_terms}
use Rattle.cf_parse.proofs.Terms.{terms_end, terms_fail, terms_next}
use Rattle.cf_parse.proofs.pattern.terms.Goals as goal

pub returns-in_err-term : goal.returns-in_err-term
unfolding all_terms
returns-in_err-term c =
    let p = err_from_is_err_and c.from_residual.result c.from_residual.ensures.1 in
    rw (p.1, p.2, ← c.loop.invariant) (terms_fail c.args.edition _ _ _ _ _ _ c.in_err-term.ensures (omega arith))

pub returns : goal.returns
unfolding all_terms
returns c = sym c.loop.invariant ∙ terms_end c.args.edition _ _ _ _ _ (omega arith)

pub loop-preserved : goal.loop-preserved
loop-preserved c =
    terms_next c.args.edition (length c.args.tokens.now - c.loop.counter) (length c.args.tokens.now - (c.loop.counter + 1)) c.loop.start c.loop.sign
    c.loop.parts.items c.push.new.self.items c.loop.rest.now c.in-Part.part c.in_ok-term.behind.now (c.in-Some.place, c.in-Some.next) c.in-Some.behind.now _
    (search rules) c.in-Some.ensures (omega arith) (search rules) c.loop.invariant
