use Rattle.std.proofs.Common.{◌≡◌, [], drop, drop_of_length-le, sym, ap, ◌∙◌, arith}
use Rattle.cf_form.specs.Counted.{side_counted}
use Rattle.cf_form.specs.WideView.{wide_term, wide_terms}
use Rattle.cf_form.proofs.CountLaws.{inners_next, links_next, links_are, earlier_none}
use Rattle.cf_form.proofs.count.+passed.Goals as goal

pub inners-loop-part-preserved : goal.inners-loop-part-preserved
inners-loop-part-preserved t c =
    inners_next c.args.parts.now c.loop-part.part-index _ c.loop-part.found _ _ _ (omega (arith, c.loop-part-test.true)) c.part-item.is
    c.term_passed-inner.ensures c.earlier-found.ensures c.loop-part.invariant

pub inners-returns : goal.inners-returns
inners-returns t c =
    let none : drop c.loop-part.part-index c.args.parts.now ≡ [] = drop_of_length-le c.args.parts.now {i = c.loop-part.part-index} (omega arith) in
    sym (earlier_none c.loop-part.found) ∙ (rw none at c.loop-part.invariant)

pub links_passed-loop-part-preserved : goal.links_passed-loop-part-preserved
links_passed-loop-part-preserved t c =
    links_next c.args.parts.now c.loop-part.part-index _ c.loop-part.before _ c.loop-part.found _ _ _ (omega (arith, c.loop-part-test.true)) c.part-item.is
    (c.counted-side.ensures ∙ ap (λ o. side_counted (wide_term c.part-item.result) o) c.term_passed-inner.ensures) c.link_passed.ensures c.earlier-found.ensures c.loop-part.invariant

pub links_passed-returns : goal.links_passed-returns
links_passed-returns t c =
    let none : drop c.loop-part.part-index c.args.parts.now ≡ [] = drop_of_length-le c.args.parts.now {i = c.loop-part.part-index} (omega arith) in
    sym (earlier_none c.loop-part.found) ∙ (rw none at c.loop-part.invariant) ∙ links_are (wide_terms c.args.parts.now)
