use Rattle.std.proofs.Common.{◌≡◌, Some, refl, sym, ◌∙◌, arith, rules}
use Rattle.std.proofs.lemmas.Result.{err_from_is_err_and}
use Rattle.cf_reader.specs.Readers.{at, others_of, snoc}
use Rattle.cf_reader.proofs.Steps.{more_closes, more_ends, more_fails, more_next, ok_same}
use Rattle.cf_target.proofs.Loops.{more_open, out_of_memory}
use Rattle.cf_parse.specs.declared.tier.Tier.TheVariants.{Whole}
use Rattle.cf_parse.specs.LinksView.{links_tree}
use Rattle.cf_parse.specs.Reading.{arm_of, next_order, read}
use Rattle.cf_parse.proofs.Above.{word_reserved}
use Rattle.cf_parse.proofs.Steps.{links_end, links_fail, links_next}
use Rattle.cf_parse.proofs.reading.+reading.Goals as goal

pub more-returns-in-None-clause-value : goal.more-returns-in-None-clause-value
unfolding others_of
more-returns-in-None-clause-value t c =
    sym c.loop.invariant.1 ∙ more_closes snoc (read c.args.edition c.args.n Whole) _ _ _ _ _ _ _ c.in-None.ensures c.in_ok-behind-in-None.ensures (omega arith)

pub more-returns-in_err-behind-in-None-clause-value : goal.more-returns-in_err-behind-in-None-clause-value
unfolding others_of
more-returns-in_err-behind-in-None-clause-value t c =
    let p = err_from_is_err_and c.from_residual-in_err-behind-in-None.result c.from_residual-in_err-behind-in-None.ensures.1 in
    rw (p.1, p.2, ← c.loop.invariant.1) (more_open snoc (read c.args.edition c.args.n Whole) _ _ _ _ _ _ c.in-None.ensures c.in_err-behind-in-None.ensures (omega arith))

pub more-returns-in_err-done-in-Some-clause-value : goal.more-returns-in_err-done-in-Some-clause-value
more-returns-in_err-done-in-Some-clause-value t c =
    let p = err_from_is_err_and c.from_residual-in_err-done-in-Some.result c.from_residual-in_err-done-in-Some.ensures.1 in
    rw (p.1, p.2) (out_of_memory _ _ _ c.in_err-done-in-Some.ensures.value)

pub more-returns-clause-value : goal.more-returns-clause-value
unfolding others_of
more-returns-clause-value t c = sym c.loop.invariant.1 ∙ more_ends snoc (read c.args.edition c.args.n Whole) _ _ _ _ _ (omega arith)

pub more-returns-in_err-e-in-Some-clause-value : goal.more-returns-in_err-e-in-Some-clause-value
unfolding others_of
more-returns-in_err-e-in-Some-clause-value t c =
    let p = err_from_is_err_and c.from_residual.result c.from_residual.ensures.1 in
    rw (p.1, p.2, ← c.loop.invariant.1) (more_fails snoc (read c.args.edition c.args.n Whole) _ _ _ _ _ _ _ _ c.in-Some.ensures c.in_err-e-in-Some.ensures.value (omega arith))

pub more-loop-preserved : goal.more-loop-preserved
more-loop-preserved t c =
    let deep = c.in_ok-done-in-Some.ensures.deep in
    let e_deep = c.in_ok-e-in-Some.ensures.deep in
    let before = c.loop.invariant.0 in (
      omega (arith, deep, e_deep, before),
      more_next snoc (read c.args.edition c.args.n Whole) _ _ _ _ _ _ _ _ _ _ _ _ c.in-Some.ensures c.in_ok-e-in-Some.ensures.value (omega arith)
          (ok_same _ _ _ refl c.in_ok-done-in-Some.ensures.value) c.loop.invariant.1,
    )

pub more_arms-returns-in-None-clause-value : goal.more_arms-returns-in-None-clause-value
unfolding others_of
more_arms-returns-in-None-clause-value t c =
    sym c.loop.invariant.1 ∙ more_closes snoc (arm_of c.args.edition (read c.args.edition c.args.n)) _ _ _ _ _ _ _ c.in-None.ensures c.in_ok-behind-in-None.ensures (omega arith)

pub more_arms-returns-in_err-behind-in-None-clause-value : goal.more_arms-returns-in_err-behind-in-None-clause-value
unfolding others_of
more_arms-returns-in_err-behind-in-None-clause-value t c =
    let p = err_from_is_err_and c.from_residual-in_err-behind-in-None.result c.from_residual-in_err-behind-in-None.ensures.1 in
    rw (p.1, p.2, ← c.loop.invariant.1) (more_open snoc (arm_of c.args.edition (read c.args.edition c.args.n)) _ _ _ _ _ _ c.in-None.ensures c.in_err-behind-in-None.ensures (omega arith))

pub more_arms-returns-in_err-done-in-Some-clause-value : goal.more_arms-returns-in_err-done-in-Some-clause-value
more_arms-returns-in_err-done-in-Some-clause-value t c =
    let p = err_from_is_err_and c.from_residual-in_err-done-in-Some.result c.from_residual-in_err-done-in-Some.ensures.1 in
    rw (p.1, p.2) (out_of_memory _ _ _ c.in_err-done-in-Some.ensures.value)

pub more_arms-returns-clause-value : goal.more_arms-returns-clause-value
unfolding others_of
more_arms-returns-clause-value t c = sym c.loop.invariant.1 ∙ more_ends snoc (arm_of c.args.edition (read c.args.edition c.args.n)) _ _ _ _ _ (omega arith)

pub more_arms-returns-in_err-x-in-Some-clause-value : goal.more_arms-returns-in_err-x-in-Some-clause-value
unfolding others_of
more_arms-returns-in_err-x-in-Some-clause-value t c =
    let p = err_from_is_err_and c.from_residual.result c.from_residual.ensures.1 in
    rw (p.1, p.2, ← c.loop.invariant.1) (more_fails snoc (arm_of c.args.edition (read c.args.edition c.args.n)) _ _ _ _ _ _ _ _ c.in-Some.ensures c.in_err-x-in-Some.ensures.value
    (omega arith))

pub more_arms-loop-preserved : goal.more_arms-loop-preserved
more_arms-loop-preserved t c =
    let deep = c.in_ok-done-in-Some.ensures.deep in
    let e_deep = c.in_ok-x-in-Some.ensures.deep in
    let before = c.loop.invariant.0 in (
      omega (arith, deep, e_deep, before),
      more_next snoc (arm_of c.args.edition (read c.args.edition c.args.n)) _ _ _ _ _ _ _ _ _ _ _ _ c.in-Some.ensures c.in_ok-x-in-Some.ensures.value (omega arith)
          (ok_same _ _ _ refl c.in_ok-done-in-Some.ensures.value) c.loop.invariant.1,
    )

pub more_links-returns-clause-value : goal.more_links-returns-clause-value
more_links-returns-clause-value t c = sym c.loop.invariant.1 ∙ links_end (read c.args.edition c.args.n) _ _ _ (omega arith)

pub more_links-returns-in_err-e-in-Some-clause-value : goal.more_links-returns-in_err-e-in-Some-clause-value
more_links-returns-in_err-e-in-Some-clause-value t c =
    let p = err_from_is_err_and c.from_residual.result c.from_residual.ensures.1 in
    let next : at (next_order c.loop.done.orders.items) c.loop.rest.now ≡ Some (c.in-Some.link, c.in-Some.behind.now) = search rules in
    rw (p.1, p.2, ← c.loop.invariant.1)
    (links_fail (read c.args.edition c.args.n) _ (links_tree c.loop.done) _ _ _ _ next c.in_err-e-in-Some.ensures.value (omega arith))

pub more_links-loop-preserved : goal.more_links-loop-preserved
more_links-loop-preserved t c =
    let deep = c.in_ok-done-in-Some.ensures.deep in
    let e_deep = c.in_ok-e-in-Some.ensures.deep in
    let before = c.loop.invariant.0 in
    let next : at (next_order c.loop.done.orders.items) c.loop.rest.now ≡ Some (c.in-Some.link, c.in-Some.behind.now) = search rules in (
      omega (arith, deep, e_deep, before),
      links_next (read c.args.edition c.args.n) _ _ (links_tree c.loop.done) (links_tree c.in_ok-done-in-Some.done) _ _ _ _ _ _ next
          c.in_ok-e-in-Some.ensures.value (omega arith) (ok_same _ _ _ refl c.in_ok-done-in-Some.ensures.value) c.loop.invariant.1,
    )

pub word-returns-in-Some-reserved_op-clause-value : goal.word-returns-in-Some-reserved_op-clause-value
word-returns-in-Some-reserved_op-clause-value t c =
    rw (word_reserved c.args.edition (read c.args.edition c.args.n) c.args.n c.args.tokens.now c.in-Some-reserved_op.rest.now c.in-Some-reserved_op.place
    c.in-Some-reserved_op.op c.in_default.ensures c.in-Some-reserved_op.ensures (omega (arith, c.if-n-eq0.false))) c.reserved.ensures.value
