use Rattle.std.proofs.Common.{sym, ◌∙◌}
use Rattle.cf_eval.proofs.ReadLemmas.{parts_last, parts_more, parts_fault}
use Rattle.std.proofs.lemmas.Result.{err_from_is_err_and}
use Rattle.cf_eval.proofs.braces.items.Goals as goal

pub returns-then-rest-n-clause-value : goal.returns-then-rest-n-clause-value
returns-then-rest-n-clause-value c =
    sym c.items.invariant.goes ∙ parts_last c.args.limit c.comma_at-n.result c.items.rest.now c.items.items.items _ c.comma_at-n.ensures.count c.if-rest-n.true
    c.in_ok-add_item.ensures.added

pub items-preserved : goal.items-preserved
items-preserved c = record {
  goes =
      rw c.behind-rest.ensures (sym (parts_more c.args.limit c.comma_at-n.result c.items.rest.now c.items.items.items _ c.comma_at-n.ensures.count
      c.if-rest-n.false c.in_ok-add_item.ensures.added)
      ∙ c.items.invariant.goes);
  fits = c.in_ok-add_item.ensures.fits c.items.invariant.fits;
}

pub returns-in_err-add_item-clause-value : goal.returns-in_err-add_item-clause-value
returns-in_err-add_item-clause-value c =
    let p = err_from_is_err_and c.from_residual.result c.from_residual.ensures.1 in
    rw (p.1, p.2, ← c.items.invariant.goes) (parts_fault c.args.limit c.comma_at-n.result c.items.rest.now c.items.items.items _ c.comma_at-n.ensures.count
    c.in_err-add_item.ensures.added)
