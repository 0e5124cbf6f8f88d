use Rattle.std.proofs.Common.{◌∙◌, sym, arith, true, false}
use Rattle.std.proofs.lemmas.List.{map-append, take_rest}
use Rattle.std.proofs.lemmas.Result.{err_from_is_err_and}
use Rattle.std.proofs.lemmas.List.Elements.{All-push}
use Rattle.cf_eval.proofs.ReadLemmas.{values_end, values_joined, values_more, values_stop}
use Rattle.cf_eval.specs.Seen.{plain, plains, IsFit}
use Rattle.cf_eval.proofs.line.read_values.Goals as goal

pub loop-i-preserved : goal.loop-i-preserved
loop-i-preserved c =
    let apart = rw (take_rest, c.if-not-apart.false) at c.apart.ensures in
    let v = rw c.after_spaces.ensures at c.in_ok-v.ensures.value in
    record {
      goes =
          rw (c.in_ok-push.ensures.items, map-append plain c.loop-i.out.items _)
          (sym (values_more c.args.limit c.args.types.now c.loop-i.i _ c.loop-i.rest.now c.in_ok-v.more.now (plains c.loop-i.out.items) (plain c.in_ok-v.v)
          (omega arith) v (sym apart)) ∙ c.loop-i.invariant.goes);
      fits = rw c.in_ok-push.ensures.items (All-push IsFit c.loop-i.out.items c.in_ok-v.v c.loop-i.invariant.fits c.in_ok-v.ensures.fits);
    }

pub returns-in_err-v-clause-values : goal.returns-in_err-v-clause-values
returns-in_err-v-clause-values c =
    let p = err_from_is_err_and c.from_residual-in_err-v.result c.from_residual-in_err-v.ensures.1 in
    let v = rw c.after_spaces.ensures at c.in_err-v.ensures.value in
    rw (p.1, p.2, ← c.loop-i.invariant.goes) (values_stop c.args.limit c.args.types.now c.loop-i.i c.loop-i.rest.now _ _ _ c.loop-i-test.true v)

pub returns-then-not-apart-clause-values : goal.returns-then-not-apart-clause-values
returns-then-not-apart-clause-values c =
    let joined = rw (take_rest, c.if-not-apart.true) at c.apart.ensures in
    let v = rw c.after_spaces.ensures at c.in_ok-v.ensures.value in
    sym c.loop-i.invariant.goes
    ∙ values_joined c.args.limit c.args.types.now c.loop-i.i c.loop-i.rest.now _ _ _ _ c.loop-i-test.true v (sym joined)

pub returns-then-is_blank-clause-values : goal.returns-then-is_blank-clause-values
returns-then-is_blank-clause-values c =
    sym c.loop-i.invariant.goes
    ∙ values_end c.args.limit c.args.types.now c.loop-i.i c.loop-i.rest.now _ true c.loop-i-test.false (sym c.if-is_blank.ensures)

pub returns-else-is_blank-clause-values : goal.returns-else-is_blank-clause-values
returns-else-is_blank-clause-values c =
    sym c.loop-i.invariant.goes
    ∙ values_end c.args.limit c.args.types.now c.loop-i.i c.loop-i.rest.now _ false c.loop-i-test.false (sym c.if-is_blank.ensures)
