use Rattle.std.proofs.Common.{rules, ◌-◌, ◌+◌, length, arith}
use Rattle.std.proofs.lemmas.Result.{err_from_is_err_and}
use Rattle.cf_parse.specs.Programs.{all_items}
use Rattle.cf_parse.proofs.Defs.{items_fail, items_next, not_empty}
use Rattle.cf_parse.proofs.source.more_items.Goals as goal

pub returns-in_err-x : goal.returns-in_err-x
unfolding all_items
returns-in_err-x c =
    let p = err_from_is_err_and c.from_residual.result c.from_residual.ensures.1 in
    rw (p.1, p.2, ← c.loop.invariant) (items_fail c.args.edition c.args.limit _ _ _ _ c.in_err-x.ensures (omega arith)
    (not_empty c.loop.rest.now _ c.is_empty.ensures c.if-is_empty.false))

pub loop-preserved : goal.loop-preserved
loop-preserved c =
    items_next c.args.edition c.args.limit (length c.args.tokens.now - c.loop.counter) (length c.args.tokens.now - (c.loop.counter + 1)) c.loop.done.items
    c.push.new.self.items c.in_ok-x.x c.loop.rest.now c.in_ok-x.behind.now _
    c.in_ok-x.ensures (omega arith) (not_empty c.loop.rest.now _ c.is_empty.ensures c.if-is_empty.false) (search rules) c.loop.invariant
