use Rattle.std.proofs.Common.{ap, ◌<◌, sym, ◌∙◌, length, arith}
use Rattle.cf_linear.proofs.MapLemmas.{back}
use Rattle.cf_linear.proofs.Joining.{AreBelow-take, take_put}
use Rattle.cf_linear.proofs.row.Row.try_copy.Goals as goal

pub append-requires-clause-after : goal.append-requires-clause-after
append-requires-clause-after c =
    let h : c.loop-i.i < length c.args.self.now = omega (arith, c.len-i-end.ensures.len) in
    rw (ap (λ x. x.0) c.at-column.ensures.value, c.loop-i.invariant) (AreBelow-take c.args.self.now 0 c.loop-i.i c.len-i-end.ensures.is_row.0 h)

pub loop-i-preserved : goal.loop-i-preserved
loop-i-preserved c =
    let h : c.loop-i.i < length c.args.self.now = omega (arith, c.len-i-end.ensures.len) in
    let e = rw (
      back c.at-column.result.1 c.at-column.ensures.fits,
      c.loop-i.invariant,
      ap (λ x. x.0) c.at-column.ensures.value,
      ap (λ x. x.1) c.at-column.ensures.value,
    ) at c.in_ok-append.ensures.value in
    e ∙ sym (take_put c.args.self.now 0 c.loop-i.i c.len-i-end.ensures.is_row.0 h)
