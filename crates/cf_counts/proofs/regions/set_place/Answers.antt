use Rattle.std.proofs.Common.{◌<◌, ◌≤◌, length, arith, sym, ◌∙◌}
use Rattle.cf_linear.specs.Layout.{place}
use Rattle.cf_linear.proofs.ColumnLemmas.{place-append, place-append_after}
use Rattle.cf_counts.proofs.regions.set_place.Goals as goal

pub returns-then-at-len-clause-value : goal.returns-then-at-len-clause-value
returns-then-at-len-clause-value c =
    let e = rw c.deref.ensures.value at c.place-at.ensures.value in
    let h : place c.args.x c.args.layout.now.inputs.items < length c.args.layout.now.inputs.items = omega (arith, e, c.len.ensures, c.if-at-len.true) in
    e ∙ sym (place-append c.args.x c.args.layout.now.inputs.items c.args.layout.now.out_sets.items h)

pub returns-else-at-len-clause-value : goal.returns-else-at-len-clause-value
returns-else-at-len-clause-value c =
    let e = rw c.deref.ensures.value at c.place-at.ensures.value in
    let f = rw c.deref-else-at-len.ensures.value at c.place.ensures.value in
    let h : length c.args.layout.now.inputs.items ≤ place c.args.x c.args.layout.now.inputs.items = omega (arith, e, c.len.ensures, c.if-at-len.false) in
    rw (e, f) (sym (place-append_after c.args.x c.args.layout.now.inputs.items c.args.layout.now.out_sets.items h))
