use Rattle.std.proofs.Common.{◌<◌, length, arith, ap, sym, ◌∙◌}
use Rattle.cf_linear.proofs.MapLemmas.{back}
use Rattle.cf_linear.proofs.PartLemmas.{divided_more}
use Rattle.cf_linear.proofs.parts.divided.Goals as goal

pub loop-i-preserved : goal.loop-i-preserved
loop-i-preserved c =
    let h : c.loop-i.i < length c.args.row.now = omega (arith, c.len-i-end.ensures.len) in
    let g = back c.args.g c.requires.g_in in
    let q = back c.fdiv.result c.fdiv.ensures.fits in
    let k = back c.at-column.result.1 c.at-column.ensures.fits in
    let e = rw (c.loop-i.invariant, q, c.fdiv.ensures.value, k, ap (λ x. x.0) c.at-column.ensures.value, ap (λ x. x.1) c.at-column.ensures.value, g) at
    c.in_ok-append.ensures.value in
    rw g (e ∙ sym (divided_more c.args.g c.args.row.now c.loop-i.i c.requires.positive h))
