use Rattle.std.proofs.Common.{◌∙◌}
use Rattle.cf_linear.proofs.MapLemmas.{back}
use Rattle.cf_cert.proofs.CountLaws.{same_signed}
use Rattle.cf_cert.proofs.counting.is_same.Goals as goal

pub returns : goal.returns
returns c =
    let g = back c.args.g c.requires.g_in in
    let h = back c.args.h c.requires.h_in in
    let first = rw (g, h) at c.agrees.ensures.value in
    let second = rw (g, h) at c.agrees-2.ensures.value in
    c.both.ensures ∙ rw (first, second)
    (same_signed c.args.g c.args.h c.args.first.now c.args.second.now c.requires.g_positive c.requires.h_positive c.agrees.ensures.row
    c.agrees-2.ensures.row)
