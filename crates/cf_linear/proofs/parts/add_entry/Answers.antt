use Rattle.std.proofs.Common.{ap, ◌++◌, ◌∙◌}
use Rattle.cf_linear.proofs.MapLemmas.{back}
use Rattle.cf_linear.proofs.PartLemmas.{entry_put}
use Rattle.cf_linear.proofs.parts.add_entry.Goals as goal

pub returns-in_ok-append : goal.returns-in_ok-append
returns-in_ok-append c =
    let e = rw (back c.at-column.result.1 c.at-column.ensures.fits, ap (λ x. x.0) c.at-column.ensures.value, ap (λ x. x.1) c.at-column.ensures.value) at
    c.in_ok-append.ensures.value in
    rw c.if-wanted.true (e ∙ ap (λ y. c.args.out.now ++ y) (entry_put c.args.row.now 0 c.args.i c.at-column.ensures.is_row.0 c.requires.place))
