use Rattle.cf_linear.proofs.MapLemmas.{back}
use Rattle.cf_linear.proofs.PassingLemmas.{gives_row}
use Rattle.cf_linear.proofs.row.Row.sum.Goals as goal

pub returns-clause-gives : goal.returns-clause-gives
returns-clause-gives c =
    let p = c.combine.ensures.rows in
    let v = rw (back c.args.a c.requires.a_in, back c.args.b c.requires.b_in) at c.combine.ensures.value in
    let f = rw (back c.args.a c.requires.a_in, back c.args.b c.requires.b_in) at c.combine.ensures.fits in
    let x = rw (back c.args.a c.requires.a_in, back c.args.b c.requires.b_in) at c.combine.ensures.past in
    gives_row c.args.a c.args.self.now c.args.b c.args.other.now c.combine.result p.0 p.1 (c.requires.only p.0 p.1) v f x
