use Rattle.cf_linear.proofs.MapLemmas.{back}
use Rattle.cf_equation.proofs.merge.new_rows.Goals as goal

pub returns : goal.returns
returns c =
    let f = c.args.f in
    let w = c.requires.within in
    (rw (back f.s w.s, back f.m w.m) at c.in_ok-first.ensures, rw (back f.t w.t, back f.n w.n) at c.in_ok-second.ensures)
