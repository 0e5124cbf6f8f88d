use Rattle.cf_linear.proofs.MapLemmas.{back}
use Rattle.cf_linear.proofs.BoolLemmas.{next_is}
use Rattle.cf_linear.proofs.row.next_sum.Goals as goal

pub returns-clause-value : goal.returns-clause-value
returns-clause-value c =
    next_is c.args.total c.args.k c.args.x c.in_ok-mul.field-0 c.add.result
    (rw (back c.args.k c.requires.k_in, back c.args.x c.requires.x_in) at c.in_ok-mul.ensures.value)
    (rw (back c.args.total c.requires.total_in, back c.in_ok-mul.field-0 c.in_ok-mul.ensures.fits) at c.add.ensures.value)
