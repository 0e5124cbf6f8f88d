use Rattle.cf_linear.proofs.MapLemmas.{back}
use Rattle.cf_linear.proofs.BoolLemmas.{two_is}
use Rattle.cf_linear.proofs.row.two_products.Goals as goal

pub returns-clause-value : goal.returns-clause-value
returns-clause-value c =
    two_is c.args.a c.args.k c.args.b c.args.m c.in_ok-mul.field-0 c.in_ok-mul-2.field-0 c.add.result
    (rw (back c.args.a c.requires.a_in, back c.args.k c.requires.k_in) at c.in_ok-mul.ensures.value)
    (rw (back c.args.b c.requires.b_in, back c.args.m c.requires.m_in) at c.in_ok-mul-2.ensures.value)
    (rw (back c.in_ok-mul.field-0 c.in_ok-mul.ensures.fits, back c.in_ok-mul-2.field-0 c.in_ok-mul-2.ensures.fits) at c.add.ensures.value)
