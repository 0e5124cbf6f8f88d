use Rattle.std.proofs.Common.{◌≡◌, subst, sym}
use Rattle.std.specs.Prelude.{IfOk}
use Rattle.cf_linear.specs.Views.{system_of}
use Rattle.cf_equation.specs.Equations.{reduced}
use Rattle.cf_equation.proofs.MergeValues.{mix_is}
use Rattle.cf_equation.proofs.merge.mix.Goals as goal

pub returns-in-Ok-clause-value : goal.returns-in-Ok-clause-value
returns-in-Ok-clause-value c =
    let f = c.args.f in
    let e = c.in-Ok.ensures in
    subst (λ z. IfOk c.mixed_by.result (λ r. reduced r ≡ z))
    (sym (mix_is (system_of c.args.system) c.args.x c.in-Ok.rows.first c.args.y c.in-Ok.rows.second f.s f.m f.t f.n e.0 e.1)) c.mixed_by.ensures.value

pub returns-in-Ok-clause-fits : goal.returns-in-Ok-clause-fits
returns-in-Ok-clause-fits c = rw (c.in-Ok.ensures.0, c.in-Ok.ensures.1) at c.mixed_by.ensures.fits

pub returns-in-Ok-clause-past : goal.returns-in-Ok-clause-past
returns-in-Ok-clause-past c q = rw (c.in-Ok.ensures.0, c.in-Ok.ensures.1) at (c.mixed_by.ensures.past q)
