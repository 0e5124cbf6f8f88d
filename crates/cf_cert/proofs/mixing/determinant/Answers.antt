use Rattle.std.proofs.Common.{◌≡◌, ◌∙◌, None, rules, subst, sym}
use Rattle.cf_linear.proofs.MapLemmas.{back}
use Rattle.cf_cert.specs.Stepping.{DeterminantIs}
use Rattle.cf_cert.proofs.StepLaws.{determinant_is, first_past, second_past}
use Rattle.cf_cert.proofs.mixing.determinant.Goals as goal

pub returns-in_err-down : goal.returns-in_err-down
returns-in_err-down c =
    let f = c.args.factors in
    let w = c.requires in
    let none : c.mul.result ≡ None = search rules in
    let given_up : c.from_residual.result ≡ None = search rules in
    let past = rw (back f.s w.s, back f.n w.n) at c.mul.ensures.value in
    subst (DeterminantIs f.s f.m f.t f.n) (sym given_up) (first_past f.s f.m f.t f.n (sym none ∙ past))

pub returns-in_err-up : goal.returns-in_err-up
returns-in_err-up c =
    let f = c.args.factors in
    let w = c.requires in
    let none : c.mul-2.result ≡ None = search rules in
    let given_up : c.from_residual-in_err-up.result ≡ None = search rules in
    let past = rw (back f.m w.m, back f.t w.t) at c.mul-2.ensures.value in
    subst (DeterminantIs f.s f.m f.t f.n) (sym given_up) (second_past f.s f.m f.t f.n (sym none ∙ past))

pub returns : goal.returns
returns c =
    let f = c.args.factors in
    let w = c.requires in
    let p = rw (back f.s w.s, back f.n w.n) at c.in_ok-down.ensures.value in
    let q = rw (back f.m w.m, back f.t w.t) at c.in_ok-up.ensures.value in
    let d = rw (back c.in_ok-down.down c.in_ok-down.ensures.fits, back c.in_ok-up.up c.in_ok-up.ensures.fits) at c.sub.ensures.value in
    determinant_is f.s f.m f.t f.n c.in_ok-down.down c.in_ok-up.up c.sub.result p q d c.sub.ensures.fits
