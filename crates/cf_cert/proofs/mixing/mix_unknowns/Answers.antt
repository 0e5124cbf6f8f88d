use Rattle.std.proofs.Common.{sym, ◌∙◌, ap, subst}
use Rattle.cf_linear.specs.Steps.{is_unit}
use Rattle.cf_linear.proofs.MapLemmas.{back}
use Rattle.cf_linear.specs.Views.{system_of}
use Rattle.cf_cert.specs.Stepping.{ApplyIs}
use Rattle.cf_cert.proofs.StepLaws.{mix_unknown, mix_past, mix_factor, mix_on}
use Rattle.cf_cert.proofs.mixing.mix_unknowns.Goals as goal

pub returns-then-are_not_two : goal.returns-then-are_not_two
returns-then-are_not_two c =
    let f = c.args.factors in
    mix_unknown (system_of c.args.system) c.args.x c.args.y f.s f.m f.t f.n (sym (rw c.deref.ensures.value at c.are_not_two.ensures) ∙ c.if-are_not_two.true)

pub returns-in-None : goal.returns-in-None
returns-in-None c =
    let f = c.args.factors in
    mix_past (system_of c.args.system) c.args.x c.args.y f.s f.m f.t f.n (sym (rw c.deref.ensures.value at c.are_not_two.ensures) ∙ c.if-are_not_two.false)
    c.in-None.ensures

pub returns-then-not-is_unit : goal.returns-then-not-is_unit
returns-then-not-is_unit c =
    let f = c.args.factors in
    let d = c.in-Some.ensures in
    mix_factor (system_of c.args.system) c.args.x c.args.y f.s f.m f.t f.n (sym (rw c.deref.ensures.value at c.are_not_two.ensures) ∙ c.if-are_not_two.false)
    d.0
    (sym ((rw (back c.in-Some.determinant d.2) at c.is_unit.ensures) ∙ ap (λ k. is_unit k) d.1) ∙ c.if-not-is_unit.true)

pub returns : goal.returns
returns c =
    let f = c.args.factors in
    let d = c.in-Some.ensures in
    subst (λ a. ApplyIs a c.mixed.result)
    (sym (mix_on (system_of c.args.system) c.args.x c.args.y f.s f.m f.t f.n (sym (rw c.deref.ensures.value at c.are_not_two.ensures) ∙ c.if-are_not_two.false)
    d.0
    (sym ((rw (back c.in-Some.determinant d.2) at c.is_unit.ensures) ∙ ap (λ k. is_unit k) d.1) ∙ c.if-not-is_unit.false))) c.mixed.ensures
