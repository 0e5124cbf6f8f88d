use Rattle.std.proofs.Common.{◌≡◌, Err, refl, sym, subst}
use Rattle.cf_linear.specs.Stages.{limits}
use Rattle.cf_linear.specs.Views.{system_of}
use Rattle.cf_equation.specs.Equations.{first_of, rest_of, first_present}
use Rattle.cf_equation.proofs.PresentLemmas.{none_from, one_from, several_from}
use Rattle.cf_cert.specs.declared.verdict.Why.TheVariants.{Single}
use Rattle.cf_cert.specs.Applying.{last_of}
use Rattle.cf_cert.specs.Stepping.{ApplyIs}
use Rattle.cf_cert.proofs.ending.end_alone.Goals as goal

pub returns-in-Nothing : goal.returns-in-Nothing
returns-in-Nothing c =
    let m = system_of c.args.system in
    subst (λ us. last_of limits m (first_of m) (rest_of m) us ≡ Err Single) (sym (none_from (first_present m) c.in-Nothing.ensures)) refl

pub end_counted-requires-clause-one : goal.end_counted-requires-clause-one
end_counted-requires-clause-one c = one_from (first_present (system_of c.args.system)) c.in-One.u c.in-One.ensures

pub returns-in-One : goal.returns-in-One
returns-in-One c =
    let m = system_of c.args.system in
    subst (λ us. ApplyIs (last_of limits m (first_of m) (rest_of m) us) c.end_counted.result) (sym (one_from (first_present m) c.in-One.u c.in-One.ensures))
    c.end_counted.ensures

pub returns-in-Several : goal.returns-in-Several
returns-in-Several c =
    let m = system_of c.args.system in
    let s = several_from (first_present m) c.in-Several.field-0 c.in-Several.field-1 c.in-Several.ensures in
    subst (λ us. last_of limits m (first_of m) (rest_of m) us ≡ Err Single) (sym s.1) refl
