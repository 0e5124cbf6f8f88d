use Rattle.std.proofs.Common.{map, sym, subst}
use Rattle.cf_tree.specs.DefView.{def_tree}
use Rattle.cf_program.specs.declared.linearity.Linearity.TheVariants.{Plain}
use Rattle.cf_program.specs.LateLinear.{IsLinearBy}
use Rattle.cf_program.specs.Typed.{typed_tree}
use Rattle.cf_program.specs.TypedProgram.{IsProgramBy}
use Rattle.cf_form.specs.FormAnswers.{IsFormOf}
use Rattle.cf_form.specs.Made.{IsMade}
use Rattle.cf_form.proofs.MadeLaws.{made_program, made_form}
use Rattle.cf_form.proofs.formed.form.Goals as goal

pub new-typed-requires : goal.new-typed-requires
new-typed-requires c =
    let s = c.args.source.now in
    let m = c.in-Ok.made in
    let made = subst (λ ds. IsMade (map def_tree ds) m) c.defs.ensures.value c.in-Ok.ensures in
    subst (λ k. IsProgramBy (IsLinearBy Plain) (map def_tree m.defs.items) k) (sym c.main-main.ensures.value)
    (made_program Plain (map def_tree s.defs.items) s.main c.defs.ensures.typed m made)

pub returns-in-Ok : goal.returns-in-Ok
returns-in-Ok c =
    let s = c.args.source.now in
    let m = c.in-Ok.made in
    let made = subst (λ ds. IsMade (map def_tree ds) m) c.defs.ensures.value c.in-Ok.ensures in (
      subst (λ t. IsFormOf Plain (typed_tree s) (typed_tree t)) (sym c.new-typed.ensures)
          (subst (λ k. IsFormOf Plain (typed_tree s) (record { defs = map def_tree m.defs.items; main = k })) (sym c.main-main.ensures.value)
          (made_form Plain (map def_tree s.defs.items) s.main c.defs.ensures.typed m made)),
      made.2.2,
    )
