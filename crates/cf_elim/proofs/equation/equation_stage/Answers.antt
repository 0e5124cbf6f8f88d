use Rattle.std.proofs.Common.{◌∙◌, sym, subst, refl, arith}
use Rattle.cf_linear.specs.Views.{system_of}
use Rattle.cf_equation.specs.Equations.{first_present}
use Rattle.cf_equation.proofs.PresentLemmas.{none_from, one_from, several_from}
use Rattle.cf_elim.specs.Stages.{past_clean, StageIs}
use Rattle.cf_elim.proofs.ActLaws.{on_ok}
use Rattle.cf_elim.proofs.NextStageLaws.{nothing_goes, row_stage_is}
use Rattle.cf_elim.proofs.equation.equation_stage.Goals as goal

pub returns-in-Nothing-clause-stage : goal.returns-in-Nothing-clause-stage
returns-in-Nothing-clause-stage c =
    let s = past_clean (system_of c.args.system) c.args.tuples in
    let m = c.none.ensures in
    nothing_goes s _ _ c.requires.ready c.requires.some (none_from (first_present (system_of c.args.system)) (sym c.in-Nothing.is ∙ c.first_unknowns-found.ensures))
    (rw (m.bounds, m.steps, m.back) refl) refl refl

pub end_stage-requires-clause-one : goal.end_stage-requires-clause-one
end_stage-requires-clause-one c = one_from (first_present (system_of c.args.system)) c.in-One.u (sym c.in-One.is ∙ c.first_unknowns-found.ensures)

pub returns-in-One-clause-acts : goal.returns-in-One-clause-acts
returns-in-One-clause-acts c = on_ok c.end_stage.result c.in-Ok.ensures

pub returns-in-One-clause-stage : goal.returns-in-One-clause-stage
returns-in-One-clause-stage c =
    let s = past_clean (system_of c.args.system) c.args.tuples in
    subst (λ g. StageIs s g c.end_stage.result) (sym (row_stage_is s c.requires.some)) c.end_stage.ensures

pub merge_stage-requires-clause-several : goal.merge_stage-requires-clause-several
merge_stage-requires-clause-several c =
    let s = several_from (first_present (system_of c.args.system)) c.in-Several.field-0 c.in-Several.field-1 (sym c.in-Several.is ∙ c.first_unknowns-found.ensures) in
    rw s.1 (omega arith)

pub returns-in-Several-clause-acts : goal.returns-in-Several-clause-acts
returns-in-Several-clause-acts c = on_ok c.merge_stage.result c.in-Ok.ensures

pub returns-in-Several-clause-stage : goal.returns-in-Several-clause-stage
returns-in-Several-clause-stage c =
    let s = past_clean (system_of c.args.system) c.args.tuples in
    subst (λ g. StageIs s g c.merge_stage.result) (sym (row_stage_is s c.requires.some)) c.merge_stage.ensures
