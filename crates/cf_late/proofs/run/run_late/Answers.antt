use Rattle.std.proofs.Common.{◌≡◌, map, refl, sym, ◌∙◌, subst}
use Rattle.std.proofs.lemmas.Result.{IfOk-weaker}
use Rattle.cf_tree.specs.DefView.{def_tree}
use Rattle.cf_eval.specs.Seen.{plains}
use Rattle.cf_match.specs.Laws.{bodies}
use Rattle.cf_late.specs.LateRun.{late_run}
use Rattle.cf_late.specs.ProgramLaw.{IsAllowedIn}
use Rattle.cf_late.proofs.AllowedLaws.{late_runs_are_allowed}
use Rattle.cf_late.proofs.run.run_late.Goals as goal

pub returns-clause-allowed : goal.returns-clause-allowed
returns-clause-allowed c =
    let defs = map def_tree c.args.late.now.defs.items in
    let main = c.args.late.now.main in
    let env = plains c.args.values.now in
    let same : late_run (bodies defs) c.main-main.result c.in_ok-env.env ≡ late_run (bodies defs) main env =
    rw (c.main-main.ensures.value, c.in_ok-env.ensures) refl in
    let allowed = late_runs_are_allowed defs main c.main-main.ensures.typed env c.requires.typed c.requires.fit in
    IfOk-weaker c.main_outcome.result _ _ (λ o e. subst (IsAllowedIn defs main env) (sym (e ∙ same)) allowed) c.main_outcome.ensures.comes
