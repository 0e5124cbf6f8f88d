use Rattle.cf_linear.specs.Views.{system_of}
use Rattle.cf_elim.specs.Stages.{before_clean}
use Rattle.cf_elim.proofs.ActLaws.{on_ok}
use Rattle.cf_elim.proofs.NextStageLaws.{clean_out, clean_staged}
use Rattle.cf_elim.proofs.clean.clean_stage.Goals as goal

pub returns-in-Err-clause-stage : goal.returns-in-Err-clause-stage
returns-in-Err-clause-stage c = clean_out (before_clean (system_of c.args.system) c.args.tuples) c.in-Err.fault c.in-Err.ensures

pub returns-in-Ok-clean-clause-acts : goal.returns-in-Ok-clean-clause-acts
returns-in-Ok-clean-clause-acts c = on_ok c.cleaned_stage.result c.in-Ok-put.ensures

pub returns-in-Ok-clean-clause-stage : goal.returns-in-Ok-clean-clause-stage
returns-in-Ok-clean-clause-stage c =
    let o = c.in-Ok-clean in
    clean_staged (before_clean (system_of c.args.system) c.args.tuples) o.cleaned c.cleaned_stage.result c.requires c.in-Ok.ensures o.ensures.next
    o.ensures.owes o.ensures.formed c.cleaned_stage.ensures
