use Rattle.cf_linear.specs.Views.{system_of}
use Rattle.cf_elim.specs.Stages.{past_clean}
use Rattle.cf_elim.proofs.NextStageLaws.{merge_out, merge_counted, merge_after, merge_holds}
use Rattle.cf_elim.proofs.equation.merge_stage.Goals as goal

pub reduced_stage-requires-clause-holds : goal.reduced_stage-requires-clause-holds
reduced_stage-requires-clause-holds c = merge_holds (system_of c.args.system) c.requires.several

pub reduced_stage-requires-clause-within_counts : goal.reduced_stage-requires-clause-within_counts
reduced_stage-requires-clause-within_counts c = merge_counted (system_of c.args.system) c.requires.several c.in-Ok.ensures

pub reduced_stage-requires-clause-after : goal.reduced_stage-requires-clause-after
reduced_stage-requires-clause-after c = merge_after (system_of c.args.system) c.requires.several

pub returns-in-Err : goal.returns-in-Err
returns-in-Err c = merge_out (past_clean (system_of c.args.system) c.args.tuples) c.in-Err.fault c.requires.several c.in-Err.ensures
