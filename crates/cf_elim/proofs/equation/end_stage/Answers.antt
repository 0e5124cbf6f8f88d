use Rattle.std.proofs.Common.{refl}
use Rattle.cf_linear.specs.Views.{system_of}
use Rattle.cf_elim.specs.Stages.{past_clean}
use Rattle.cf_elim.proofs.NextStageLaws.{end_out, end_counted, end_after, end_some}
use Rattle.cf_elim.proofs.equation.end_stage.Goals as goal

pub reduced_stage-requires-clause-found : goal.reduced_stage-requires-clause-found
reduced_stage-requires-clause-found c = rw c.requires.one refl

pub reduced_stage-requires-clause-holds : goal.reduced_stage-requires-clause-holds
reduced_stage-requires-clause-holds c = end_some (system_of c.args.system) c.args.u c.requires.one

pub reduced_stage-requires-clause-within_counts : goal.reduced_stage-requires-clause-within_counts
reduced_stage-requires-clause-within_counts c = end_counted (system_of c.args.system) c.args.u c.requires.one c.in-Ok.ensures

pub reduced_stage-requires-clause-after : goal.reduced_stage-requires-clause-after
reduced_stage-requires-clause-after c = end_after (system_of c.args.system) c.args.u c.requires.one

pub returns-in-Err : goal.returns-in-Err
returns-in-Err c = end_out (past_clean (system_of c.args.system) c.args.tuples) c.args.u c.in-Err.fault c.requires.one c.in-Err.ensures
