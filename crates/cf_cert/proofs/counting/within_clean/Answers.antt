use Rattle.cf_linear.specs.Steps.{clean}
use Rattle.cf_linear.specs.Views.{system_of}
use Rattle.cf_cert.proofs.CountLaws.{rows_within, rows_out}
use Rattle.cf_cert.proofs.counting.within_clean.Goals as goal

pub returns-in-Ok : goal.returns-in-Ok
returns-in-Ok c = rows_within (clean (system_of c.args.system.now)).system c.within_columns.result c.in-Ok.ensures c.within_columns.ensures

pub returns-in-Err : goal.returns-in-Err
returns-in-Err c = rows_out (clean (system_of c.args.system.now)).system c.in-Err.fault c.in-Err.ensures
