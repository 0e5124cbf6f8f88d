use Rattle.cf_lines.proofs.OpenLemmas.{run_replies}
use Rattle.cf_lines.proofs.opening.run_replier.Goals as goal

pub returns-in-Ok : goal.returns-in-Ok
returns-in-Ok g c = λ file. run_replies c.args.flags c.args.form file c.args.text.now _ _ c.in-Ok.runner c.in-Ok.ensures.verdict

pub returns-in-Err : goal.returns-in-Err
returns-in-Err g c = λ file. c.in-Err.ensures.verdict
