use Rattle.cf_lines.proofs.OpenLemmas.{exec_replies}
use Rattle.cf_lines.proofs.opening.exec_replier.Goals as goal

pub returns-in-Ok : goal.returns-in-Ok
returns-in-Ok c =
    λ file given last. exec_replies c.args.form file c.args.text.now given last c.in-Ok.target c.target_replier.result
    (λ ls replies h. (c.in-Ok.target, c.in-Ok.ensures, h)) c.target_replier.ensures

pub returns-in-Err : goal.returns-in-Err
returns-in-Err c = λ file given last. c.in-Err.ensures
