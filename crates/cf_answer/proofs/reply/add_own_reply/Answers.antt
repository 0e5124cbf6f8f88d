use Rattle.cf_late.specs.Outcomes.{late_of}
use Rattle.cf_answer.specs.Steps.{replier_of}
use Rattle.cf_answer.proofs.ReplyLemmas.{told_reply, bad_reply}
use Rattle.cf_answer.proofs.reply.add_own_reply.Goals as goal

pub returns-in-Ok : goal.returns-in-Ok
returns-in-Ok c =
    let who = replier_of c.args.replier.now in
    told_reply who.form.wording who.by c.args.line.now (late_of c.in-Ok.outcome) c.add_answer.result c.args.text.now.items c.add_answer.new.text.items
    c.in-Ok.ensures c.add_answer.ensures

pub returns-in-Err-BadInput : goal.returns-in-Err-BadInput
returns-in-Err-BadInput c =
    let who = replier_of c.args.replier.now in
    bad_reply who.form.wording who.by c.args.line.now c.add_line_fault.result c.args.text.now.items c.add_line_fault.new.text.items
    (rw c.in-Err-BadInput.field-0-is at c.in-Err-BadInput.ensures) c.add_line_fault.ensures
