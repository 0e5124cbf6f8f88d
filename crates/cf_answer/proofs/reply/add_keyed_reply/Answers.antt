use Rattle.std.proofs.Common.{arith}
use Rattle.cf_answer.specs.Owed.{IsReplyBy}
use Rattle.cf_answer.specs.Steps.{replier_of}
use Rattle.cf_answer.proofs.ReplyLemmas.{unkeyed_line}
use Rattle.cf_answer.proofs.reply.add_keyed_reply.Goals as goal

pub returns-else-size-line : goal.returns-else-size-line
returns-else-size-line c =
    let who = replier_of c.args.replier.now in
    unkeyed_line who.form.wording (IsReplyBy who.form.wording who.by) c.args.line.now c.key_size-size.result c.add_line_fault.result c.args.text.now.items
    c.add_line_fault.new.text.items c.key_size-size.ensures.count (omega (arith, c.key_size-size.ensures.size, c.if-size-line.false)) c.add_line_fault.ensures
