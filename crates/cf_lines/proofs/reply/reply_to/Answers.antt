use Rattle.cf_answer.specs.Steps.{replier_of}
use Rattle.cf_lines.proofs.ReplyLemmas.{one_reply}
use Rattle.cf_lines.proofs.reply.reply_to.Goals as goal

pub returns-in-Ok : goal.returns-in-Ok
returns-in-Ok c = one_reply (replier_of c.args.replier.now) c.args.line.now _ (rw c.new-text.ensures.items at c.in-Ok.ensures)
