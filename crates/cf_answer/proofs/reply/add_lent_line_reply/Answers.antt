use Rattle.std.proofs.Common.{arith}
use Rattle.cf_answer.specs.Steps.{replier_of}
use Rattle.cf_answer.proofs.ReplyLemmas.{long_line_reply, short_line_reply}
use Rattle.cf_answer.proofs.reply.add_lent_line_reply.Goals as goal

pub returns-then-line-longest_line : goal.returns-then-line-longest_line
returns-then-line-longest_line c =
    long_line_reply (replier_of c.args.replier.now) c.args.line.now c.add_too_long.result c.args.text.now.items c.add_too_long.new.text.items
    (omega (arith, c.longest_line.ensures.is, c.if-line-longest_line.true)) c.add_too_long.ensures

pub returns-else-line-longest_line : goal.returns-else-line-longest_line
returns-else-line-longest_line c =
    short_line_reply (replier_of c.args.replier.now) c.args.line.now c.add_text_reply.result c.args.text.now.items c.add_text_reply.new.text.items
    (omega (arith, c.longest_line.ensures.is, c.if-line-longest_line.false)) c.add_text_reply.ensures
