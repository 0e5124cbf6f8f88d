use Rattle.std.proofs.Common.{rules}
use Rattle.cf_answer.specs.Owed.{IsReplyBy}
use Rattle.cf_answer.specs.Steps.{replier_of}
use Rattle.cf_answer.proofs.ReplyLemmas.{keyed_line}
use Rattle.cf_answer.proofs.reply.add_behind_key.Goals as goal

pub returns : goal.returns
returns c =
    let who = replier_of c.args.replier.now in
    keyed_line who.form.wording (IsReplyBy who.form.wording who.by) c.args.line.now c.args.size c.add_own_reply.result c.args.text.now.items
    c.extend_from_slice.new.self.items c.add_own_reply.new.text.items c.requires.counted c.requires.tab (search rules)
    (rw c.behind_key.ensures at c.add_own_reply.ensures)
