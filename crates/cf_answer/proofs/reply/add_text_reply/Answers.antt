use Rattle.cf_answer.specs.Steps.{replier_of}
use Rattle.cf_answer.proofs.ReplyLemmas.{with_key, without_key}
use Rattle.cf_answer.proofs.reply.add_text_reply.Goals as goal

pub returns-then-key : goal.returns-then-key
returns-then-key c =
    with_key (replier_of c.args.replier.now) c.args.line.now c.add_keyed_reply.result c.args.text.now.items c.add_keyed_reply.new.text.items c.if-key.true
    c.add_keyed_reply.ensures

pub returns-else-key : goal.returns-else-key
returns-else-key c =
    without_key (replier_of c.args.replier.now) c.args.line.now c.add_own_reply.result c.args.text.now.items c.add_own_reply.new.text.items c.if-key.false
    c.add_own_reply.ensures
