use Rattle.std.proofs.Common.{refl}
use Rattle.cf_answer.specs.Steps.{replier_of}
use Rattle.cf_answer.proofs.ReplyLemmas.{lent_step, lent_end}
use Rattle.cf_answer.proofs.reply.add_lent_replies.Goals as goal

pub lines-init : goal.lines-init
lines-init c = λ before told. record { done = before; replied = told; whole = refl }

pub lines-preserved : goal.lines-preserved
lines-preserved c = λ before told.
    let added = c.in_ok-add_lent_reply.ensures in
    lent_step (replier_of c.args.replier.now) _ c.lines.rest.now c.in-Some.line.now c.in-Some.more.now c.lines.text.items _ _ (c.lines.invariant before told)
    c.in-Some.ensures.lines added.1 added.2

pub returns : goal.returns
returns c = λ before told. lent_end (replier_of c.args.replier.now) _ c.lines.rest.now c.lines.text.items (c.lines.invariant before told)
    c.in_default.ensures.lines
