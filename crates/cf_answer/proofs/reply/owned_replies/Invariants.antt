use Rattle.std.proofs.Common.{take}
use Rattle.cf_answer.specs.Steps.{replier_of, AreLineReplies}
use Rattle.cf_answer.proofs.reply.owned_replies.Given as goal

abbrev pub invariant-loop-line : goal.invariant-loop-line
invariant-loop-line l = record {
  replied : AreLineReplies (replier_of l.replier) (take l.line-index l.lines) l.text.items;
}
