use Rattle.std.proofs.Common.{arith, rules, ◌≡◌, get_or, subst}
use Rattle.cf_answer.specs.Steps.{replier_of, IsLineReply}
use Rattle.cf_answer.proofs.ReplyLemmas.{replies_step}
use Rattle.cf_answer.proofs.reply.owned_replies.Goals as goal

pub loop-line-preserved : goal.loop-line-preserved
loop-line-preserved c =
    let e = c.in_ok-add_reply.ensures in
    let item : c.line-item.result ≡ get_or c.args.lines.now c.loop-line.line-index c.line-item.result = search rules in record {
      replied = replies_step (replier_of c.args.replier.now) c.args.lines.now c.loop-line.line-index c.line-item.result _ _ e.0 (omega arith)
          c.loop-line.invariant.replied (subst (λ v. IsLineReply (replier_of c.args.replier.now) v e.0) item e.2) e.1;
    }
