use Rattle.cf_answer.proofs.NameLemmas.{heads_next}
use Rattle.cf_answer.proofs.branches.head.Goals as goal

pub loop-truth-preserved : goal.loop-truth-preserved
loop-truth-preserved c =
    heads_next _ c.args.branch.now c.loop-truth.truth-index _ c.in_ok-named_truth.field-0 c.loop-truth.truths.items c.push.new.self.items
    c.loop-truth-test.true c.in_ok-push.ensures.items c.in_ok-named_truth.ensures c.loop-truth.invariant
