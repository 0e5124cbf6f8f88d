use Rattle.cf_cases.proofs.PartLaws.{next_sign}
use Rattle.cf_cases.proofs.signs.signs_at.Goals as goal

pub loop-left-preserved : goal.loop-left-preserved
loop-left-preserved c = record {
  small = c.first_sign-minus.ensures.small;
  same = next_sign _ _ _ c.loop-left.left c.loop-left.rest _ c.first_sign-minus.result.0 c.loop-left-test.true c.loop-left.invariant.same
      c.first_sign-minus.ensures.signs c.in_ok-push.ensures.items;
}
