use Rattle.std.proofs.Common.{◌≤◌, ◌⊎◌, length, arith, inl, inr}
use Rattle.cf_set.proofs.Merging.{pushed_first, pushed_second, pushed_both, merge_done}
use Rattle.cf_set.proofs.lists.union.Goals.{then-loop-i-test+else-j-b, else-loop-i-test}
use Rattle.cf_set.proofs.lists.union.Goals as goal

pub loop-i-preserved-then-a-i : goal.loop-i-preserved-then-a-i
loop-i-preserved-then-a-i c = pushed_first _ _ _ _ _ _ c.requires.a_within c.requires.b_within c.loop-i.invariant c.loop-i-test.true c.if-j-b.true c.if-a-i.true
    c.in_ok-push.ensures.items

pub loop-i-preserved-then-b-j : goal.loop-i-preserved-then-b-j
loop-i-preserved-then-b-j c = pushed_second _ _ _ _ _ _ c.requires.a_within c.requires.b_within c.loop-i.invariant c.loop-i-test.true c.if-j-b.true
    c.if-b-j.true c.in_ok-push-2.ensures.items

pub loop-i-preserved : goal.loop-i-preserved
loop-i-preserved c = pushed_both _ _ _ _ _ _ c.requires.a_within c.requires.b_within c.loop-i.invariant c.loop-i-test.true c.if-j-b.true c.if-a-i.false
    c.if-b-j.false c.in_ok-push-3.ensures.items

pub returns : goal.returns
returns c =
    merge_done _ _ _ _ _ _ _ c.loop-i.invariant
    (elim c.loop-i-test.branch as (λ _. (length c.args.a.now ≤ c.loop-i.i) ⊎ (length c.args.b.now ≤ c.loop-i.j)) [
      | then-loop-i-test+else-j-b w ↦ inr (omega arith)
      | else-loop-i-test w ↦ inl (omega arith)
    ])
    c.in_ok-extend_from_slice.ensures.items c.in_ok-extend_from_slice-2.ensures.items
