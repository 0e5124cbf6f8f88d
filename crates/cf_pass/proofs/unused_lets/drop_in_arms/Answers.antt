use Rattle.std.proofs.Common.{rules, arith, ◌≡◌, ◌<◌, ◌+◌, ◌++◌, OnOk, length, take, drop, suc, sym, subst}
use Rattle.std.proofs.Math.ListN.{set}
use Rattle.cf_tree.specs.CodeView.{arm_trees}
use Rattle.cf_pass.specs.Lets.{arms_dropped}
use Rattle.cf_pass.proofs.LetArms.{SoFar, arm_next, arms_end}
use Rattle.cf_pass.proofs.LoopSteps.{all_taken}
use Rattle.cf_pass.proofs.unused_lets.drop_in_arms.Goals as goal

pub loop-arm-preserved : goal.loop-arm-preserved
loop-arm-preserved c =
    let inside : c.loop-arm.arm-index < length c.loop-arm.arm-items = omega (arith, c.loop-arm-test.true) in
    let next : suc c.loop-arm.arm-index ≡ c.loop-arm.arm-index + 1 = omega arith in
    let more = arm_next c.args.outside (arm_trees c.args.arms.now.items) c.loop-arm.arm-items c.loop-arm.arm-index c.arm-item.result
    c.drop_in_next-removed.new.arm
    c.loop-arm.removed c.drop_in_next-removed.result inside c.loop-arm.invariant c.drop_in_next-removed.ensures.before c.drop_in_next-removed.ensures.arm
    c.drop_in_next-removed.ensures.same
    c.drop_in_next-removed.ensures.removed in
    subst (λ i. SoFar c.args.outside (arm_trees c.args.arms.now.items) (set c.loop-arm.arm-items c.loop-arm.arm-index c.drop_in_next-removed.new.arm) i
    c.drop_in_next-removed.result) next more

pub returns-clause-arms : goal.returns-clause-arms
returns-clause-arms c =
    let at_end : c.loop-arm.arm-index ≡ length c.loop-arm.arm-items = omega (arith, c.loop-arm-test.false, c.loop-arm.auto.arm-index-end) in
    let as_long : length c.loop-arm.arm-items ≡ length c.args.arms.now.items = search rules in
    let taken = all_taken c.loop-arm.arm-items c.args.arms.now.items as_long in
    let whole : take c.args.arms.now.len (c.loop-arm.arm-items ++ drop (length c.loop-arm.arm-items) c.args.arms.now.items) ≡ c.loop-arm.arm-items = search
    (rules, taken) in
    subst (λ xs. OnOk c.loop-arm.removed (arm_trees xs ≡ arms_dropped c.args.outside (arm_trees c.args.arms.now.items))) (sym whole)
    (arms_end c.args.outside (arm_trees c.args.arms.now.items) c.loop-arm.arm-items c.loop-arm.arm-index c.loop-arm.removed at_end c.loop-arm.invariant).0

pub returns-clause-removed : goal.returns-clause-removed
returns-clause-removed c =
    let at_end : c.loop-arm.arm-index ≡ length c.loop-arm.arm-items = omega (arith, c.loop-arm-test.false, c.loop-arm.auto.arm-index-end) in
    (arms_end c.args.outside (arm_trees c.args.arms.now.items) c.loop-arm.arm-items c.loop-arm.arm-index c.loop-arm.removed at_end c.loop-arm.invariant).1
