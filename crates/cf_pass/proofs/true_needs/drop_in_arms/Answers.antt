use Rattle.std.proofs.Common.{rules, arith, ◌≡◌, ◌<◌, ◌+◌, ◌∙◌, length, suc, ap, subst}
use Rattle.cf_tree.specs.CodeView.{arm_trees}
use Rattle.cf_tree.specs.RelSize.{capped}
use Rattle.cf_pass.proofs.NeedsArms.{arms_to, needs_to, arms_on, needs_on, arms_all, needs_all}
use Rattle.cf_pass.proofs.LoopSteps.{all_taken}
use Rattle.cf_pass.proofs.true_needs.drop_in_arms.Goals as goal

pub loop-arm-preserved : goal.loop-arm-preserved
loop-arm-preserved c =
    let inside : c.loop-arm.arm-index < length c.loop-arm.arm-items = omega (arith, c.loop-arm-test.true) in
    let next : suc c.loop-arm.arm-index ≡ c.loop-arm.arm-index + 1 = omega arith in
    let a = arms_on _ c.loop-arm.arm-items c.loop-arm.arm-index c.arm-item.result c.drop_in_arm.new.arm c.loop-arm.invariant.arms inside
    c.drop_in_arm.ensures.arm in
    let n = needs_on _ c.loop-arm.arm-items c.loop-arm.arm-index c.arm-item.result c.loop-arm.invariant.arms inside in
    let s : c.saturating_add-removed.result ≡ capped (c.loop-arm.removed + c.drop_in_arm.result) = search rules in
    let r : c.saturating_add-removed.result ≡ capped (needs_to (suc c.loop-arm.arm-index) (arm_trees c.args.arms.now.items)) =
    omega (arith, n, s, c.loop-arm.invariant.removed, c.drop_in_arm.ensures.removed) in
    record {
      arms = a ∙ ap (λ k. arms_to k (arm_trees c.args.arms.now.items)) next;
      removed = r ∙ ap (λ k. capped (needs_to k (arm_trees c.args.arms.now.items))) next;
    }

pub returns-clause-arms : goal.returns-clause-arms
returns-clause-arms c =
    let at_end : c.loop-arm.arm-index ≡ length c.loop-arm.arm-items = omega (arith, c.loop-arm-test.false, c.loop-arm.auto.arm-index-end) in
    let as_long : length c.loop-arm.arm-items ≡ length c.args.arms.now.items = search rules in
    let whole = all_taken c.loop-arm.arm-items c.args.arms.now.items as_long in
    let all = arms_all _ c.loop-arm.arm-items
    (subst (λ i. arm_trees c.loop-arm.arm-items ≡ arms_to i (arm_trees c.args.arms.now.items)) at_end c.loop-arm.invariant.arms) in
    search (rules, whole, all)

pub returns-clause-removed : goal.returns-clause-removed
returns-clause-removed c =
    let at_end : c.loop-arm.arm-index ≡ length c.loop-arm.arm-items = omega (arith, c.loop-arm-test.false, c.loop-arm.auto.arm-index-end) in
    let all = needs_all _ c.loop-arm.arm-items
    (subst (λ i. arm_trees c.loop-arm.arm-items ≡ arms_to i (arm_trees c.args.arms.now.items)) at_end c.loop-arm.invariant.arms) in
    c.loop-arm.invariant.removed ∙ ap (λ i. capped (needs_to i (arm_trees c.args.arms.now.items))) at_end ∙ ap capped all
