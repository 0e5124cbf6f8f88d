use Rattle.std.proofs.Common.{rules, ◌≡◌, ◌∙◌, map, ap, take_all, arith}
use Rattle.cf_tree.specs.CodeTree.{codes_of, arms_of}
use Rattle.cf_tree.specs.CodeView.{arm_tree, code_tree, item_tree}
use Rattle.cf_range.specs.Settled.{ranges_behind, settled, item_settled, arm_settled}
use Rattle.cf_range.proofs.SettledLists.{codes_settled, settled_next, settled_end, arms_settled_each}
use Rattle.cf_range.proofs.settle.+settle.Goals as goal

pub settle_all-returns : goal.settle_all-returns
settle_all-returns t c =
    let rs = c.args.ranges.now in
    ap codes_of (c.loop-code.invariant
    ∙ ap (map (λ x. settled rs (code_tree x))) (take_all c.loop-code.code-index c.args.codes.now (omega (arith, c.loop-code-test.false))))
    ∙ codes_settled rs c.args.codes.now

pub settle_arms-returns : goal.settle_arms-returns
settle_arms-returns t c =
    let rs = c.args.ranges.now in
    ap arms_of (c.loop-arm.invariant
    ∙ ap (map (λ x. arm_settled rs (arm_tree x))) (take_all c.loop-arm.arm-index c.args.arms.now (omega (arith, c.loop-arm-test.false))))
    ∙ arms_settled_each rs c.args.arms.now

pub settle_items-loop-item-preserved : goal.settle_items-loop-item-preserved
settle_items-loop-item-preserved t c =
    let known = c.loop-item.known.items in
    let x = c.item-item.result in
    let new : item_tree c.in_ok-settle_item.field-0 ≡ item_settled known (item_tree x) = search rules in
    let inner : c.range_behind.new.all.items ≡ ranges_behind known (item_tree x) = search rules in
    settled_next c.args.ranges.now known c.range_behind.new.all.items c.args.items.now c.loop-item.item-index x _ c.in_ok-settle_item.field-0
    c.loop-item.all.items c.push.new.self.items (omega (arith, c.loop-item-test.true)) c.item-item.is c.in_ok-push.ensures.items new inner c.loop-item.invariant

pub settle_items-returns : goal.settle_items-returns
settle_items-returns t c =
    settled_end c.args.ranges.now c.args.items.now c.loop-item.item-index c.loop-item.all.items c.loop-item.known.items (omega (arith, c.loop-item-test.false))
    c.loop-item.invariant
