use Rattle.std.proofs.Common.{◌∙◌, map, ap, take_all, arith}
use Rattle.cf_tree.specs.CodeTree.{codes_of, items_of, arms_of}
use Rattle.cf_tree.specs.CodeView.{arm_tree, code_tree, item_tree}
use Rattle.cf_range.specs.Put.{put, item_put, arm_put}
use Rattle.cf_range.proofs.SettledLists.{codes_put, items_put_each, arms_put_each}
use Rattle.cf_range.proofs.put.+put.Goals as goal

pub put_all-returns : goal.put_all-returns
put_all-returns t c =
    let v = code_tree c.args.value.now in
    ap codes_of (c.loop-code.invariant
    ∙ ap (map (λ x. put c.args.level v (code_tree x))) (take_all c.loop-code.code-index c.args.codes.now (omega (arith, c.loop-code-test.false))))
    ∙ codes_put c.args.level v c.args.codes.now

pub put_items-returns : goal.put_items-returns
put_items-returns t c =
    let v = code_tree c.args.value.now in
    ap items_of (c.loop-item.invariant
    ∙ ap (map (λ x. item_put c.args.level v (item_tree x))) (take_all c.loop-item.item-index c.args.items.now (omega (arith, c.loop-item-test.false))))
    ∙ items_put_each c.args.level v c.args.items.now

pub put_arms-returns : goal.put_arms-returns
put_arms-returns t c =
    let v = code_tree c.args.value.now in
    ap arms_of (c.loop-arm.invariant
    ∙ ap (map (λ x. arm_put c.args.level v (arm_tree x))) (take_all c.loop-arm.arm-index c.args.arms.now (omega (arith, c.loop-arm-test.false))))
    ∙ arms_put_each c.args.level v c.args.arms.now
