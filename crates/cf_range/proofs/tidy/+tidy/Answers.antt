use Rattle.std.proofs.Common.{◌∙◌, map, ap, take_all, arith}
use Rattle.cf_tree.specs.CodeTree.{codes_of, items_of, arms_of}
use Rattle.cf_tree.specs.CodeView.{arm_tree, code_tree, item_tree}
use Rattle.cf_range.specs.Tidied.{tidied, item_tidied, arm_tidied}
use Rattle.cf_range.proofs.TidiedLists.{codes_each, items_each, arms_each}
use Rattle.cf_range.proofs.tidy.+tidy.Goals as goal

pub tidy_all-returns : goal.tidy_all-returns
tidy_all-returns t c =
    ap codes_of (c.loop-code.invariant ∙ ap (map (λ x. tidied (code_tree x))) (take_all c.loop-code.code-index c.args.codes.now (omega (arith, c.loop-code-test.false))))
    ∙ codes_each c.args.codes.now

pub tidy_items-returns : goal.tidy_items-returns
tidy_items-returns t c =
    ap items_of (c.loop-item.invariant ∙ ap (map (λ x. item_tidied (item_tree x))) (take_all c.loop-item.item-index c.args.items.now (omega (arith, c.loop-item-test.false))))
    ∙ items_each c.args.items.now

pub tidy_arms-returns : goal.tidy_arms-returns
tidy_arms-returns t c =
    ap arms_of (c.loop-arm.invariant ∙ ap (map (λ x. arm_tidied (arm_tree x))) (take_all c.loop-arm.arm-index c.args.arms.now (omega (arith, c.loop-arm-test.false))))
    ∙ arms_each c.args.arms.now
