use Rattle.std.proofs.Common.{◌∷◌, [], arith}
use Rattle.cf_tree.specs.CodeView.{arm_tree, arm_trees, code_trees, item_trees}
use Rattle.cf_cert.specs.declared.marks.Form.TheVariants.{More}
use Rattle.cf_cert.specs.declared.marks.Mark.TheVariants.{Form}
use Rattle.cf_cert.specs.Marks.{arm_marks, arms_marks, codes_marks, items_marks}
use Rattle.cf_cert.proofs.PutLaws.{at_next, put_both, put_end, put_next}
use Rattle.cf_cert.proofs.marks.+put_code.Goals as goal

pub put_codes-loop-code-preserved : goal.put_codes-loop-code-preserved
put_codes-loop-code-preserved t c =
    let l = c.loop-code in
    put_next _ _ _ _ _ _ c.in_ok-put_one.ensures
    (at_next (λ cs. codes_marks (code_trees cs)) c.args.codes.now l.code-index c.code-item.result _ (omega arith) c.code-item.is) l.invariant

pub put_codes-returns : goal.put_codes-returns
put_codes-returns t c =
    put_end (λ cs. codes_marks (code_trees cs)) c.args.codes.now c.loop-code.code-index _ _ _ (omega arith) c.in_ok-push.ensures.items c.loop-code.invariant

pub put_items-loop-item-preserved : goal.put_items-loop-item-preserved
put_items-loop-item-preserved t c =
    let l = c.loop-item in
    put_next _ _ _ _ _ _ c.in_ok-put_item.ensures
    (at_next (λ is. items_marks (item_trees is)) c.args.items.now l.item-index c.item-item.result _ (omega arith) c.item-item.is) l.invariant

pub put_items-returns : goal.put_items-returns
put_items-returns t c =
    put_end (λ is. items_marks (item_trees is)) c.args.items.now c.loop-item.item-index _ _ _ (omega arith) c.in_ok-push.ensures.items c.loop-item.invariant

pub put_arms-loop-arm-preserved : goal.put_arms-loop-arm-preserved
put_arms-loop-arm-preserved t c =
    let l = c.loop-arm in
    put_next _ _ _ _ _ _ (put_both l.out.items _ _ (Form More ∷ []) (arm_marks (arm_tree c.arm-item.result)) c.in_ok-push.ensures.items c.in_ok-put_arm.ensures)
    (at_next (λ arms. arms_marks (arm_trees arms)) c.args.arms.now l.arm-index c.arm-item.result _ (omega arith) c.arm-item.is) l.invariant

pub put_arms-returns : goal.put_arms-returns
put_arms-returns t c =
    put_end (λ arms. arms_marks (arm_trees arms)) c.args.arms.now c.loop-arm.arm-index _ _ _ (omega arith) c.in_ok-push-2.ensures.items c.loop-arm.invariant
