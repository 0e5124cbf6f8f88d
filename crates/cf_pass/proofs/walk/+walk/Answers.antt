use Rattle.std.proofs.Common.{◌≡◌, ◌+◌, length, IsOk, refl, rules, arith}
use Rattle.cf_tree.specs.declared.code.Code.{the_lemmas}
use Rattle.cf_tree.specs.CodeTree.{code_set_of, code_tuple, code_sum, code_sub, code_mul, code_neg, code_min, code_max, code_and, code_or, code_not, code_union, code_inter, code_diff, code_subset, code_card, code_slice, code_fresh, code_if, code_lit, code_truth, code_var}
use Rattle.cf_pass.proofs.FormTrees.{sub_tree, mul_tree, compare_tree, and_tree, or_tree, diff_tree, subset_tree, slice_tree, fresh_tree, if_tree, let_tree}
use Rattle.cf_pass.proofs.CodeLists.{all_self}
use Rattle.cf_pass.proofs.Forms.{improves_self}
use Rattle.cf_pass.proofs.LoopSteps.{item_self, all_taken}
use Rattle.cf_pass.proofs.WalkForms.{over_one, over_two, over_three, over_list, over_arms, over_binding, over_div, over_mod, over_divides, over_compare, leaf, at_level, list_at, of_let, of_need, of_arm}
use Rattle.cf_pass.proofs.WalkForms.{set_of_over, tuple_over, sum_over, min_over, max_over, union_over, inter_over, neg_over, not_over, card_over, sub_over, mul_over, diff_over, subset_over, fresh_over, and_over, or_over, slice_over, if_over}
use Rattle.cf_pass.proofs.WalkSteps.{stays, from_start, no_start, if_ok_same, ok_before}
use Rattle.cf_pass.proofs.WalkLists.{codes_begin, codes_next, codes_end, items_begin, items_next, items_end, arms_begin, arms_next, arms_end}
use Rattle.cf_pass.proofs.walk.+walk.Goals as goal

pub walk-returns : goal.walk-returns
walk-returns g t c = c.walk_parts-so_far.ensures _ _ _ c.finish.ensures

pub walk_parts-returns-in-Let : goal.walk_parts-returns-in-Let
walk_parts-returns-in-Let g t c = λ e end behind form.
    over_binding g.R.Rule.made g.R.Rule.units c.args.outside _ _ _ _ _ _ _ _ _ c.walk_part-so_far.ensures c.walk_behind.ensures form
    (let_tree _ _ c.walk_part-so_far.new.part c.walk_behind.new.part)
    (search (rules, the_lemmas))

pub walk_parts-returns-in-Solve : goal.walk_parts-returns-in-Solve
walk_parts-returns-in-Solve g t c = λ e end behind form.
    over_arms g.R.Rule.made g.R.Rule.units c.args.outside c.in-Solve.number _ _ _ _ _ c.walk_arms.ensures form
    (search (rules, the_lemmas))
    (search (rules, the_lemmas))

pub walk_parts-returns-in-SetOf : goal.walk_parts-returns-in-SetOf
walk_parts-returns-in-SetOf g t c = λ e end behind form.
    over_list g.R.Rule.made g.R.Rule.units c.args.outside code_set_of (set_of_over g.R.Rule.made g.R.Rule.units c.args.outside) _ _ _ _ _
    c.walk_all.ensures form
    (search (rules, the_lemmas)) (search (rules, the_lemmas))

pub walk_parts-returns-in-Tuple : goal.walk_parts-returns-in-Tuple
walk_parts-returns-in-Tuple g t c = λ e end behind form.
    over_list g.R.Rule.made g.R.Rule.units c.args.outside code_tuple (tuple_over g.R.Rule.made g.R.Rule.units c.args.outside) _ _ _ _ _
    c.walk_all-in-Tuple.ensures form
    (search (rules, the_lemmas)) (search (rules, the_lemmas))

pub walk_parts-returns-in-Sum : goal.walk_parts-returns-in-Sum
walk_parts-returns-in-Sum g t c = λ e end behind form.
    over_list g.R.Rule.made g.R.Rule.units c.args.outside code_sum (sum_over g.R.Rule.made g.R.Rule.units c.args.outside) _ _ _ _ _
    c.walk_all-in-Sum.ensures form
    (search (rules, the_lemmas)) (search (rules, the_lemmas))

pub walk_parts-returns-in-Min : goal.walk_parts-returns-in-Min
walk_parts-returns-in-Min g t c = λ e end behind form.
    over_list g.R.Rule.made g.R.Rule.units c.args.outside code_min (min_over g.R.Rule.made g.R.Rule.units c.args.outside) _ _ _ _ _
    c.walk_all-in-Min.ensures form
    (search (rules, the_lemmas)) (search (rules, the_lemmas))

pub walk_parts-returns-in-Max : goal.walk_parts-returns-in-Max
walk_parts-returns-in-Max g t c = λ e end behind form.
    over_list g.R.Rule.made g.R.Rule.units c.args.outside code_max (max_over g.R.Rule.made g.R.Rule.units c.args.outside) _ _ _ _ _
    c.walk_all-in-Max.ensures form
    (search (rules, the_lemmas)) (search (rules, the_lemmas))

pub walk_parts-returns-in-Union : goal.walk_parts-returns-in-Union
walk_parts-returns-in-Union g t c = λ e end behind form.
    over_list g.R.Rule.made g.R.Rule.units c.args.outside code_union (union_over g.R.Rule.made g.R.Rule.units c.args.outside) _ _ _ _ _
    c.walk_all-in-Union.ensures form
    (search (rules, the_lemmas)) (search (rules, the_lemmas))

pub walk_parts-returns-in-Inter : goal.walk_parts-returns-in-Inter
walk_parts-returns-in-Inter g t c = λ e end behind form.
    over_list g.R.Rule.made g.R.Rule.units c.args.outside code_inter (inter_over g.R.Rule.made g.R.Rule.units c.args.outside) _ _ _ _ _
    c.walk_all-in-Inter.ensures form
    (search (rules, the_lemmas)) (search (rules, the_lemmas))

pub walk_parts-returns-in-Sub : goal.walk_parts-returns-in-Sub
walk_parts-returns-in-Sub g t c = λ e end behind form.
    let p = c.walk_two.ensures in
    over_two g.R.Rule.made g.R.Rule.units c.args.outside code_sub (sub_over g.R.Rule.made g.R.Rule.units c.args.outside) _ _ _ _ _ _ _
    p.2 p.3 form (sub_tree c.walk_two.new.a c.walk_two.new.b) (search (rules, the_lemmas))

pub walk_parts-returns-in-Mul : goal.walk_parts-returns-in-Mul
walk_parts-returns-in-Mul g t c = λ e end behind form.
    let p = c.walk_two-in-Mul.ensures in
    over_two g.R.Rule.made g.R.Rule.units c.args.outside code_mul (mul_over g.R.Rule.made g.R.Rule.units c.args.outside) _ _ _ _ _ _ _
    p.2 p.3 form (mul_tree c.walk_two-in-Mul.new.a c.walk_two-in-Mul.new.b) (search (rules, the_lemmas))

pub walk_parts-returns-in-Diff : goal.walk_parts-returns-in-Diff
walk_parts-returns-in-Diff g t c = λ e end behind form.
    let p = c.walk_two-in-Diff.ensures in
    over_two g.R.Rule.made g.R.Rule.units c.args.outside code_diff (diff_over g.R.Rule.made g.R.Rule.units c.args.outside) _ _ _ _ _ _ _
    p.2 p.3 form (diff_tree c.walk_two-in-Diff.new.a c.walk_two-in-Diff.new.b) (search (rules, the_lemmas))

pub walk_parts-returns-in-Subset : goal.walk_parts-returns-in-Subset
walk_parts-returns-in-Subset g t c = λ e end behind form.
    let p = c.walk_two-in-Subset.ensures in
    over_two g.R.Rule.made g.R.Rule.units c.args.outside code_subset (subset_over g.R.Rule.made g.R.Rule.units c.args.outside) _ _ _ _ _ _ _
    p.2 p.3 form (subset_tree c.walk_two-in-Subset.new.a c.walk_two-in-Subset.new.b) (search (rules, the_lemmas))

pub walk_parts-returns-in-Fresh : goal.walk_parts-returns-in-Fresh
walk_parts-returns-in-Fresh g t c = λ e end behind form.
    let p = c.walk_two-in-Fresh.ensures in
    over_two g.R.Rule.made g.R.Rule.units c.args.outside code_fresh (fresh_over g.R.Rule.made g.R.Rule.units c.args.outside) _ _ _ _ _ _ _
    p.2 p.3 form (fresh_tree c.walk_two-in-Fresh.new.a c.walk_two-in-Fresh.new.b) (search (rules, the_lemmas))

pub walk_parts-returns-in-And : goal.walk_parts-returns-in-And
walk_parts-returns-in-And g t c = λ e end behind form.
    let p = c.walk_two-in-And.ensures in
    over_two g.R.Rule.made g.R.Rule.units c.args.outside code_and (and_over g.R.Rule.made g.R.Rule.units c.args.outside) _ _ _ _ _ _ _
    p.2 p.3 form (and_tree c.walk_two-in-And.new.a c.walk_two-in-And.new.b) (search (rules, the_lemmas))

pub walk_parts-returns-in-Or : goal.walk_parts-returns-in-Or
walk_parts-returns-in-Or g t c = λ e end behind form.
    let p = c.walk_two-in-Or.ensures in
    over_two g.R.Rule.made g.R.Rule.units c.args.outside code_or (or_over g.R.Rule.made g.R.Rule.units c.args.outside) _ _ _ _ _ _ _ p.2 p.3 form (or_tree c.walk_two-in-Or.new.a c.walk_two-in-Or.new.b)
    (search (rules, the_lemmas))

pub walk_parts-returns-in-Neg : goal.walk_parts-returns-in-Neg
walk_parts-returns-in-Neg g t c = λ e end behind form.
    over_one g.R.Rule.made g.R.Rule.units c.args.outside code_neg (neg_over g.R.Rule.made g.R.Rule.units c.args.outside) _ _ _ _ _ c.walk_part.ensures
    form
    (search (rules, the_lemmas)) (search (rules, the_lemmas))

pub walk_parts-returns-in-Not : goal.walk_parts-returns-in-Not
walk_parts-returns-in-Not g t c = λ e end behind form.
    over_one g.R.Rule.made g.R.Rule.units c.args.outside code_not (not_over g.R.Rule.made g.R.Rule.units c.args.outside) _ _ _ _ _
    c.walk_part-in-Not.ensures form
    (search (rules, the_lemmas)) (search (rules, the_lemmas))

pub walk_parts-returns-in-Card : goal.walk_parts-returns-in-Card
walk_parts-returns-in-Card g t c = λ e end behind form.
    over_one g.R.Rule.made g.R.Rule.units c.args.outside code_card (card_over g.R.Rule.made g.R.Rule.units c.args.outside) _ _ _ _ _
    c.walk_part-in-Card.ensures form
    (search (rules, the_lemmas)) (search (rules, the_lemmas))

pub walk_parts-returns-in-Div : goal.walk_parts-returns-in-Div
walk_parts-returns-in-Div g t c = λ e end behind form.
    over_div g.R.Rule.made g.R.Rule.units c.args.outside c.in-Div.k _ _ _ _ _ c.walk_part-in-Div.ensures form
    (search (rules, the_lemmas)) (search (rules, the_lemmas))

pub walk_parts-returns-in-Mod : goal.walk_parts-returns-in-Mod
walk_parts-returns-in-Mod g t c = λ e end behind form.
    over_mod g.R.Rule.made g.R.Rule.units c.args.outside c.in-Mod.k _ _ _ _ _ c.walk_part-in-Mod.ensures form
    (search (rules, the_lemmas)) (search (rules, the_lemmas))

pub walk_parts-returns-in-Divides : goal.walk_parts-returns-in-Divides
walk_parts-returns-in-Divides g t c = λ e end behind form.
    over_divides g.R.Rule.made g.R.Rule.units c.args.outside c.in-Divides.k _ _ _ _ _ c.walk_part-in-Divides.ensures form
    (search (rules, the_lemmas)) (search (rules, the_lemmas))

pub walk_parts-returns-in-Compare : goal.walk_parts-returns-in-Compare
walk_parts-returns-in-Compare g t c = λ e end behind form.
    let p = c.walk_two-in-Compare.ensures in
    over_compare g.R.Rule.made g.R.Rule.units c.args.outside _ _ _ _ _ _ _ _ p.2 p.3 form (compare_tree _ c.walk_two-in-Compare.new.a c.walk_two-in-Compare.new.b) (search (rules, the_lemmas))

pub walk_parts-returns-in-Slice : goal.walk_parts-returns-in-Slice
walk_parts-returns-in-Slice g t c = λ e end behind form.
    let p = c.walk_three.ensures in
    over_three g.R.Rule.made g.R.Rule.units c.args.outside code_slice (slice_over g.R.Rule.made g.R.Rule.units c.args.outside) _ _ _ _ _ _ _ _ _
    p.4 p.5 p.6 form (slice_tree c.walk_three.new.a c.walk_three.new.b c.walk_three.new.c) (search (rules, the_lemmas))

pub walk_parts-returns-in-If : goal.walk_parts-returns-in-If
walk_parts-returns-in-If g t c = λ e end behind form.
    let p = c.walk_three-in-If.ensures in
    over_three g.R.Rule.made g.R.Rule.units c.args.outside code_if (if_over g.R.Rule.made g.R.Rule.units c.args.outside) _ _ _ _ _ _ _ _ _
    p.4 p.5 p.6 form (if_tree c.walk_three-in-If.new.a c.walk_three-in-If.new.b c.walk_three-in-If.new.c) (search (rules, the_lemmas))

pub walk_parts-returns-in-Lit : goal.walk_parts-returns-in-Lit
walk_parts-returns-in-Lit g t c = λ e end behind form. leaf g.R.Rule.made g.R.Rule.units c.args.outside _ (code_lit c.in-Lit.field-0) _
    (search (rules, the_lemmas)) refl refl
    form

pub walk_parts-returns-in-Truth : goal.walk_parts-returns-in-Truth
walk_parts-returns-in-Truth g t c = λ e end behind form. leaf g.R.Rule.made g.R.Rule.units c.args.outside _ (code_truth c.in-Truth.field-0) _
    (search (rules, the_lemmas)) refl refl
    form

pub walk_parts-returns-in-Var : goal.walk_parts-returns-in-Var
walk_parts-returns-in-Var g t c = λ e end behind form. leaf g.R.Rule.made g.R.Rule.units c.args.outside _ (code_var c.in-Var.field-0) _
    (search (rules, the_lemmas)) refl refl
    form

pub walk_two-returns : goal.walk_two-returns
walk_two-returns g t c = (_, _, c.walk_part-so_far.ensures, c.walk_part.ensures)

pub walk_three-returns : goal.walk_three-returns
walk_three-returns g t c = (_, _, _, _, c.walk_part-so_far.ensures, c.walk_part-so_far-2.ensures, c.walk_part.ensures)

pub walk_all-loop-code-init : goal.walk_all-loop-code-init
walk_all-loop-code-init g t c = (codes_begin g.R.Rule.made g.R.Rule.units c.args.outside _ _ (search rules), search rules)

pub walk_all-loop-code-preserved : goal.walk_all-loop-code-preserved
walk_all-loop-code-preserved g t c = (
  codes_next g.R.Rule.made g.R.Rule.units c.args.outside _ _ _ _ _ (omega (arith, c.loop-code-test.true)) c.loop-code.invariant.0 c.walk-so_far.ensures,
  search rules,
)

pub walk_all-returns : goal.walk_all-returns
walk_all-returns g t c =
    let at_end : c.loop-code.code-index ≡ length c.loop-code.code-items = omega (arith, c.loop-code-test.false, c.loop-code.auto.code-index-end) in
    let as_long : length c.loop-code.code-items ≡ length c.args.codes.now.items = search rules in
    let whole = all_taken c.loop-code.code-items c.args.codes.now.items as_long in
    codes_end g.R.Rule.made g.R.Rule.units c.args.outside _ _ _ _ at_end (search (rules, whole)) c.loop-code.invariant.0

pub walk_items-loop-item-init : goal.walk_items-loop-item-init
walk_items-loop-item-init g t c =
    (search rules, λ n e. (items_begin g.R.Rule.made g.R.Rule.units n _ _ (search rules), if_ok_same c.args.level _ _ e (omega arith)))

pub walk_items-loop-item-preserved : goal.walk_items-loop-item-preserved
walk_items-loop-item-preserved g t c = (
  search rules,
  λ n e.
      let p = c.loop-item.invariant.1 n e in
      items_next g.R.Rule.made g.R.Rule.units n _ _ _ _ _ _ (omega (arith, c.loop-item-test.true)) p.0 (c.walk_item-level.ensures _ p.1),
)

pub walk_items-returns : goal.walk_items-returns
walk_items-returns g t c = λ n e.
    let at_end : c.loop-item.item-index ≡ length c.loop-item.item-items = omega (arith, c.loop-item-test.false, c.loop-item.auto.item-index-end) in
    let as_long : length c.loop-item.item-items ≡ length c.args.items.now.items = search rules in
    let whole = all_taken c.loop-item.item-items c.args.items.now.items as_long in
    items_end g.R.Rule.made g.R.Rule.units n _ _ _ _ _ at_end (search (rules, whole)) (c.loop-item.invariant.1 n e)

pub walk_arms-loop-arm-init : goal.walk_arms-loop-arm-init
walk_arms-loop-arm-init g t c = (arms_begin g.R.Rule.made g.R.Rule.units c.args.outside _ _ (search rules), search rules)

pub walk_arms-loop-arm-preserved : goal.walk_arms-loop-arm-preserved
walk_arms-loop-arm-preserved g t c = (
  arms_next g.R.Rule.made g.R.Rule.units c.args.outside _ _ _ _ _ (omega (arith, c.loop-arm-test.true)) c.loop-arm.invariant.0 c.walk_arm-so_far.ensures,
  search rules,
)

pub walk_arms-returns : goal.walk_arms-returns
walk_arms-returns g t c =
    let at_end : c.loop-arm.arm-index ≡ length c.loop-arm.arm-items = omega (arith, c.loop-arm-test.false, c.loop-arm.auto.arm-index-end) in
    let as_long : length c.loop-arm.arm-items ≡ length c.args.arms.now.items = search rules in
    let whole = all_taken c.loop-arm.arm-items c.args.arms.now.items as_long in
    arms_end g.R.Rule.made g.R.Rule.units c.args.outside _ _ _ _ at_end (search (rules, whole)) c.loop-arm.invariant.0

pub walk_behind-returns-in-Ok : goal.walk_behind-returns-in-Ok
walk_behind-returns-in-Ok g t c =
    let before : IsOk c.args.so_far = search rules in
    from_start (λ k. before) (at_level g.R.Rule.made g.R.Rule.units _ _ _ _ (search rules) c.walk_part.ensures)

pub walk_behind-returns-in-Err : goal.walk_behind-returns-in-Err
walk_behind-returns-in-Err g t c = stays (improves_self _ _) no_start

pub walk_gives-returns-in-Ok : goal.walk_gives-returns-in-Ok
walk_gives-returns-in-Ok g t c = λ n e.
    let before : IsOk c.args.level = search rules in
    from_start (λ k. before) (list_at g.R.Rule.made g.R.Rule.units _ _ _ _ (search rules) c.walk_all.ensures)

pub walk_gives-returns-in-Err : goal.walk_gives-returns-in-Err
walk_gives-returns-in-Err g t c = λ n e. stays (all_self _ _) no_start

pub walk_item-returns-in-Let : goal.walk_item-returns-in-Let
walk_item-returns-in-Let g t c = λ n e.
    let before : IsOk c.args.level = search rules in (
      of_let g.R.Rule.made g.R.Rule.units _ n _ _ _ _ c.walk-so_far.ensures (search (rules, the_lemmas)) (search (rules, the_lemmas)) (search rules)
          (λ k. before) (ok_before c.behind.result c.behind.ensures.before),
      if_ok_same c.behind.result _ _ c.behind.ensures.level (search (rules, the_lemmas, arith)),
    )

pub walk_item-returns-in-Need : goal.walk_item-returns-in-Need
walk_item-returns-in-Need g t c = λ n e.
    let before : IsOk c.args.level = search rules in (
      of_need g.R.Rule.made g.R.Rule.units _ n _ _ _ _ c.walk-so_far-in-Need.ensures (search (rules, the_lemmas)) (search (rules, the_lemmas)) (search rules)
          (λ k. before) (ok_before c.behind-in-Need.result c.behind-in-Need.ensures.before),
      if_ok_same c.behind-in-Need.result _ _ c.behind-in-Need.ensures.level (search (rules, the_lemmas, arith)),
    )

pub walk_item-returns-in-Err : goal.walk_item-returns-in-Err
walk_item-returns-in-Err g t c = λ n e. (stays (item_self n _) no_start, tt)

pub walk_arm-returns : goal.walk_arm-returns
walk_arm-returns g t c =
    let p = c.walk_items-level.ensures (c.args.outside + length c.args.arm.now.bounds.items)
    (if_ok_same c.behind_bounds-level.result _ _ c.behind_bounds-level.ensures.level (search rules)) in
    let q = c.walk_gives.ensures _ p.1 in
    of_arm g.R.Rule.made g.R.Rule.units c.args.outside _ _ _ _ _ _ _
    (from_start (ok_before c.behind_bounds-level.result c.behind_bounds-level.ensures.before) p.0) q (search (rules, the_lemmas))
    (search (rules, the_lemmas))
