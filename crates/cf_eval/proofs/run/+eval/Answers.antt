use Rattle.std.proofs.lemmas.Result.{err_from_is_err_and}
use Rattle.std.proofs.Common.{◌≡◌, true, rules, OnOk, ◌++◌, ◌∷◌, [], sym, ap, ◌∙◌, length}
use Rattle.cf_tree.specs.CodeTree.{code_compare}
use Rattle.cf_tree.specs.declared.code.Code.{the_lemmas}
use Rattle.cf_tree.specs.CodeView.{arm_tree, code_tree}
use Rattle.cf_tree.specs.Meaning.{count_below}
use Rattle.cf_eval.specs.Forms.{kind_of_tree, is_numeric}
use Rattle.cf_eval.specs.Reached.{bounds_of, reached, as_number, given}
use Rattle.cf_tree.specs.Values.{number, compared}
use Rattle.cf_eval.specs.declared.value.Value.TheVariants.{Int}
use Rattle.cf_eval.specs.Seen.{plains}
use Rattle.cf_eval.proofs.Tries.{binds_tree, below_capped, tries_err, tries_found, tries_next, cut}
use Rattle.cf_eval.proofs.FormLemmas.{more_number, compare_ok}
use Rattle.cf_eval.proofs.run.+eval.Goals as goal

pub eval_arm-returns-in_err-found-clause-told : goal.eval_arm-returns-in_err-found-clause-told
eval_arm-returns-in_err-found-clause-told t c =
    let n = count_below (bounds_of (arm_tree c.args.arm.now)) in
    let low = below_capped n c.loop-index.index (rw c.loop-index.invariant.1 at c.loop-index-test.true) in
    let p = err_from_is_err_and c.from_residual-in_err-found.result c.from_residual-in_err-found.ensures.1 in
    let b = binds_tree c.args.arm.now _ _ _ _ c.deref-in-loop-index.ensures.value c.in_ok-push_tuple.ensures.bound in
    rw (p.1, p.2, ← c.loop-index.invariant.2)
    (tries_err (arm_tree c.args.arm.now) (plains c.loop-index.env.items) _ n c.loop-index.index _ low b c.in_err-found.ensures.told)

pub eval_arm-returns-then-is_some-clause-told : goal.eval_arm-returns-then-is_some-clause-told
eval_arm-returns-then-is_some-clause-told t c =
    let n = count_below (bounds_of (arm_tree c.args.arm.now)) in
    let low = below_capped n c.loop-index.index (rw c.loop-index.invariant.1 at c.loop-index-test.true) in
    let b = binds_tree c.args.arm.now _ _ _ _ c.deref-in-loop-index.ensures.value c.in_ok-push_tuple.ensures.bound in
    rw (← c.loop-index.invariant.2) (tries_found (arm_tree c.args.arm.now) (plains c.loop-index.env.items) _ n c.loop-index.index _ low b
    (sym c.if-is_some.ensures) c.in_ok-found.ensures.told)

pub eval_arm-loop-index-preserved : goal.eval_arm-loop-index-preserved
eval_arm-loop-index-preserved t c =
    let n = count_below (bounds_of (arm_tree c.args.arm.now)) in
    let low = below_capped n c.loop-index.index (rw c.loop-index.invariant.1 at c.loop-index-test.true) in
    let b = binds_tree c.args.arm.now _ _ _ _ c.deref-in-loop-index.ensures.value c.in_ok-push_tuple.ensures.bound in
    let same = cut c.loop-index.env.items _ _ c.truncate.new.self.items c.len-size.result
    (c.len-size.ensures ∙ c.args.env.now.ok.0 ∙ ap length (sym c.loop-index.invariant.0)) c.in_ok-push_tuple.ensures.ok c.in_ok-found.ensures.kept.1
    c.truncate.ensures.items in (
      same ∙ c.loop-index.invariant.0,
      c.loop-index.invariant.1,
      rw same (tries_next (arm_tree c.args.arm.now) (plains c.loop-index.env.items) _ n c.loop-index.index _ low b (sym c.if-is_some.ensures)
          c.in_ok-found.ensures.told ∙ c.loop-index.invariant.2),
    )

pub add_exact-returns-in_ok-z-in-Number-clause-told : goal.add_exact-returns-in_ok-z-in-Number-clause-told
add_exact-returns-in_ok-z-in-Number-clause-told t c =
    let ok : OnOk c.push_met.result (c.push_met.new.all.items ≡ c.args.all.now.items ++ (Int c.in_ok-z-in-Number.z ∷ [])) = search rules in
    more_number (code_tree c.args.code.now) (plains c.args.env.now.items) c.in_ok-z-in-Number.z c.push_met.result c.args.all.now.items c.push_met.new.all.items
    (sym c.in-Number.ensures) c.in_ok-z-in-Number.ensures.told ok c.push_met.ensures.err

pub bind_exact-returns-in_ok-z-in-Number-clause-told : goal.bind_exact-returns-in_ok-z-in-Number-clause-told
bind_exact-returns-in_ok-z-in-Number-clause-told t c =
    let ok : OnOk c.push_met.result (c.push_met.new.all.items ≡ c.args.env.now.items ++ (Int c.in_ok-z-in-Number.z ∷ [])) = search rules in
    more_number (code_tree c.args.code.now) (plains c.args.env.now.items) c.in_ok-z-in-Number.z c.push_met.result c.args.env.now.items c.push_met.new.all.items
    (sym c.in-Number.ensures) c.in_ok-z-in-Number.ensures.told ok c.push_met.ensures.err

pub test_order-returns-in_ok-y-in-Compare-clause-told : goal.test_order-returns-in_ok-y-in-Compare-clause-told
test_order-returns-in_ok-y-in-Compare-clause-told t c =
    let left = code_tree c.in-Compare.left.value in
    let right = code_tree c.in-Compare.right.value in
    let env = plains c.args.env.now.items in
    let tree : code_tree c.args.code.now ≡ code_compare c.in-Compare.order left right = search (rules, the_lemmas) in
    let e : as_number (reached left env) ≡ given c.in_ok-x-in-Compare.x = search rules in
    let f : as_number (reached right env) ≡ given c.in_ok-y-in-Compare.y = search rules in
    let n : is_numeric c.in-Compare.order (kind_of_tree left) ≡ true = search rules in
    let b : c.compare_numbers.result ≡ compared c.in-Compare.order (number c.in_ok-x-in-Compare.x) (number c.in_ok-y-in-Compare.y) = search rules in
    rw (tree, b) (compare_ok c.in-Compare.order left right env c.in_ok-x-in-Compare.x c.in_ok-y-in-Compare.y n e f)
