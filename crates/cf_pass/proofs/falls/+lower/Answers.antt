use Rattle.std.proofs.Common.{rules, arith, ◌≡◌, ◌<◌, ◌+◌, ◌∙◌, suc, length, ap, subst}
use Rattle.cf_tree.specs.CodeView.{code_trees}
use Rattle.cf_pass.specs.LetSteps.{lowered}
use Rattle.cf_pass.proofs.LetItems.{moved_to, codes_on, codes_all}
use Rattle.cf_pass.proofs.LoopSteps.{all_taken}
use Rattle.cf_pass.proofs.falls.+lower.Goals as goal

pub lower_all-loop-code-preserved : goal.lower_all-loop-code-preserved
lower_all-loop-code-preserved t c =
    let f = lowered c.args.fall.now.first c.args.fall.now.gone.items c.args.fall.now.dropped in
    let inside : c.loop-code.code-index < length c.loop-code.code-items = omega (arith, c.loop-code-test.true) in
    let next : suc c.loop-code.code-index ≡ c.loop-code.code-index + 1 = omega arith in
    let on = codes_on f _ c.loop-code.code-items c.loop-code.code-index c.code-item.result c.lower.new.code c.loop-code.invariant.done inside c.lower.ensures in
    record {
      unvisited = search rules;
      done = on ∙ ap (λ i. moved_to f i (code_trees c.args.codes.now.items)) next;
    }

pub lower_all-returns : goal.lower_all-returns
lower_all-returns t c =
    let f = lowered c.args.fall.now.first c.args.fall.now.gone.items c.args.fall.now.dropped in
    let at_end : c.loop-code.code-index ≡ length c.loop-code.code-items = omega (arith, c.loop-code-test.false, c.loop-code.auto.code-index-end) in
    let as_long : length c.loop-code.code-items ≡ length c.args.codes.now.items = search rules in
    let whole = all_taken c.loop-code.code-items c.args.codes.now.items as_long in
    let all = codes_all f _ c.loop-code.code-items (subst (λ i. code_trees c.loop-code.code-items ≡ moved_to f i (code_trees c.args.codes.now.items)) at_end
    c.loop-code.invariant.done) in
    search (rules, whole, all)
