use Rattle.std.proofs.Common.{arith}
use Rattle.cf_tree.specs.RelView.{rel_tree}
use Rattle.cf_warn.proofs.DraftLaws.{cases_more, all_cases}
use Rattle.cf_warn.proofs.draft.Draft.cases.Goals as goal

pub loop-case-preserved : goal.loop-case-preserved
loop-case-preserved c =
    let p = c.args.solved.now in
    cases_more p.scope.items p.outputs.items (rel_tree p.rel) c.args.self.now c.loop-case.self c.tuples.new.self c.bounds.result.now c.steps.result.now
    c.loop-case.case c.bounds.ensures.value c.steps.ensures.value c.loop-case.invariant c.in_ok-tuples.ensures

pub returns : goal.returns
returns c =
    let p = c.args.solved.now in
    all_cases p.scope.items p.outputs.items (rel_tree p.rel) c.args.self.now c.loop-case.self c.loop-case.case
    (omega (arith, c.loop-case-test.false, c.cases_len-case-end.ensures.cases)) c.loop-case.invariant
