use Rattle.std.proofs.Common.{length, ap, arith}
use Rattle.cf_tree.specs.RelView.{rel_tree}
use Rattle.cf_warn.proofs.SolutionLaws.{unique}
use Rattle.cf_warn.proofs.VerdictLaws.{two_verdict, values_long}
use Rattle.cf_warn.proofs.two_outputs.answer.Goals as goal

pub two-requires : goal.two-requires
two-requires c =
    let p = c.args.solved.now in
    let s = c.outputs-outputs.ensures.solved in
    let asked = rw c.in-Solution.is at c.requires.asked in
    let long = values_long p.scope.items p.outputs.items c.args.shown (rel_tree p.rel) s.typed s.are_outputs c.in-Solution.values.items asked.2 in
    let k = ap (λ bs. length bs) c.outputs-outputs.ensures.value in
    omega (arith, long, k, c.requires.count)

pub returns-in-Solution : goal.returns-in-Solution
returns-in-Solution c =
    let p = c.args.solved.now in
    let s = c.outputs-outputs.ensures.solved in
    let asked = rw c.in-Solution.is at c.requires.asked in
    two_verdict p.scope.items p.outputs.items c.args.shown (rel_tree p.rel) s.typed s.are_outputs c.args.count _ c.in-Solution.values.items c.two.result c.requires.count
    (ap (λ bs. length bs) c.outputs-outputs.ensures.value) asked c.two.ensures

pub returns-in-NoSolution : goal.returns-in-NoSolution
returns-in-NoSolution c =
    let p = c.args.solved.now in
    let s = c.outputs-outputs.ensures.solved in
    let asked = rw c.in-NoSolution.is at c.requires.asked in
    (asked.0, unique p.scope.items p.outputs.items c.args.shown (rel_tree p.rel) s.typed s.are_outputs asked.1)
