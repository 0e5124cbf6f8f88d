use Rattle.std.proofs.Common.{ap, arith, ◌∙◌}
use Rattle.std.proofs.lemmas.List.{take_all}
use Rattle.cf_tree.specs.CodeTree.{code_var}
use Rattle.cf_linear.specs.Arm.{vars}
use Rattle.cf_setwit.proofs.PieceLemmas.{mapped_more}
use Rattle.cf_setwit.proofs.regions.variables.Goals as goal

pub loop-level-preserved : goal.loop-level-preserved
loop-level-preserved c =
    mapped_more (λ x. code_var x) c.args.levels.now c.loop-level.level-index c.loop-level.codes.items c.push.new.self.items c.variable.result
    c.loop-level-test.true c.in_ok-push.ensures.items c.variable.ensures c.loop-level.invariant

pub returns : goal.returns
returns c = c.loop-level.invariant ∙ ap vars (take_all c.loop-level.level-index c.args.levels.now (omega (arith, c.loop-level-test.false)))
