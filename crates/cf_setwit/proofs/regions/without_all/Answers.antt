use Rattle.cf_tree.specs.CodeView.{code_tree}
use Rattle.cf_setwit.proofs.PieceLemmas.{without_more}
use Rattle.cf_setwit.proofs.regions.without_all.Goals as goal

pub loop-level-preserved : goal.loop-level-preserved
loop-level-preserved c =
    without_more (code_tree c.args.set) (code_tree c.loop-level.rest) (code_tree c.in_ok-rest.rest) c.args.levels.now c.loop-level.level-index
    c.loop-level-test.true c.loop-level.invariant c.in_ok-rest.ensures
