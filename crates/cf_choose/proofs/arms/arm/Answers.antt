use Rattle.std.proofs.Common.{◌∙◌}
use Rattle.cf_choose.proofs.arms.arm.Goals as goal

pub returns-clause-tree : goal.returns-clause-tree
returns-clause-tree c =
    c.in_ok-with_bounds.ensures ∙ c.in_ok-gives.ensures.built c.args.bounds.now c.in_ok-builder.ensures.made c.in_ok-builder.ensures.level
