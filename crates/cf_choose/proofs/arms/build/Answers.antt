use Rattle.std.proofs.Common.{map, refl}
use Rattle.cf_tree.specs.CodeView.{code_tree, item_tree}
use Rattle.cf_linear.specs.Views.{plain_layout}
use Rattle.cf_choose.specs.ArmBuilders.{builder_of}
use Rattle.cf_choose.proofs.MadeArms.{arm_made}
use Rattle.cf_choose.proofs.arms.build.Goals as goal

pub returns-clause-built : goal.returns-clause-built
returns-clause-built c = λ bounds begins level.
    arm_made (plain_layout c.args.layout.now) bounds c.args.steps.now c.args.back.now (builder_of c.args.builder.now)
    (builder_of c.regions.new.self) (builder_of c.steps.new.self) (builder_of c.back.new.self)
    (map item_tree c.fresh.new.self.items.items) (map code_tree c.in_ok-gives.gives.items) (map (λ s. s.bound) bounds) c.args.builder.now.level
    c.back.new.self.level begins c.in_ok-regions.ensures
    c.in_ok-steps.ensures.made c.in_ok-back.ensures.made c.in_ok-fresh.ensures level refl c.in_ok-gives.ensures refl
