use Rattle.std.proofs.Common.{subst}
use Rattle.cf_tree.specs.RelView.{rel_tree}
use Rattle.cf_linear.specs.Views.{plain_layout}
use Rattle.cf_choose.specs.Eliminations.{AreArmsFor}
use Rattle.cf_choose.proofs.OnWay.{few_sets_by, solved_by}
use Rattle.cf_choose.proofs.solving.with_arms.Goals as goal

pub arms-requires : goal.arms-requires
arms-requires c = few_sets_by c.args.scope.now c.args.outputs.now (rel_tree c.args.rel.now) c.args.of c.requires

pub solved_with-requires : goal.solved_with-requires
solved_with-requires c =
    solved_by c.args.scope.now c.args.outputs.now (rel_tree c.args.rel.now) c.args.of c.requires c.in_ok-arms.arms.items
    (subst (λ cases. AreArmsFor (plain_layout c.args.of.layout) cases c.in_ok-arms.arms.items) c.deref.ensures.value c.in_ok-arms.ensures)
