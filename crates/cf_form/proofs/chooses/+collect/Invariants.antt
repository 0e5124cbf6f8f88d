use Rattle.std.proofs.Common.{take}
use Rattle.cf_tree.specs.ExprView.{expr_trees, match_arm_trees}
use Rattle.cf_form.specs.SourceChooses.{chooses_in_all, chooses_in_arms}
use Rattle.cf_form.specs.Telling.{AreFound}
use Rattle.cf_form.proofs.chooses.+collect.Given as goal

abbrev pub invariant-collect_all-loop-expr : goal.invariant-collect_all-loop-expr
invariant-collect_all-loop-expr l = AreFound l.before l.fn.all.items l.all.items (chooses_in_all (expr_trees (take l.expr-index l.exprs)))

abbrev pub invariant-collect_arms-loop-arm : goal.invariant-collect_arms-loop-arm
invariant-collect_arms-loop-arm l = AreFound l.before l.fn.all.items l.all.items (chooses_in_arms (match_arm_trees (take l.arm-index l.arms)))
