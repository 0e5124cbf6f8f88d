use Rattle.std.proofs.Common.{◌≡◌, map, take}
use Rattle.cf_tree.specs.DefView.{def_tree}
use Rattle.cf_tree.specs.ExprView.{expr_tree, match_arm_tree}
use Rattle.cf_form.specs.Formed.{formed}
use Rattle.cf_form.specs.FormShapes.{arm_formed}
use Rattle.cf_form.specs.Unfolding.{calls_of}
use Rattle.cf_form.proofs.forming.+form.Given as goal

abbrev pub invariant-form_all-loop-expr : goal.invariant-form_all-loop-expr
invariant-form_all-loop-expr l =
    map expr_tree l.all.items ≡ map (formed (calls_of (map def_tree l.around.before.now)) l.s) (map expr_tree (take l.expr-index l.exprs))

abbrev pub invariant-form_arms-loop-arm : goal.invariant-form_arms-loop-arm
invariant-form_arms-loop-arm l =
    map match_arm_tree l.all.items ≡ map (arm_formed (calls_of (map def_tree l.around.before.now)) l.s) (map match_arm_tree (take l.arm-index l.arms))
