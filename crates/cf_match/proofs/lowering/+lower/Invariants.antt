use Rattle.std.proofs.Common.{◌≡◌, map, take}
use Rattle.cf_tree.specs.ExprView.{expr_tree, match_arm_tree}
use Rattle.cf_program.specs.Lowered.{lowered}
use Rattle.cf_match.specs.Forms.{body_of}
use Rattle.cf_match.proofs.lowering.+lower.Given as goal

abbrev pub invariant-lower_exprs-loop-expr : goal.invariant-lower_exprs-loop-expr
invariant-lower_exprs-loop-expr l = map expr_tree l.all.items ≡ map lowered (map expr_tree (take l.expr-index l.exprs))

abbrev pub invariant-lower_bodies-loop-arm : goal.invariant-lower_bodies-loop-arm
invariant-lower_bodies-loop-arm l = map expr_tree l.all.items ≡ map (λ a. lowered (body_of a)) (map match_arm_tree (take l.arm-index l.arms))
