use Rattle.std.proofs.Common.{◌≡◌, drop}
use Rattle.cf_tree.specs.CodeView.{arm_trees}
use Rattle.cf_smt.specs.Forms.{arms_have_forms}
use Rattle.cf_smt.proofs.form.arms_have_forms.Given as goal

abbrev pub invariant-loop-arm : goal.invariant-loop-arm
invariant-loop-arm l = arms_have_forms (arm_trees (drop l.arm-index l.arms)) ≡ arms_have_forms (arm_trees l.arms)
