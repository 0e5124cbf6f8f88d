use Rattle.std.proofs.Common.{◌≡◌, map, drop}
use Rattle.cf_tree.specs.CodeView.{code_trees}
use Rattle.cf_condition.specs.Forms.{joined_in}
use Rattle.cf_condition.specs.FormView.{form_tree}
use Rattle.cf_condition.proofs.codes.+form_of.Given as goal

abbrev pub invariant-joined-loop-i : goal.invariant-joined-loop-i
invariant-joined-loop-i l =
    joined_in l.pairing (map form_tree l.forms) (form_tree l.all) (code_trees (drop l.i l.parts)) ≡
    joined_in l.pairing (map form_tree l.forms) (form_tree l.fn.first) (code_trees (drop l.from l.parts))
