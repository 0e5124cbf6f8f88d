use Rattle.std.proofs.Common.{◌∙◌, ◌++◌, ap}
use Rattle.cf_tree.specs.CodeTree.{code_solve}
use Rattle.cf_tree.specs.CodeView.{code_tree, arm_trees}
use Rattle.cf_cert.specs.Marks.{code_marks}
use Rattle.cf_cert.proofs.MarkLaws.{marks_decide}
use Rattle.cf_cert.proofs.marks.is_solve.Goals as goal

pub returns : goal.returns
returns c =
    marks_decide _ _ c.deref.result.now c.deref-2.result.now c.same_marks.result
    (c.deref.ensures.value ∙ c.in_ok-put_code.ensures ∙ ap (λ ms. ms ++ code_marks (code_tree c.args.code.now)) c.new-found.ensures.items)
    (c.deref-2.ensures.value ∙ c.in_ok-put_solve.ensures ∙ ap (λ ms. ms ++ code_marks (code_solve c.args.number (arm_trees c.args.arms.now)))
    c.new-made.ensures.items)
    c.same_marks.ensures
