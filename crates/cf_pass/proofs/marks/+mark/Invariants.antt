use Rattle.std.proofs.Common.{◌≡◌, drop}
use Rattle.cf_tree.specs.CodeView.{code_trees}
use Rattle.cf_pass.specs.LetSteps.{all_marked}
use Rattle.cf_pass.proofs.marks.+mark.Given as goal

abbrev pub invariant-mark_all-loop-code : goal.invariant-mark_all-loop-code
invariant-mark_all-loop-code l =
    all_marked l.first l.known (code_trees (drop l.code-index l.codes)) l.used.items ≡ all_marked l.first l.known (code_trees l.codes)
    l.fn.used.items
