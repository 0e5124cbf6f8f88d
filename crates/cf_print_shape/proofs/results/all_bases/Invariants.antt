use Rattle.std.proofs.Common.{◌≡◌, ◌++◌, drop}
use Rattle.cf_tree.specs.CodeView.{code_trees}
use Rattle.cf_print_shape.specs.Shapes.{all_bases}
use Rattle.cf_print_shape.proofs.results.all_bases.Given as goal

abbrev pub invariant-loop-code : goal.invariant-loop-code
invariant-loop-code l = l.all.items ++ all_bases l.bases (code_trees (drop l.code-index l.codes)) ≡ all_bases l.bases (code_trees l.codes)
