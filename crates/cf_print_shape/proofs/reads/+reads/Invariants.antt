use Rattle.std.proofs.Common.{◌≡◌, drop}
use Rattle.cf_tree.specs.CodeView.{code_trees}
use Rattle.cf_print_shape.specs.Shapes.{all_read}
use Rattle.cf_print_shape.proofs.reads.+reads.Given as goal

abbrev pub invariant-all_read-loop-code : goal.invariant-all_read-loop-code
invariant-all_read-loop-code l = all_read l.level (code_trees (drop l.code-index l.codes)) ≡ all_read l.level (code_trees l.codes)
