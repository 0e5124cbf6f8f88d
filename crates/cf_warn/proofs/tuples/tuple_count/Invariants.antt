use Rattle.std.proofs.Common.{◌≡◌, take}
use Rattle.cf_tree.specs.RelView.{rel_tree}
use Rattle.cf_choose.specs.Solved.{case_bounds}
use Rattle.cf_warn.specs.Writing.{counted}
use Rattle.cf_warn.proofs.tuples.tuple_count.Given as goal

abbrev pub invariant-loop-case : goal.invariant-loop-case
invariant-loop-case l = l.total ≡ counted (take l.case (case_bounds l.solved.scope.items l.solved.outputs.items (rel_tree l.solved.rel)))
