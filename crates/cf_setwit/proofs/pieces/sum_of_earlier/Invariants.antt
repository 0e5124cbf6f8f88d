use Rattle.std.proofs.Common.{◌≡◌, map}
use Rattle.cf_tree.specs.CodeView.{code_tree}
use Rattle.cf_linear.specs.Arm.{earlier_counts}
use Rattle.cf_linear.specs.Views.{plain_layout}
use Rattle.cf_setwit.proofs.pieces.sum_of_earlier.Given as goal

abbrev pub invariant-loop-o : goal.invariant-loop-o
invariant-loop-o l = map code_tree l.counts.items ≡ earlier_counts (plain_layout l.layout) l.names l.mask l.o
