use Rattle.std.proofs.Common.{◌≡◌, ◌++◌, map, length}
use Rattle.cf_tree.specs.ExprView.{expr_tree}
use Rattle.cf_form.specs.Formed.{all_given_out}
use Rattle.cf_form.proofs.choose.all_given_out.Given as goal

abbrev pub decreases-loop-base : goal.decreases-loop-base
decreases-loop-base l = length l.rest

abbrev pub invariant-loop-base : goal.invariant-loop-base
invariant-loop-base l = map expr_tree l.all.items ++ all_given_out l.level l.rest ≡ all_given_out l.fn.first l.fn.outputs
