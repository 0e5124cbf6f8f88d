use Rattle.std.proofs.Common.{◌≡◌, ◌++◌, map, length}
use Rattle.cf_tree.specs.ExprView.{expr_tree}
use Rattle.cf_form.specs.Formed.{comparisons}
use Rattle.cf_form.proofs.chains.comparisons.Given as goal

abbrev pub decreases-loop-order : goal.decreases-loop-order
decreases-loop-order l = length l.rest

abbrev pub invariant-loop-order : goal.invariant-loop-order
invariant-loop-order l = map expr_tree l.all.items ++ comparisons l.level l.rest ≡ comparisons l.fn.s l.fn.orders
