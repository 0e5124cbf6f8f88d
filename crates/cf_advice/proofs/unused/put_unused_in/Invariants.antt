use Rattle.std.proofs.Common.{◌≡◌, ◌++◌, length, map}
use Rattle.cf_tree.specs.ExprView.{expr_tree}
use Rattle.cf_advice.specs.Unused.{unused_from}
use Rattle.cf_advice.proofs.unused.put_unused_in.Given as goal

abbrev pub decreases-loop-param : goal.decreases-loop-param
decreases-loop-param l = length l.rest

abbrev pub invariant-loop-param : goal.invariant-loop-param
invariant-loop-param l =
    map (λ p. p.now) l.out.items ++ unused_from l.level l.rest (expr_tree l.body)
    ≡ map (λ p. p.now) l.fn.out.items ++ unused_from 0 l.params (expr_tree l.body)
