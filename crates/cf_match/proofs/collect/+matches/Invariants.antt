use Rattle.std.proofs.Common.{◌≡◌, ◌++◌, map, take}
use Rattle.cf_tree.specs.ExprView.{expr_trees, match_arm_trees}
use Rattle.cf_match.specs.Matches.{match_tree, matches_all, matches_arms}
use Rattle.cf_match.proofs.collect.+matches.Given as goal

abbrev pub invariant-collect_all-loop-expr : goal.invariant-collect_all-loop-expr
invariant-collect_all-loop-expr l = map match_tree l.all.items ≡ map match_tree l.fn.all.items ++ matches_all (expr_trees (take l.expr-index l.exprs))

abbrev pub invariant-collect_arms-loop-arm : goal.invariant-collect_arms-loop-arm
invariant-collect_arms-loop-arm l = map match_tree l.all.items ≡ map match_tree l.fn.all.items ++ matches_arms (match_arm_trees (take l.arm-index l.arms))
