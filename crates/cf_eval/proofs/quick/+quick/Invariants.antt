use Rattle.std.proofs.Common.{◌≡◌, drop, pos, None}
use Rattle.cf_tree.specs.CodeView.{code_trees}
use Rattle.cf_eval.specs.Choice.{better_of}
use Rattle.cf_eval.specs.Reached.{sum_reached, best_reached}
use Rattle.cf_eval.specs.Seen.{plains}
use Rattle.cf_eval.proofs.quick.+quick.Given as goal

abbrev pub invariant-sum_of-loop-i : goal.invariant-sum_of-loop-i
invariant-sum_of-loop-i l = sum_reached (code_trees (drop l.i l.parts)) (plains l.env) l.total ≡ sum_reached (code_trees l.parts) (plains l.env) (pos 0)

abbrev pub invariant-best_of-loop-i : goal.invariant-best_of-loop-i
invariant-best_of-loop-i l =
    best_reached (better_of l.side) (code_trees (drop l.i l.parts)) (plains l.env) l.best ≡ best_reached (better_of l.side) (code_trees l.parts) (plains l.env)
    None
