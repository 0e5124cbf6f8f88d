use Rattle.std.proofs.Common.{◌≡◌, length, None}
use Rattle.cf_tree.specs.CodeView.{code_trees}
use Rattle.cf_pass.specs.Literals.{best_of, better_of}
use Rattle.cf_pass.proofs.folded.best.Given as goal

abbrev pub invariant-loop-part : goal.invariant-loop-part
invariant-loop-part l = best_of (better_of l.side) (code_trees l.rest) l.best ≡ best_of (better_of l.side) (code_trees l.fn.parts) None

abbrev pub decreases-loop-part : goal.decreases-loop-part
decreases-loop-part l = length l.rest
