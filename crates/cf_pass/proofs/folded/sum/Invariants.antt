use Rattle.std.proofs.Common.{◌≡◌, length, pos}
use Rattle.cf_num.specs.Limit.{IsWithin}
use Rattle.cf_tree.specs.CodeView.{code_trees}
use Rattle.cf_pass.specs.Literals.{sum_of}
use Rattle.cf_pass.proofs.folded.sum.Given as goal

abbrev pub invariant-loop-part : goal.invariant-loop-part
invariant-loop-part l = IsWithin l.total × (sum_of (code_trees l.rest) l.total ≡ sum_of (code_trees l.fn.parts) (pos 0))

abbrev pub decreases-loop-part : goal.decreases-loop-part
decreases-loop-part l = length l.rest
