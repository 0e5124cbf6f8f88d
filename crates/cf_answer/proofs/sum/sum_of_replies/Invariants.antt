use Rattle.std.proofs.Common.{ℤ, ◌+ℤ◌, length}
use Rattle.cf_io.specs.Lines.{lines}
use Rattle.cf_answer.specs.Steps.{AddUp}
use Rattle.cf_answer.proofs.sum.sum_of_replies.Given as goal

abbrev pub invariant-lines : goal.invariant-lines
invariant-lines l = record {
  added : (more : ℤ) → AddUp l.target (lines l.rest) more → AddUp l.target (lines l.bytes) (l.sum.total +ℤ more);
}

abbrev pub decreases-lines : goal.decreases-lines
decreases-lines l = length l.rest
