use Rattle.std.proofs.Common.{length, map}
use Rattle.std.specs.Prelude.{All}
use Rattle.cf_advice.specs.Bounds.{IsUnbounded}
use Rattle.cf_form.specs.ToldView.{told_branch}
use Rattle.cf_answer.proofs.told_check.are_unbounded_at.Given as goal

abbrev pub decreases-loop-branch : goal.decreases-loop-branch
decreases-loop-branch l = length l.rest

abbrev pub invariant-loop-branch : goal.invariant-loop-branch
invariant-loop-branch l =
    All (λ b. IsUnbounded l.level b.relation) (map told_branch l.rest) → All (λ b. IsUnbounded l.level b.relation) (map told_branch l.branches)
