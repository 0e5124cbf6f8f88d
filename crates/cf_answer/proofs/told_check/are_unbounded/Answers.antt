use Rattle.std.proofs.Common.{map, subst}
use Rattle.std.specs.Prelude.{All}
use Rattle.cf_advice.specs.Bounds.{IsUnbounded}
use Rattle.cf_form.specs.ToldView.{told_branch}
use Rattle.cf_answer.proofs.told_check.are_unbounded.Goals as goal

pub returns-in-Ok : goal.returns-in-Ok
returns-in-Ok c =
    λ e. subst (λ n. All (λ b. IsUnbounded n b.relation) (map told_branch c.args.branches.now)) c.in-Ok.ensures (c.are_unbounded_at.ensures e)
