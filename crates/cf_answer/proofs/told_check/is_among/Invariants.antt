use Rattle.std.proofs.Common.{◌≡◌, length}
use Rattle.cf_form.specs.Branches.{is_among}
use Rattle.cf_answer.proofs.told_check.is_among.Given as goal

abbrev pub decreases-loop-first : goal.decreases-loop-first
decreases-loop-first l = length l.rest

abbrev pub invariant-loop-first : goal.invariant-loop-first
invariant-loop-first l =
    is_among l.level l.rest ≡ is_among l.level l.levels
