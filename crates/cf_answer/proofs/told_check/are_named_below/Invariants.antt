use Rattle.std.proofs.Common.{◌≡◌, ◌<◌, ℕ, true}
use Rattle.cf_tree.specs.Occurs.{rel_holds}
use Rattle.cf_form.specs.ToldView.{told_branch}
use Rattle.cf_answer.specs.Checking.{asked_view}
use Rattle.cf_answer.specs.Tells.{is_named}
use Rattle.cf_answer.specs.ToldChecks.{existence_question}
use Rattle.cf_answer.proofs.told_check.are_named_below.Given as goal

abbrev pub invariant-loop-level : goal.invariant-loop-level
invariant-loop-level l =
    (x : ℕ) → x < l.level → rel_holds x (existence_question (told_branch l.branch)) ≡ true → is_named (asked_view l.asked) x ≡ true
