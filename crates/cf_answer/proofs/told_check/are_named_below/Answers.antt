use Rattle.std.proofs.Common.{◌≡◌, true, arith}
use borrow.Author.Count.{below_more}
use Rattle.cf_tree.specs.Occurs.{rel_holds}
use Rattle.cf_form.specs.ToldView.{told_branch}
use Rattle.cf_answer.specs.Checking.{asked_view}
use Rattle.cf_answer.specs.Tells.{is_named}
use Rattle.cf_answer.specs.ToldChecks.{existence_question}
use Rattle.cf_answer.proofs.told_check.are_named_below.Goals as goal

pub loop-level-preserved : goal.loop-level-preserved
loop-level-preserved c =
    below_more (λ x. rel_holds x (existence_question (told_branch c.args.branch.now)) ≡ true → is_named (asked_view c.args.asked.now) x ≡ true)
    c.loop-level.level c.loop-level.invariant (c.is_named_if_asked.ensures c.if-not-is_named_if_asked.false)

pub returns : goal.returns
returns c = λ e x l. c.loop-level.invariant x (omega (arith, c.loop-level-test.false))
