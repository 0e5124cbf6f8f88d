use Rattle.std.proofs.Common.{◌≡◌, [], ap, arith, map, rules}
use Rattle.std.proofs.lemmas.Grind.{common_steps}
use Rattle.std.proofs.lemmas.Result.{IfOk-weaker}
use Rattle.cf_advice.specs.OrView.{branch_path}
use Rattle.cf_form.specs.ToldView.{told_branch, truth_at}
use Rattle.cf_answer.specs.Checking.{asked_view}
use Rattle.cf_answer.proofs.BesideLemmas.{never_at}
use Rattle.cf_answer.proofs.ors.never_holds_in.Goals as goal

pub returns-in-Some : goal.returns-in-Some
returns-in-Some c =
    let branch = told_branch c.args.branch.now in
    let empty : c.args.branch.now.truths.items ≡ [] = first_of (search rules, grind (arith, common_steps)) in
    let at = rw c.deref.ensures.value at c.in-Some.ensures in
    IfOk-weaker c.never_holds_with.result _ _
    (λ b h e. never_at (asked_view c.args.asked.now) branch (branch_path c.args.side.now) _ (ap (map truth_at) empty) at (h e)) c.never_holds_with.ensures
