use Rattle.std.proofs.Common.{◌≡◌, length, map}
use Rattle.cf_form.specs.ToldView.{truth_at}
use Rattle.cf_tree.specs.Params.{names_of}
use Rattle.cf_answer.specs.Branches.{named, same_head}
use Rattle.cf_answer.proofs.branches.is_head.Given as goal

abbrev pub invariant-truths : goal.invariant-truths
invariant-truths l =
    let names = names_of l.scope in
    same_head (map (named names) (map truth_at l.branch)) l.truths ≡ same_head (map (named names) (map truth_at l.left)) l.rest

abbrev pub decreases-truths : goal.decreases-truths
decreases-truths l = length l.left
