use Rattle.std.proofs.Common.{List}
use Rattle.cf_tree.specs.ChooseTree.{ChooseTree}
use Rattle.cf_build.specs.Solves.{AreSolved}
use Rattle.cf_answer.proofs.ClaimedLemmas.{ClaimedTo}
use Rattle.cf_answer.proofs.goals.put_all_goals.Given as goal

abbrev pub invariant-loop-choose : goal.invariant-loop-choose
invariant-loop-choose l =
    (qs : List ChooseTree) → AreSolved qs l.chooses → ClaimedTo qs l.choose-index l.last l.next l.fn.text.items l.text.items
