use Rattle.std.proofs.Common.{List, map, drop}
use Rattle.cf_form.specs.ToldView.{told_choose}
use Rattle.cf_match.specs.Matches.{match_tree}
use Rattle.cf_tree.specs.ChooseTree.{ChooseTree}
use Rattle.cf_build.specs.Solves.{AreSolved}
use Rattle.cf_form.specs.Told.{HoldConditions}
use Rattle.cf_answer.specs.FrontView.{file_view}
use Rattle.cf_answer.proofs.CheckLemmas.{IsWalked}
use Rattle.cf_answer.proofs.check.check_each.Given as goal

abbrev pub invariant-loop-choose : goal.invariant-loop-choose
invariant-loop-choose l =
    (qs : List ChooseTree) → AreSolved qs l.chooses → HoldConditions (map told_choose l.told) →
    IsWalked (file_view l.matches.file) (map match_tree l.matches.infos.now) (map told_choose l.told) l.before qs (drop l.choose-index l.chooses) l.text.items l.answered
