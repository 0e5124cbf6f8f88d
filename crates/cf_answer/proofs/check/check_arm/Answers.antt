use Rattle.std.proofs.Common.{map}
use Rattle.cf_match.specs.Matches.{match_tree}
use Rattle.cf_answer.specs.FrontView.{file_view}
use Rattle.cf_answer.proofs.CheckLemmas.{arm_checked}
use Rattle.cf_answer.proofs.check.check_arm.Goals as goal

pub returns : goal.returns
returns c =
    let matches = c.args.matches.now in
    λ told. rw c.nothing_unmet.ensures
    (arm_checked (file_view matches.file) (map match_tree matches.infos.now) told c.args.choose.now _ c.in_ok-levels.levels.items _ _ c.in_ok-unique.unique
    c.in_ok-levels.ensures c.requires (rw c.deref.ensures.value at c.in_ok-unique.ensures) c.in_ok-put_behind_arm.ensures)
