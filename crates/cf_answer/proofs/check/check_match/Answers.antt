use Rattle.std.proofs.Common.{map}
use Rattle.cf_match.specs.Matches.{match_tree}
use Rattle.cf_answer.specs.FrontView.{file_view}
use Rattle.cf_answer.proofs.CheckLemmas.{match_checked}
use Rattle.cf_answer.proofs.check.check_match.Goals as goal

pub returns : goal.returns
returns c =
    let matches = c.args.matches.now in
    λ told. rw c.nothing_unmet.ensures
    (match_checked (file_view matches.file) (map match_tree matches.infos.now) told c.args.choose.now _ _ _ c.in_ok-put_behind_match.ensures.0 c.args.info.now
    c.in_ok-covered.covered c.requires.among c.requires.number c.in_ok-covered.ensures
    (rw c.deref.ensures.value at c.in_ok-put_behind_match.ensures.1) c.in_ok-put_behind_match.ensures.2)
