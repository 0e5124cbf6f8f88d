use Rattle.std.proofs.Common.{rules, ◌≡◌, [], map}
use Rattle.cf_form.specs.ToldView.{told_choose}
use Rattle.cf_match.specs.Matches.{match_tree}
use Rattle.cf_answer.specs.FrontView.{file_view}
use Rattle.cf_answer.proofs.CheckLemmas.{lines_written}
use Rattle.cf_answer.proofs.check.put_checked.Goals as goal

pub returns : goal.returns
returns c =
    let matches = c.args.matches.now in
    let empty : c.new-lines.result.items ≡ [] = search rules in
    lines_written (file_view matches.file) (map match_tree matches.infos.now) (map told_choose c.args.told.now) c.args.before c.args.choose.now _ _ _ _
    c.in_ok-answered.answered empty c.in_ok-answered.ensures (rw c.deref.ensures.value at c.in_ok-put_written.ensures)
