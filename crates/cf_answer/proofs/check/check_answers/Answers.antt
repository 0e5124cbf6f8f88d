use Rattle.std.proofs.Common.{map}
use Rattle.cf_form.specs.ToldView.{told_branch}
use Rattle.cf_answer.specs.Checking.{asked_view}
use Rattle.cf_answer.specs.FrontView.{notes_view}
use Rattle.cf_answer.proofs.BesideLemmas.{asked_lines}
use Rattle.cf_answer.proofs.check.check_answers.Goals as goal

pub returns : goal.returns
returns c =
    rw (c.unmet_existence.ensures, c.unmet_uniqueness.ensures)
    (asked_lines c.args.choose.now (asked_view c.args.asked.now) (map told_branch c.args.branches.now) (notes_view c.args.notes.now) _ _ _ _ c.args.exists.now
    c.in_ok-unique.unique c.requires.exists c.in_ok-unique.ensures c.in_ok-put_existence_line.ensures c.in_ok-put_uniqueness_line.ensures
    c.in_ok-put_beside.ensures)
