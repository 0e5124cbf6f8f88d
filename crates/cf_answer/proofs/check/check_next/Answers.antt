use Rattle.std.proofs.Common.{◌∙◌, map, sym}
use Rattle.std.proofs.lemmas.Result.{IfOk-weaker}
use Rattle.cf_form.specs.ToldView.{told_choose}
use Rattle.cf_match.specs.Matches.{match_tree}
use Rattle.cf_answer.specs.FrontView.{file_view}
use Rattle.cf_answer.proofs.CheckLemmas.{first_checked, later_checked}
use Rattle.cf_answer.proofs.check.check_next.Goals as goal

pub returns-then-is_later_branch : goal.returns-then-is_later_branch
returns-then-is_later_branch c =
    let matches = c.args.matches.now in
    rw c.nothing_answered.ensures
    (later_checked (file_view matches.file) (map match_tree matches.infos.now) (map told_choose c.args.told.now) c.args.choose.now _ c.args.before
    (sym c.is_later_branch.ensures ∙ c.if-is_later_branch.true))

pub returns : goal.returns
returns c =
    let matches = c.args.matches.now in
    IfOk-weaker c.check_number.result _ _
    (λ a h. first_checked (file_view matches.file) (map match_tree matches.infos.now) (map told_choose c.args.told.now) c.args.choose.now _ c.args.before _ a
    (sym c.is_later_branch.ensures ∙ c.if-is_later_branch.false) h) c.check_number.ensures
