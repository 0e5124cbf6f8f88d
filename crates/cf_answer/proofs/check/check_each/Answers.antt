use Rattle.std.proofs.Common.{arith, rules, ◌≡◌, [], get_or, map}
use Rattle.cf_form.specs.ToldView.{told_choose}
use Rattle.cf_match.specs.Matches.{match_tree}
use Rattle.cf_answer.specs.FrontView.{file_view}
use Rattle.cf_answer.proofs.CheckLemmas.{walk_start, walk_on, walk_end}
use Rattle.cf_answer.proofs.check.check_each.Goals as goal

pub loop-choose-init : goal.loop-choose-init
loop-choose-init c =
    let matches = c.args.matches.now in
    let empty : c.new-text.result.items ≡ [] = search rules in
    λ qs s conditions.
    walk_start (file_view matches.file) (map match_tree matches.infos.now) (map told_choose c.args.told.now) qs c.args.chooses.now _ _ empty
    c.nothing_answered-answered.ensures s

pub loop-choose-preserved : goal.loop-choose-preserved
loop-choose-preserved c =
    let matches = c.args.matches.now in
    let item : c.choose-item.result ≡ get_or c.args.chooses.now c.loop-choose.choose-index c.choose-item.result = search rules in
    λ qs s conditions. rw c.in_ok-answered.ensures
    (walk_on (file_view matches.file) (map match_tree matches.infos.now) (map told_choose c.args.told.now) qs c.args.chooses.now c.loop-choose.choose-index
    c.loop-choose.before c.choose-item.result _ _ c.loop-choose.answered c.in_ok-more.more (omega arith) item
    (c.loop-choose.invariant qs s conditions) conditions c.in_ok-more.ensures)

pub returns : goal.returns
returns c =
    let matches = c.args.matches.now in
    λ qs s conditions.
    walk_end (file_view matches.file) (map match_tree matches.infos.now) (map told_choose c.args.told.now) qs c.args.chooses.now c.loop-choose.choose-index
    c.loop-choose.before _ _ (omega arith) (c.loop-choose.invariant qs s conditions)
