use Rattle.std.proofs.Common.{◌≡◌, ◌∷◌, [], ap, map, rules}
use Rattle.std.proofs.lemmas.List.{nil_from_length}
use Rattle.cf_advice.specs.OrView.{or_tree}
use Rattle.cf_form.specs.ToldView.{told_branch}
use Rattle.cf_answer.specs.Checking.{asked_view}
use Rattle.cf_answer.specs.Checks.{AreOrLines}
use Rattle.cf_answer.proofs.BesideLemmas.{ors_end, ors_on, said_start}
use Rattle.cf_answer.proofs.ors.or_lines.Goals as goal

pub loop-first-init : goal.loop-first-init
loop-first-init c =
    let empty : c.new-lines.result.items ≡ [] = search rules in
    said_start (AreOrLines (asked_view c.args.asked.now) (map told_branch c.args.branches.now) c.args.number (map or_tree c.args.ors.now)) _ empty

pub loop-first-preserved : goal.loop-first-preserved
loop-first-preserved c =
    let asked = asked_view c.args.asked.now in
    let branches = map told_branch c.args.branches.now in
    let opened : c.loop-first.rest.now ≡ c.in-Some.first.now ∷ c.in-Some.more.now = search rules in
    let own = rw c.deref.ensures.value at c.in_ok-own.ensures in
    let text = rw c.deref-in-Some.ensures.value at c.in_ok-extend_from_slice.ensures.items in
    ors_on asked branches c.args.number (map or_tree c.loop-first.rest.now) (or_tree c.in-Some.first.now) (map or_tree c.in-Some.more.now) _
    c.in_ok-own.own.items _ (AreOrLines asked branches c.args.number (map or_tree c.args.ors.now)) (ap (map or_tree) opened) own text
    c.loop-first.invariant

pub returns : goal.returns
returns c =
    let asked = asked_view c.args.asked.now in
    let branches = map told_branch c.args.branches.now in
    let ended : c.loop-first.rest.now ≡ [] = nil_from_length c.loop-first.rest.now (search rules) in
    ors_end asked branches c.args.number (map or_tree c.loop-first.rest.now) c.loop-first.lines.items
    (AreOrLines asked branches c.args.number (map or_tree c.args.ors.now)) (ap (map or_tree) ended) c.loop-first.invariant
