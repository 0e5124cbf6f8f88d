use Rattle.std.proofs.Common.{◌≡◌, ◌∷◌, [], ap, map, rules}
use Rattle.std.proofs.lemmas.List.{nil_from_length}
use Rattle.cf_advice.specs.OrView.{branch_path}
use Rattle.cf_form.specs.ToldView.{told_branch}
use Rattle.cf_answer.specs.Checking.{asked_view}
use Rattle.cf_answer.specs.Checks.{AreBranchLines, branch_line}
use Rattle.cf_answer.specs.Tells.{TellsNeverHolds}
use Rattle.cf_answer.proofs.BesideLemmas.{said_end, said_on, said_start}
use Rattle.cf_answer.proofs.ors.branch_lines.Goals as goal

pub loop-side-init : goal.loop-side-init
loop-side-init c =
    let empty : c.new-lines.result.items ≡ [] = search rules in
    said_start (AreBranchLines (asked_view c.args.asked.now) (map told_branch c.args.branches.now) c.args.number
    (record { place = c.args.place; branches = map branch_path c.args.sides.now })) _ empty

pub loop-side-preserved : goal.loop-side-preserved
loop-side-preserved c =
    let asked = asked_view c.args.asked.now in
    let branches = map told_branch c.args.branches.now in
    let opened : c.loop-side.rest.now ≡ c.in-Some.side.now ∷ c.in-Some.more.now = search rules in
    rw c.in_ok-index.ensures
    (said_on (λ k path. TellsNeverHolds asked branches path) (λ k path. branch_line c.args.number c.args.place k) c.loop-side.index
    (map branch_path c.loop-side.rest.now) (branch_path c.in-Some.side.now) (map branch_path c.in-Some.more.now) c.in_ok-told.told _ _
    (AreBranchLines asked branches c.args.number (record { place = c.args.place; branches = map branch_path c.args.sides.now }))
    (ap (map branch_path) opened) c.in_ok-told.ensures c.in_ok-put_branch.ensures c.loop-side.invariant)

pub returns : goal.returns
returns c =
    let asked = asked_view c.args.asked.now in
    let branches = map told_branch c.args.branches.now in
    let ended : c.loop-side.rest.now ≡ [] = nil_from_length c.loop-side.rest.now (search rules) in
    said_end (λ k path. TellsNeverHolds asked branches path) (λ k path. branch_line c.args.number c.args.place k) c.loop-side.index
    (map branch_path c.loop-side.rest.now) c.loop-side.lines.items
    (AreBranchLines asked branches c.args.number (record { place = c.args.place; branches = map branch_path c.args.sides.now }))
    (ap (map branch_path) ended) c.loop-side.invariant
