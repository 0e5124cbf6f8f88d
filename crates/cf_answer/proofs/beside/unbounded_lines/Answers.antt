use Rattle.std.proofs.Common.{◌≡◌, ◌∷◌, [], map, rules}
use Rattle.std.proofs.lemmas.List.{nil_from_length}
use Rattle.cf_form.specs.ToldView.{told_branch}
use Rattle.cf_answer.specs.Checking.{asked_view}
use Rattle.cf_answer.specs.Checks.{AreUnboundedLines, unbounded_line}
use Rattle.cf_answer.specs.Tells.{TellsUnbounded}
use Rattle.cf_answer.proofs.BesideLemmas.{said_end, said_on, said_start}
use Rattle.cf_answer.proofs.beside.unbounded_lines.Goals as goal

pub loop-name-init : goal.loop-name-init
loop-name-init c =
    let empty : c.new-lines.result.items ≡ [] = search rules in
    said_start (AreUnboundedLines (asked_view c.args.asked.now) (map told_branch c.args.branches.now) c.args.number c.args.names.now) _ empty

pub loop-name-preserved : goal.loop-name-preserved
loop-name-preserved c =
    let asked = asked_view c.args.asked.now in
    let branches = map told_branch c.args.branches.now in
    let opened : c.loop-name.rest.now ≡ c.in-Some.name.now ∷ c.in-Some.more.now = search rules in
    rw c.in_ok-output.ensures
    (said_on (λ k name. TellsUnbounded asked branches k) (λ k name. unbounded_line c.args.number name) c.loop-name.output c.loop-name.rest.now
    c.in-Some.name.now c.in-Some.more.now c.is_unbounded.result _ _ (AreUnboundedLines asked branches c.args.number c.args.names.now) opened
    c.is_unbounded.ensures c.in_ok-put_unbounded.ensures c.loop-name.invariant)

pub returns : goal.returns
returns c =
    let asked = asked_view c.args.asked.now in
    let branches = map told_branch c.args.branches.now in
    let ended : c.loop-name.rest.now ≡ [] = nil_from_length c.loop-name.rest.now (search rules) in
    said_end (λ k name. TellsUnbounded asked branches k) (λ k name. unbounded_line c.args.number name) c.loop-name.output c.loop-name.rest.now
    c.loop-name.lines.items (AreUnboundedLines asked branches c.args.number c.args.names.now) ended c.loop-name.invariant
