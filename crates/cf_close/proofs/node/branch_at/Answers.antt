use Rattle.std.proofs.Common.{◌∙◌}
use Rattle.std.proofs.lemmas.List.{get_or_default}
use Rattle.cf_close.proofs.node.branch_at.Goals as goal

pub returns-in-Some : goal.returns-in-Some
returns-in-Some c =
    let l = rw c.branches.ensures at c.in-Some.ensures.lookup.3.0 in
    let e = rw c.branches.ensures at c.in-Some.ensures.lookup.1 in
    (l, e ∙ get_or_default c.args.or.now c.args.branch c.in-Some.place.now 0 l)
