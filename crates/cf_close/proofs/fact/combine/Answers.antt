use Rattle.std.proofs.Common.{◌≡◌, subst}
use Rattle.std.specs.Int.{w128}
use Rattle.std.proofs.lemmas.Int.{to_z-of_z}
use Rattle.cf_linear.specs.Rows.{comb}
use Rattle.cf_close.specs.Facts.{MayTake}
use Rattle.cf_close.proofs.FactLemmas.{combined}
use Rattle.cf_close.proofs.fact.combine.Goals as goal

pub returns-in-Ok : goal.returns-in-Ok
returns-in-Ok c =
    let i = to_z-of_z w128 c.args.a c.ranges.a in
    let j = to_z-of_z w128 c.args.b c.ranges.b in
    let m = subst (λ z. MayTake z c.args.x.now.kind) i (c.may_take.ensures c.if-not-may_take.false) in
    let n = subst (λ z. MayTake z c.args.y.now.kind) j (c.may_take-else-not-may_take.ensures c.if-not-may_take-2.false) in
    let e : c.in-Ok.row ≡ comb c.args.a c.args.x.now.row c.args.b c.args.y.now.row = rw (i, j) at c.in-Ok.ensures.value in
    λ v h k. rw (c.fact_of.ensures, c.and.ensures, e)
    (combined v c.args.a c.args.x.now.row c.args.b c.args.y.now.row c.args.x.now.kind c.args.y.now.kind m n h k)
