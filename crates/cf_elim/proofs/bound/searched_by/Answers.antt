use Rattle.std.proofs.Common.{refl, arith, ◌≤◌, ◌<◌}
use Rattle.cf_linear.specs.Views.{system_of}
use Rattle.cf_bounds.specs.Picking.{pick_of}
use Rattle.cf_elim.proofs.BoundLaws.{plain_searched, real_searched}
use Rattle.cf_elim.proofs.bound.searched_by.Goals as goal

pub returns-then-pick-le1 : goal.returns-then-pick-le1
returns-then-pick-le1 c =
    let r = c.requires in
    let l : c.args.pick.now.product ≤ 1 = omega (arith, c.if-pick-le1.true) in
    plain_searched (system_of c.args.system) (pick_of c.args.pick.now) (record { system = c.args.system; bounds = c.new.result }) r.ready r.none r.unknown l
    (r.exact l) refl c.new.ensures.items

pub returns : goal.returns
returns c =
    let r = c.requires in
    let e = c.remainder_step.ensures in
    let l : 1 < c.args.pick.now.product = omega (arith, c.if-pick-le1.false) in
    real_searched (system_of c.args.system) (pick_of c.args.pick.now) c.remainder_step.result r.ready r.none r.unknown l e.next e.owes e.formed e.exact e.free
