use Rattle.std.proofs.Common.{sym, arith, pos, ◌+ℤ◌, ◌<ℤ◌, ◌≤ℤ◌, length, to_z, of_z}
use Rattle.std.specs.Prelude.{FitsSigned}
use Rattle.std.specs.Int.{w128}
use Rattle.std.proofs.lemmas.Int.{ints, to_z-of_z}
use Rattle.cf_tree.specs.Numbers.{count_of}
use Rattle.cf_set.proofs.FreshLemmas.{picking_avoid, picking_take, picking_bound, picking_done, within_fresh}
use Rattle.cf_set.proofs.lists.fresh.Goals as goal

pub overflow_add-next : goal.overflow_add-next
overflow_add-next c =
    let i = c.loop-rest.invariant in
    let bound = picking_bound _ _ _ _ _ c.requires.rises i in
    let low = i.low in
    let size = i.size in
    let room = c.in_ok-out.ensures.size in
    omega (arith, ints)

pub overflow_add-next-in-Greater : goal.overflow_add-next-in-Greater
overflow_add-next-in-Greater c =
    let i = c.loop-rest.invariant in
    let bound = picking_bound _ _ _ _ _ c.requires.rises i in
    let low = i.low in
    let size = i.size in
    let room = c.in_ok-out.ensures.size in
    omega (arith, ints)

pub loop-rest-preserved-in-Equal : goal.loop-rest-preserved-in-Equal
loop-rest-preserved-in-Equal c =
    let i = c.loop-rest.invariant in
    let bound = picking_bound _ _ _ _ _ c.requires.rises i in
    let low = i.low in
    let size = i.size in
    let room = c.in_ok-out.ensures.size in
    let fits : FitsSigned w128 (to_z w128 c.loop-rest.next-bits +ℤ pos 1) = omega (arith, ints) in
    rw (c.without_first-rest-in-Equal.ensures, to_z-of_z w128 (to_z w128 c.loop-rest.next-bits +ℤ pos 1) fits)
    (picking_avoid _ _ _ _ _ i (sym c.in-Equal.ensures))

pub loop-rest-preserved : goal.loop-rest-preserved
loop-rest-preserved c =
    let i = c.loop-rest.invariant in
    let bound = picking_bound _ _ _ _ _ c.requires.rises i in
    let low = i.low in
    let size = i.size in
    let room = c.in_ok-out.ensures.size in
    let fits : FitsSigned w128 (to_z w128 c.loop-rest.next-bits +ℤ pos 1) = omega (arith, ints) in
    let less : pos (length c.loop-rest.out.items) <ℤ to_z w128 (of_z w128 c.args.n) = omega (arith, ints) in
    rw (to_z-of_z w128 (to_z w128 c.loop-rest.next-bits +ℤ pos 1) fits, c.in_ok-push-in-Greater.ensures.items)
    (picking_take _ _ _ _ _ i (sym c.in-Greater.ensures) less)

pub returns-clause-value : goal.returns-clause-value
returns-clause-value c =
    let i = c.loop-rest.invariant in
    let done : to_z w128 (of_z w128 c.args.n) ≤ℤ pos (length c.loop-rest.out.items) = omega (arith, ints) in
    rw (to_z-of_z w128 c.args.n c.ranges.n) at (picking_done _ _ _ _ _ c.requires.rises i done)

pub returns-clause-fits : goal.returns-clause-fits
returns-clause-fits c =
    let i = c.loop-rest.invariant in
    let done : to_z w128 (of_z w128 c.args.n) ≤ℤ pos (length c.loop-rest.out.items) = omega (arith, ints) in
    let room = c.in_ok-out.ensures.size in
    rw (picking_done _ _ _ _ _ c.requires.rises i done) (within_fresh c.args.avoid.now (count_of (to_z w128 (of_z w128 c.args.n))) (omega arith))
