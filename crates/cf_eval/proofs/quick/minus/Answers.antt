use Rattle.std.proofs.Common.{◌≡◌, ◌-ℤ◌, ap₂, subst, sym, to_z, of_z, SFits}
use Rattle.std.specs.Int.{w128}
use Rattle.cf_num.specs.Limit.{within}
use Rattle.cf_eval.specs.Quick.{Finds}
use Rattle.cf_eval.specs.Reached.{met}
use Rattle.cf_eval.proofs.NarrowLemmas.{widened, difference_fits, difference_held}
use Rattle.cf_eval.proofs.quick.minus.Goals as goal

held : (c : goal.After-narrow) → to_z w128 (of_z w128 (to_z w128 (of_z w128 c.from.result) -ℤ to_z w128 (of_z w128 c.from-2.result))) ≡ c.args.x -ℤ c.args.y
held c =
    difference_held _ _ c.args.x c.args.y (widened c.from.result c.args.x (record { sfits = c.from.type_inv }) c.from.ensures c.ranges.x)
    (widened c.from-2.result c.args.y (record { sfits = c.from-2.type_inv }) c.from-2.ensures c.ranges.y) c.ranges.x c.ranges.y

pub returns : goal.returns
returns c = subst (λ v. Finds c.narrow.result (met (within v))) (held c) c.narrow.ensures

pub overflow_sub-from : goal.overflow_sub-from
overflow_sub-from c =
    let x = widened c.from.result c.args.x (record { sfits = c.from.type_inv }) c.from.ensures c.ranges.x in
    let y = widened c.from-2.result c.args.y (record { sfits = c.from-2.type_inv }) c.from-2.ensures c.ranges.y in
    subst (SFits w128) (sym (ap₂ (λ a b. a -ℤ b) x y)) (difference_fits c.args.x c.args.y c.ranges.x c.ranges.y)
