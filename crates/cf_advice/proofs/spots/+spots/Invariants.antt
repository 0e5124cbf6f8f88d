use Rattle.std.proofs.Common.{◌≡◌, ◌++◌, map, drop}
use Rattle.cf_tree.specs.RawView.{raw_arm_trees, raw_trees}
use Rattle.cf_advice.specs.Spots.{spots_among, spots_in_arms}
use Rattle.cf_advice.specs.SpotView.{spot_tree}
use Rattle.cf_advice.proofs.spots.+spots.Given as goal

abbrev pub invariant-put_all-loop-raw : goal.invariant-put_all-loop-raw
invariant-put_all-loop-raw l =
    map spot_tree l.out.items ++ spots_among (map (λ n. n.now) l.constants) (raw_trees (drop l.raw-index l.raws))
    ≡ map spot_tree l.fn.out.items ++ spots_among (map (λ n. n.now) l.constants) (raw_trees l.raws)

abbrev pub invariant-put_arms-loop-arm : goal.invariant-put_arms-loop-arm
invariant-put_arms-loop-arm l =
    map spot_tree l.out.items ++ spots_in_arms (map (λ n. n.now) l.constants) (raw_arm_trees (drop l.arm-index l.arms))
    ≡ map spot_tree l.fn.out.items ++ spots_in_arms (map (λ n. n.now) l.constants) (raw_arm_trees l.arms)
