use Rattle.std.proofs.Common.{◌≡◌, ◌++◌, map, drop}
use Rattle.cf_tree.specs.RawView.{raw_trees, raw_arm_trees}
use Rattle.cf_help.specs.Numbers.{all_numbered, arms_numbered}
use Rattle.cf_help.proofs.numbers.+numbered.Given as goal

abbrev pub invariant-put_all-loop-raw : goal.invariant-put_all-loop-raw
invariant-put_all-loop-raw l =
    l.out.items ++ all_numbered (map (λ n. n.now) l.constants) (raw_trees (drop l.raw-index l.raws))
    ≡ l.fn.out.items ++ all_numbered (map (λ n. n.now) l.constants) (raw_trees l.raws)

abbrev pub invariant-put_arms-loop-arm : goal.invariant-put_arms-loop-arm
invariant-put_arms-loop-arm l =
    l.out.items ++ arms_numbered (map (λ n. n.now) l.constants) (raw_arm_trees (drop l.arm-index l.arms))
    ≡ l.fn.out.items ++ arms_numbered (map (λ n. n.now) l.constants) (raw_arm_trees l.arms)
