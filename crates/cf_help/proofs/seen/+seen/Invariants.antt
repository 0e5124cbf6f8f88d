use Rattle.std.proofs.Common.{◌≡◌, drop}
use Rattle.cf_tree.specs.RawView.{raw_trees, raw_arm_trees}
use Rattle.cf_help.specs.AskedView.{look_of, found_seen}
use Rattle.cf_help.specs.Rows.{or_else}
use Rattle.cf_help.specs.ScopeView.{around_of, bindings_seen}
use Rattle.cf_help.specs.Spots.{first_among, first_arm}
use Rattle.cf_help.proofs.seen.+seen.Given as goal

abbrev pub invariant-first_among-loop-raw : goal.invariant-first_among-loop-raw
invariant-first_among-loop-raw l =
    or_else (found_seen l.found) (first_among (look_of l.asked) (around_of l.asked.around) (bindings_seen l.outs) (bindings_seen l.variables)
    (raw_trees (drop l.raw-index l.raws)))
    ≡ or_else (found_seen l.fn.found) (first_among (look_of l.asked) (around_of l.asked.around) (bindings_seen l.outs) (bindings_seen l.variables)
    (raw_trees l.raws))

abbrev pub invariant-first_arm-loop-arm : goal.invariant-first_arm-loop-arm
invariant-first_arm-loop-arm l =
    or_else (found_seen l.found) (first_arm (look_of l.asked) (around_of l.asked.around) (bindings_seen l.outs) (bindings_seen l.variables)
    (raw_arm_trees (drop l.arm-index l.arms)))
    ≡ or_else (found_seen l.fn.found) (first_arm (look_of l.asked) (around_of l.asked.around) (bindings_seen l.outs) (bindings_seen l.variables)
    (raw_arm_trees l.arms))
