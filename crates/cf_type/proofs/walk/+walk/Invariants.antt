use Rattle.std.proofs.Common.{◌≡◌, drop}
use Rattle.cf_tree.specs.RawView.{raw_trees, raw_arm_trees}
use Rattle.cf_type.specs.FormView.{forms_of, arms_of, context_of}
use Rattle.cf_program.specs.Walk.{no_forms, no_arms, walk_all, walk_arms}
use Rattle.cf_type.proofs.walk.+walk.Given as goal

abbrev pub invariant-walk_all-loop-raw : goal.invariant-walk_all-loop-raw
invariant-walk_all-loop-raw l =
    (l.scope ≡ l.fn.scope)
    × (walk_all (context_of l.context) l.fn.scope (forms_of l.done) (raw_trees (drop l.raw-index l.raws))
    ≡ walk_all (context_of l.context) l.fn.scope (no_forms l.fn.next) (raw_trees l.raws))

abbrev pub invariant-walk_arms-loop-arm : goal.invariant-walk_arms-loop-arm
invariant-walk_arms-loop-arm l =
    (l.scope ≡ l.fn.scope)
    × (walk_arms (context_of l.context) l.fn.scope (arms_of l.done) (raw_arm_trees (drop l.arm-index l.arms))
    ≡ walk_arms (context_of l.context) l.fn.scope (no_arms l.fn.next) (raw_arm_trees l.arms))
