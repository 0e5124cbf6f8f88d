use Rattle.cf_linear.specs.Views.{guard_of}
use Rattle.cf_cases.specs.SystemBuilders.{IsFine}
use Rattle.cf_cases.proofs.AddLaws.{each-get, guard_next}
use Rattle.cf_cases.proofs.system_builder.add_guards.Goals as goal

pub add_guard-requires : goal.add_guard-requires
add_guard-requires c = rw c.guard-item.is (each-get IsFine guard_of c.args.guards.now c.loop-guard.guard-index c.guard-item.result c.requires
    c.loop-guard-test.true)

pub loop-guard-preserved : goal.loop-guard-preserved
loop-guard-preserved c = guard_next _ _ _ c.args.guards.now c.loop-guard.guard-index c.guard-item.result c.loop-guard-test.true c.guard-item.is
    c.loop-guard.invariant c.in_ok-add_guard.ensures
