use Rattle.std.proofs.Common.{◌≡◌, map, take}
use Rattle.cf_linear.specs.Views.{guard_of}
use Rattle.cf_cases.specs.SystemBuilders.{rows_of, with_guards}
use Rattle.cf_cases.proofs.system_builder.add_guards.Given as goal

abbrev pub invariant-loop-guard : goal.invariant-loop-guard
invariant-loop-guard l = rows_of l.builder ≡ with_guards (rows_of l.fn.builder) (map guard_of (take l.guard-index l.guards))
