use Rattle.std.proofs.Common.{◌-◌}
use Rattle.std.specs.List.{fold, range_with_len}
use Rattle.cf_linear.specs.Arm.{let_region}
use Rattle.cf_linear.specs.Views.{plain_layout}
use Rattle.cf_choose.specs.ArmBuilders.{builder_of, SameBuilder}
use Rattle.cf_choose.proofs.arm_builder.ArmBuilder.regions.Given as goal

abbrev pub invariant-loop-mask : goal.invariant-loop-mask
invariant-loop-mask l = SameBuilder (builder_of l.self) (fold (let_region (plain_layout l.layout)) (builder_of l.initial.self) (range_with_len 1 (l.mask - 1)))
