use Rattle.std.proofs.Common.{map, take}
use Rattle.std.specs.List.{fold}
use Rattle.cf_linear.specs.Arm.{step_item}
use Rattle.cf_linear.specs.Views.{step_of}
use Rattle.cf_choose.specs.ArmBuilders.{builder_of, SameBuilder, StepsFit}
use Rattle.cf_choose.proofs.arm_builder.ArmBuilder.steps.Given as goal

abbrev pub invariant-loop-step : goal.invariant-loop-step
invariant-loop-step l = record {
  made : SameBuilder (builder_of l.self) (fold step_item (builder_of l.initial.self) (map step_of (take l.step-index l.steps)));
  fits : StepsFit (map step_of (take l.step-index l.steps));
}
