use Rattle.std.proofs.Common.{map, take}
use Rattle.std.specs.List.{fold}
use Rattle.cf_linear.specs.Arm.{back_item}
use Rattle.cf_linear.specs.Views.{back_of}
use Rattle.cf_choose.specs.ArmBuilders.{builder_of, SameBuilder, BackFits}
use Rattle.cf_choose.proofs.arm_builder.ArmBuilder.back.Given as goal

abbrev pub invariant-loop-one : goal.invariant-loop-one
invariant-loop-one l = record {
  made : SameBuilder (builder_of l.self) (fold back_item (builder_of l.initial.self) (map back_of (take l.one-index l.back)));
  fits : BackFits (map back_of (take l.one-index l.back));
}
