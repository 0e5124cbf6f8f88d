use Rattle.std.proofs.Common.{◌≡◌, ◌+◌, max, arith}
use Rattle.cf_tree.specs.ExprView.{match_arm_tree}
use Rattle.cf_tree.specs.RelSize.{capped}
use Rattle.cf_program.specs.Counted.{test_depth}
use Rattle.cf_program.proofs.CountedLaws.{tests_depth_next}
use Rattle.cf_program.proofs.size.tests_depth.Goals as goal

pub loop-arm-preserved : goal.loop-arm-preserved
loop-arm-preserved c =
    let r : c.saturating_add-depth.result ≡ capped (1 + max c.loop-arm.depth (test_depth (match_arm_tree c.arm-item.result))) = omega arith in (
      omega arith,
      tests_depth_next c.args.arms.now c.loop-arm.arm-index c.arm-item.result c.loop-arm.depth c.saturating_add-depth.result _ c.loop-arm-test.true
          c.arm-item.is r c.loop-arm.invariant.1,
    )
