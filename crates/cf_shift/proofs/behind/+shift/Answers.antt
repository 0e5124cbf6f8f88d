use Rattle.std.proofs.Common.{arith}
use Rattle.cf_shift.proofs.ShiftLists.{codes_have_levels, items_have_levels, arms_have_levels, codes_at_end, items_at_end, arms_at_end}
use Rattle.cf_shift.proofs.behind.+shift.Goals as goal

pub shift_all-returns : goal.shift_all-returns
shift_all-returns t c = (
  codes_at_end c.args.by c.args.codes.now c.loop-code.all.items c.loop-code.code-index (omega (arith, c.loop-code-test.false)) c.loop-code.invariant.0,
  codes_have_levels c.loop-code.all.items c.loop-code.invariant.1,
)

pub shift_items-returns : goal.shift_items-returns
shift_items-returns t c = (
  items_at_end c.args.by c.args.items.now c.loop-item.all.items c.loop-item.item-index (omega (arith, c.loop-item-test.false)) c.loop-item.invariant.0,
  items_have_levels c.loop-item.all.items c.loop-item.invariant.1,
)

pub shift_arms-returns : goal.shift_arms-returns
shift_arms-returns t c = (
  arms_at_end c.args.by c.args.arms.now c.loop-arm.all.items c.loop-arm.arm-index (omega (arith, c.loop-arm-test.false)) c.loop-arm.invariant.0,
  arms_have_levels c.loop-arm.all.items c.loop-arm.invariant.1,
)
