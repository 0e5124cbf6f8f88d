use Rattle.cf_choose.proofs.DoneLemmas.{free_fits, regions_fit, outputs_fit, arm_for}
use Rattle.cf_choose.proofs.cases.case_arm.Goals as goal

pub arm-requires-clause-room : goal.arm-requires-clause-room
arm-requires-clause-room c = free_fits c.args.layout.now c.args.case.now c.requires.few (c.has_room.ensures c.if-not-has_room.false)

pub arm-requires-clause-levels : goal.arm-requires-clause-levels
arm-requires-clause-levels c = rw (c.bounds.ensures.value) (regions_fit c.args.layout.now c.args.case.now c.requires.few
    (c.has_room.ensures c.if-not-has_room.false))

pub arm-requires-clause-last : goal.arm-requires-clause-last
arm-requires-clause-last c = outputs_fit c.args.layout.now c.args.case.now c.requires.few (c.has_room.ensures c.if-not-has_room.false)

pub returns : goal.returns
returns c =
    arm_for c.args.layout.now c.args.case.now c.in_ok-arm.field-0 c.requires.few c.back.ensures.solved (c.has_room.ensures c.if-not-has_room.false)
    (rw c.steps.ensures.value at c.in_ok-arm.ensures.steps)
    (rw c.back.ensures.value at c.in_ok-arm.ensures.back) (rw (c.bounds.ensures.value, c.steps.ensures.value, c.back.ensures.value) at c.in_ok-arm.ensures.tree)
