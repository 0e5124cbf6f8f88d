use Rattle.std.proofs.Common.{refl, inl}
use Rattle.cf_answer.specs.Refusals.{odd_byte, large_number}
use Rattle.cf_answer.specs.declared.fault.StepsFault.TheVariants as steps_fault
use Rattle.cf_answer.proofs.steps.lexed_steps.Goals as goal

pub returns-in-Err-BadByte-clause-fault : goal.returns-in-Err-BadByte-clause-fault
returns-in-Err-BadByte-clause-fault c =
    let told = rw c.in-Err-BadByte.field-0-is at c.in-Err-BadByte.ensures.answer in
    λ edition short. inl (steps_fault.BadByte c.in-Err-BadByte.place, refl, odd_byte told.0 c.in-Err-BadByte.place (short, told.1))

pub returns-in-Err-NumberPast-clause-fault : goal.returns-in-Err-NumberPast-clause-fault
returns-in-Err-NumberPast-clause-fault c =
    let told = rw c.in-Err-NumberPast.field-0-is at c.in-Err-NumberPast.ensures.answer in
    λ edition short. inl (steps_fault.NumberPast c.in-Err-NumberPast.place, refl, large_number told.0 c.in-Err-NumberPast.place (short, told.1))
