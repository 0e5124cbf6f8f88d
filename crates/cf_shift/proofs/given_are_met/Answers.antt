use Rattle.cf_shift.proofs.MeetingLaws.{given_are_met}
use Rattle.cf_shift.proofs.given_are_met.Goals as goal

pub returns : goal.returns
returns c = given_are_met
