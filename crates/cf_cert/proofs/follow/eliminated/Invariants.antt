use Rattle.cf_linear.specs.Views.{system_of}
use Rattle.cf_cert.proofs.WayLaws.{IsOnWay}
use Rattle.cf_cert.proofs.follow.eliminated.Given as goal

abbrev pub invariant-loop-i : goal.invariant-loop-i
invariant-loop-i l = IsOnWay (system_of l.fn.system) l.acts l.i l.step l.way
