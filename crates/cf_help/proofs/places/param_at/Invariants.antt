use Rattle.std.proofs.Common.{◌≡◌, drop}
use Rattle.cf_help.specs.Faults.{param_at}
use Rattle.cf_help.proofs.places.param_at.Given as goal

abbrev pub invariant-loop-param : goal.invariant-loop-param
invariant-loop-param l = param_at l.place (drop l.param-index l.params) ≡ param_at l.place l.params
