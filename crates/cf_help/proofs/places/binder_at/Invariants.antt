use Rattle.std.proofs.Common.{◌≡◌, drop}
use Rattle.cf_help.specs.Faults.{binder_at}
use Rattle.cf_help.proofs.places.binder_at.Given as goal

abbrev pub invariant-loop-name : goal.invariant-loop-name
invariant-loop-name l = binder_at l.place l.rest (drop l.name-index l.names) ≡ binder_at l.place l.places l.names
