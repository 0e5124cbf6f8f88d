use Rattle.std.proofs.Common.{◌≡◌, drop}
use Rattle.cf_program.specs.Names.{repeated}
use Rattle.cf_program.specs.Walk.{taken}
use Rattle.cf_type.specs.FormView.{context_of}
use Rattle.cf_type.proofs.names.repeated.Given as goal

abbrev pub invariant-loop-name : goal.invariant-loop-name
invariant-loop-name l = repeated l.before (drop l.name-index l.names) l.rest ≡ repeated (taken (context_of l.context)) l.names l.places
