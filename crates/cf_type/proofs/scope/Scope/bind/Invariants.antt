use Rattle.std.proofs.Common.{◌≡◌, ◌++◌, drop}
use Rattle.cf_program.specs.Walk.{bound}
use Rattle.cf_type.proofs.scope.Scope.bind.Given as goal

abbrev pub invariant-loop-name : goal.invariant-loop-name
invariant-loop-name l =
    l.self ++ bound (drop l.name-index l.names) l.later_places l.later_bases ≡ l.initial.self ++ bound l.names l.fn.places l.fn.bases
