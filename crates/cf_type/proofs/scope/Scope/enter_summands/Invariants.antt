use Rattle.std.proofs.Common.{◌≡◌, ◌++◌, map, drop}
use Rattle.cf_program.specs.Walk.{variables_of}
use Rattle.cf_type.specs.FormView.{summand_of}
use Rattle.cf_type.proofs.scope.Scope.enter_summands.Given as goal

abbrev pub invariant-loop-summand : goal.invariant-loop-summand
invariant-loop-summand l = l.self ++ variables_of (map summand_of (drop l.summand-index l.summands)) ≡ l.initial.self ++ variables_of (map summand_of l.summands)
