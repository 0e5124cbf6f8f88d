use Rattle.std.proofs.Common.{◌≡◌}
use Rattle.cf_formula.specs.ConditionsView.{conditions_of}
use Rattle.cf_formula.specs.Simplifying.{simplified_within}
use Rattle.cf_formula.proofs.conditions.Conditions.simplified_within.Given as goal

abbrev pub invariant-loop-left : goal.invariant-loop-left
invariant-loop-left l = simplified_within l.left l.facts (conditions_of l.conditions) ≡ simplified_within l.fn.rounds l.facts (conditions_of l.fn.self)

abbrev pub decreases-loop-left : goal.decreases-loop-left
decreases-loop-left l = l.left
