use Rattle.std.proofs.Common.{◌≡◌, ◌++◌, map, take}
use Rattle.cf_linear.specs.Arm.{negated}
use Rattle.cf_formula.proofs.simplifying.push_negated.Given as goal

abbrev pub invariant-loop-row : goal.invariant-loop-row
invariant-loop-row l = l.out.items ≡ l.initial.out.items ++ map negated (take l.row-index l.rows)
