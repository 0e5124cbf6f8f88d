use Rattle.std.proofs.Common.{◌≡◌, ◌++◌, take}
use Rattle.cf_formula.proofs.simplifying.push_copies.Given as goal

abbrev pub invariant-loop-row : goal.invariant-loop-row
invariant-loop-row l = l.out.items ≡ l.initial.out.items ++ take l.row-index l.rows
