use Rattle.std.proofs.Common.{◌≡◌, ◌+◌, ◌++◌, drop}
use Rattle.cf_linear.specs.Layout.{is_number, levels_with}
use Rattle.cf_choose.proofs.levels.numbers.Given as goal

abbrev pub invariant-loop-i : goal.invariant-loop-i
invariant-loop-i l = l.levels.items ++ levels_with is_number (l.first + l.i) (drop l.i l.bases) ≡ levels_with is_number l.first l.bases
