use Rattle.std.proofs.Common.{◌≡◌, ◌+◌, ◌++◌, drop}
use Rattle.cf_linear.specs.Layout.{is_set, levels_with}
use Rattle.cf_choose.proofs.levels.sets.Given as goal

abbrev pub invariant-loop-i : goal.invariant-loop-i
invariant-loop-i l = l.levels.items ++ levels_with is_set (l.first + l.i) (drop l.i l.bases) ≡ levels_with is_set l.first l.bases
