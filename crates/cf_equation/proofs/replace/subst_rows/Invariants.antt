use Rattle.std.proofs.Common.{◌≡◌, ◌++◌, length, reverse}
use Rattle.std.specs.List.{list_any}
use Rattle.cf_linear.specs.Rows.{subst_passes}
use Rattle.cf_linear.specs.Steps.{subst_all}
use Rattle.cf_equation.proofs.replace.subst_rows.Given as goal

abbrev pub invariant-loop-row : goal.invariant-loop-row
invariant-loop-row l = record {
  same : l.out.items ++ subst_all l.column l.value (reverse l.left.items) ≡ subst_all l.column l.value l.fn.rows.items;
  fine : list_any (subst_passes l.column l.value) (reverse l.left.items) ≡ list_any (subst_passes l.column l.value) l.fn.rows.items;
}

abbrev pub decreases-loop-row : goal.decreases-loop-row
decreases-loop-row l = length l.left.items
