use Rattle.std.proofs.Common.{◌≡◌, ◌++◌, take}
use Rattle.cf_cases.specs.SystemBuilders.{column_rows}
use Rattle.cf_cases.proofs.system_builder.add_columns.Given as goal

abbrev pub invariant-loop-i : goal.invariant-loop-i
invariant-loop-i l = l.rows.items ≡ l.fn.rows.items ++ column_rows (take l.i l.row)
