use Rattle.std.proofs.Common.{◌≡◌, ◌+◌, ◌-◌, ◌++◌}
use Rattle.cf_emit.specs.Printed.{more_variables}
use Rattle.cf_emit.proofs.word.put_more_variables.Given as goal

abbrev pub invariant-loop-i : goal.invariant-loop-i
invariant-loop-i l = l.out.items ++ more_variables (l.first + l.i) (l.count - l.i) ≡ l.fn.out.items ++ more_variables l.first l.count
