use Rattle.std.proofs.Common.{◌≡◌, ◌++◌, map, drop}
use Rattle.std.specs.Prelude.{decimal}
use Rattle.cf_emit.specs.Printed.{more_texts}
use Rattle.cf_emit.proofs.list.put_more_bounds.Given as goal

abbrev pub invariant-loop-bound : goal.invariant-loop-bound
invariant-loop-bound l = l.out.items ++ more_texts (map decimal (drop l.bound-index l.bounds)) ≡ l.fn.out.items ++ more_texts (map decimal l.bounds)
