use Rattle.std.proofs.Common.{◌≡◌, ◌++◌, drop}
use Rattle.cf_emit.specs.Printed.{more_texts}
use Rattle.cf_emit.proofs.list.put_more_names.Given as goal

abbrev pub invariant-loop-name : goal.invariant-loop-name
invariant-loop-name l = l.out.items ++ more_texts (drop l.name-index l.names) ≡ l.fn.out.items ++ more_texts l.names
