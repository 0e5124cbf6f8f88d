use Rattle.std.proofs.Common.{◌≡◌, ◌++◌, map, drop}
use Rattle.cf_emit.specs.Printed.{base_text, more_texts}
use Rattle.cf_emit.proofs.list.put_more_bases.Given as goal

abbrev pub invariant-loop-base : goal.invariant-loop-base
invariant-loop-base l = l.out.items ++ more_texts (map base_text (drop l.base-index l.bases)) ≡ l.fn.out.items ++ more_texts (map base_text l.bases)
