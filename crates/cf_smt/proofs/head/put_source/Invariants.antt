use Rattle.std.proofs.Common.{◌≡◌, ◌++◌, false, drop}
use Rattle.cf_smt.specs.Heads.{source_lines}
use Rattle.cf_smt.proofs.head.put_source.Given as goal

abbrev pub invariant-loop-byte : goal.invariant-loop-byte
invariant-loop-byte l = l.out.items ++ source_lines l.is_begun (drop l.byte-index l.source) ≡ l.fn.out.items ++ source_lines false l.source
