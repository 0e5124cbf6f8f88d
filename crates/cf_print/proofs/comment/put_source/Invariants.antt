use Rattle.std.proofs.Common.{◌≡◌, ◌++◌, None, drop}
use Rattle.cf_print.specs.Sources.{source_lines}
use Rattle.cf_print.proofs.comment.put_source.Given as goal

abbrev pub invariant-loop-byte : goal.invariant-loop-byte
invariant-loop-byte l = l.out.items ++ source_lines l.language l.last (drop l.byte-index l.source) ≡ l.fn.out.items ++ source_lines l.language None l.source
