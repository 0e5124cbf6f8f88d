use Rattle.std.proofs.Common.{◌≡◌, ◌++◌}
use Rattle.std.specs.List.{flat_map, range_with_len}
use Rattle.cf_gen.specs.Workload.{function_line, seed}
use Rattle.cf_gen.proofs.source_text.put_functions.Given as goal

abbrev pub invariant-loop-i : goal.invariant-loop-i
invariant-loop-i l = record {
  seed : l.seed ≡ seed l.n l.i;
  written : l.out.items ≡ l.fn.out.items ++ flat_map (function_line l.n) (range_with_len 1 l.i);
}
