use Rattle.std.proofs.Common.{◌≡◌, ◌+◌, ◌++◌, map}
use Rattle.std.specs.List.{flat_map, range_with_len}
use Rattle.cf_gen.specs.Workload.{input, input_line, seed}
use Rattle.cf_gen.proofs.input_lines.put_lines.Given as goal

abbrev pub invariant-loop-i : goal.invariant-loop-i
invariant-loop-i l = record {
  seed : l.seed ≡ seed l.n (l.n + l.i);
  written : l.out.items ≡ l.fn.out.items ++ flat_map input_line (map (input l.n) (range_with_len 1 l.i));
}
