use Rattle.std.proofs.Common.{◌≡◌}
use Rattle.cf_gen.specs.Workload.{seed}
use Rattle.cf_gen.proofs.input_lines.last_seed.Given as goal

abbrev pub invariant-loop-i : goal.invariant-loop-i
invariant-loop-i l = l.seed ≡ seed l.n l._i
