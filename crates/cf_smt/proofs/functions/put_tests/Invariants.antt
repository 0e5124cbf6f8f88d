use Rattle.std.proofs.Common.{◌≡◌, ◌++◌, ◌-◌}
use Rattle.cf_smt.specs.Commands.{each}
use Rattle.cf_smt.specs.Goals.{test_text}
use Rattle.cf_smt.proofs.functions.put_tests.Given as goal

abbrev pub invariant-loop-k : goal.invariant-loop-k
invariant-loop-k l = l.out.items ++ each (test_text l.setting l.output) l.k (l.n - l.k) ≡ l.fn.out.items ++ each (test_text l.setting l.output) 0 l.n
