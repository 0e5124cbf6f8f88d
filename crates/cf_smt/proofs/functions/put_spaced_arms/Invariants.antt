use Rattle.std.proofs.Common.{◌≡◌, ◌++◌, ◌-◌}
use Rattle.cf_smt.specs.Commands.{each}
use Rattle.cf_smt.specs.Goals.{spaced_arm}
use Rattle.cf_smt.proofs.functions.put_spaced_arms.Given as goal

abbrev pub invariant-loop-k : goal.invariant-loop-k
invariant-loop-k l = l.out.items ++ each (spaced_arm l.setting) l.k (l.n - l.k) ≡ l.fn.out.items ++ each (spaced_arm l.setting) 0 l.n
