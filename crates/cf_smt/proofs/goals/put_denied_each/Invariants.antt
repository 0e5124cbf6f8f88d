use Rattle.std.proofs.Common.{◌≡◌, ◌++◌, ◌-◌}
use Rattle.cf_smt.specs.Commands.{each}
use Rattle.cf_smt.specs.Goals.{denied_at}
use Rattle.cf_smt.proofs.goals.put_denied_each.Given as goal

abbrev pub invariant-loop-i : goal.invariant-loop-i
invariant-loop-i l = l.out.items ++ each (denied_at l.setting l.name l.bounds) l.i (l.n - l.i) ≡ l.fn.out.items ++ each (denied_at l.setting l.name l.bounds) 0
    l.n
