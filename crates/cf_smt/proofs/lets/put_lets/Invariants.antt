use Rattle.std.proofs.Common.{◌≡◌, ◌++◌, drop, map}
use Rattle.cf_smt.specs.BoundView.{plain_bound}
use Rattle.cf_smt.specs.Lets.{lets_text}
use Rattle.cf_smt.proofs.lets.put_lets.Given as goal

abbrev pub invariant-loop-bound : goal.invariant-loop-bound
invariant-loop-bound l = l.out.items ++ lets_text l.names (map plain_bound (drop l.bound-index l.lets)) ≡ l.fn.out.items ++ lets_text l.names
    (map plain_bound l.lets)
