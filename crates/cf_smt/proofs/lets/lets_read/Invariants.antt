use Rattle.std.proofs.Common.{◌≡◌, drop, map}
use Rattle.std.specs.List.{list_any}
use Rattle.cf_smt.specs.BoundView.{plain_bound}
use Rattle.cf_smt.specs.Reads.{reads}
use Rattle.cf_smt.proofs.lets.lets_read.Given as goal

abbrev pub invariant-loop-bound : goal.invariant-loop-bound
invariant-loop-bound l = list_any (λ b. reads l.level b.value) (map plain_bound (drop l.bound-index l.lets)) ≡ list_any (λ b. reads l.level b.value)
    (map plain_bound l.lets)
