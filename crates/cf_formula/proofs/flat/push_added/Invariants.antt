use Rattle.std.proofs.Common.{◌≡◌, ◌++◌, length, pos, filter}
use Rattle.std.specs.Prelude.{int_lt}
use Rattle.cf_formula.proofs.flat.push_added.Given as goal

abbrev pub invariant-loop-part : goal.invariant-loop-part
invariant-loop-part l = l.out.items ++ filter (λ (k, s). int_lt (pos 0) k) l.rest ≡ l.initial.out.items ++ filter (λ (k, s). int_lt (pos 0) k) l.parts

abbrev pub decreases-loop-part : goal.decreases-loop-part
decreases-loop-part l = length l.rest
