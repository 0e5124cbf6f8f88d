use Rattle.std.proofs.Common.{◌≡◌, ◌++◌, length, map, neg_ℤ}
use Rattle.cf_formula.proofs.flat.turned_all.Given as goal

abbrev pub invariant-loop-part : goal.invariant-loop-part
invariant-loop-part l = l.out.items ++ map (λ (k, s). (neg_ℤ k, s)) l.rest ≡ map (λ (k, s). (neg_ℤ k, s)) l.parts

abbrev pub decreases-loop-part : goal.decreases-loop-part
decreases-loop-part l = length l.rest
