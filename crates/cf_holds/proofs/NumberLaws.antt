-- Numbers within the limit, and their absolute values.
use Rattle.std.proofs.Common.{◌≡◌, ◌≤ℤ◌, ◌<ℤ◌, ◌-◌, ◌^◌, ℤ, pos, negsuc, neg_ℤ, unsigned_abs, nat_le, Bool, true, false, Option, Some, None, Result, Ok, Err, IfOk, if◌then◌else◌, refl, sym, ◌∙◌, arith}
use Rattle.std.proofs.lemmas.Int.{ints}
use Rattle.cf_num.specs.Limit.{within}
use Rattle.cf_tree.specs.Numbers.{absolute}
use Rattle.cf_holds.specs.declared.fault.HoldFault.{HoldFault}

kept : (z k : ℤ) (fits : Bool) → (if fits then Some z else None) ≡ Some k → k ≡ z
kept z k true e = cc
kept z k false e = cc

-- a number that is met is the one that was computed
pub met_value : (z : ℤ) (n : Option ℤ) (r : Result ℤ HoldFault) → n ≡ within z → IfOk r (λ k. n ≡ Some k) → IfOk r (λ k. k ≡ z)
met_value z n (Ok k) e t = kept z k (nat_le (unsigned_abs z) (2 ^ 127 - 1)) (sym e ∙ t)
met_value z n (Err f) e t = tt

pub negative : (x : ℤ) → x <ℤ pos 0 → neg_ℤ x ≡ absolute x
negative (pos n) l = absurd (omega (arith, ints))
negative (negsuc n) l = refl

pub other : (x : ℤ) → pos 0 ≤ℤ x → x ≡ absolute x
other (pos n) l = refl
other (negsuc n) l = absurd (omega (arith, ints))
