-- Worked examples: when a step may lack memory.
use Rattle.std.proofs.Common.{◌≡◌, ◌≤◌, ◌^◌, refl, pos, [], ◌∷◌, Ok, Err, arith}
use Rattle.cf_num.specs.Divisors.{gcd_by}
use Rattle.cf_linear.specs.declared.refusal.LimitKind.TheVariants.{Rows, Columns, Search}
use Rattle.cf_linear.specs.declared.refusal.Refusal.TheVariants.{Past, Limit}
use Rattle.cf_linear.specs.Systems.{System, Answer}
use Rattle.cf_linear.specs.Stages.{Limits}
use Rattle.cf_linear.specs.Steps.{clean}
use Rattle.cf_elim.specs.declared.act.Act.TheVariants.{Clean}
use Rattle.cf_cert.specs.declared.next.ApplyFault.TheVariants.{Rejected, NoMemory}
use Rattle.cf_cert.specs.declared.verdict.Why.TheVariants.{Unknown, Factor, Single, Held, Exact, Refused}
use Rattle.cf_cert.specs.Applying.{Applied, apply}
use Rattle.cf_cert.specs.Stepping.{MayLackMemory, ApplyIs}

-- names, unknowns and pairs are looked at before memory is asked for
named : (MayLackMemory (Err Unknown) → ⊥) × (MayLackMemory (Err Factor) → ⊥) × (MayLackMemory (Err Single) → ⊥) × (MayLackMemory (Err Held) → ⊥)
    × (MayLackMemory (Err Exact) → ⊥)
named = ((λ h. h), (λ h. h), (λ h. h), (λ h. h), λ h. h)

-- and so are rows, columns and tuples, in 64 bits
counted : (MayLackMemory (Err (Refused (Limit Rows 1001))) → ⊥) × (MayLackMemory (Err (Refused (Limit Columns 18446744073709551615))) → ⊥)
    × (MayLackMemory (Err (Refused (Limit Search 18446744073709551615))) → ⊥)
counted = ((λ h. omega (arith, h)), (λ h. omega (arith, h)), λ h. omega (arith, h))

more_bits : MayLackMemory (Err (Refused (Limit Rows 18446744073709551616)))
more_bits = omega arith

-- the numbers of a row are met while it is made
numbers : MayLackMemory (Err (Refused Past))
numbers = tt

made : (a : Answer) → MayLackMemory (Ok a)
made a = tt

-- ---- what a step answers
abbrev long : Applied
long = Err (Refused (Limit Rows 1001))

-- a count past its limit is told, and is no want of memory
told : ApplyIs long (Err (Rejected (Refused (Limit Rows 1001))))
told = refl

told_alone : ApplyIs long (Err NoMemory) → ⊥
told_alone h = omega (arith, h)

-- so too of a Clean
abbrev small : Limits
small = record { search = 1; rows = 1; columns = 3 }

-- c1 is known, c2 is not, and c1 + 2 * c2 >= 0 gets a column
abbrev untidy : System
untidy = record {
  known = 0 ∷ 1 ∷ [];
  unknown = 2 ∷ [];
  next = 3;
  equations = [];
  inequalities = ((1, pos 1) ∷ (2, pos 2) ∷ []) ∷ [];
  needs = 0;
}

clean_told : ApplyIs (apply small 1 untidy Clean) (Err (Rejected (Refused (Limit Columns 4))))
unfolding apply clean gcd_by
clean_told = refl

clean_told_alone : ApplyIs (apply small 1 untidy Clean) (Err NoMemory) → ⊥
unfolding apply clean gcd_by
clean_told_alone h = let l : 2 ^ 64 ≤ 4 = h in omega (arith, l)

clean_lacks : ApplyIs (apply (record { search = 1; rows = 1; columns = 4 }) 1 untidy Clean) (Err NoMemory)
unfolding apply clean gcd_by
clean_lacks = tt
