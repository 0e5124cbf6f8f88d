-- Worked examples: rows and columns against their limits, and when memory may be wanting there.
use Rattle.std.proofs.Common.{◌≡◌, refl, None, Some, Ok, Err, arith}
use Rattle.cf_linear.specs.declared.refusal.LimitKind.TheVariants.{Rows, Columns}
use Rattle.cf_linear.specs.declared.refusal.Refusal.TheVariants.{Past, Limit}
use Rattle.cf_elim.specs.declared.fault.ElimFault.TheVariants.{Refused, NoMemory}
use Rattle.cf_elim.specs.Stages.{MayLackAt, CountIs, IsCount, counted}

within : counted (Some 1000) (Some 1000) ≡ Ok tt
within = refl

-- rows come first, whatever the columns are
rows_first : (counted (Some 1001) (Some 1001) ≡ Err (Refused (Limit Rows 1001))) × (counted (Some 1001) None ≡ Err (Refused (Limit Rows 1001)))
rows_first = (refl, refl)

columns_then : counted (Some 1000) (Some 1001) ≡ Err (Refused (Limit Columns 1001))
columns_then = refl

-- a count of more than 64 bits is told by none
uncounted : (counted None (Some 1) ≡ Err NoMemory) × (counted (Some 1000) None ≡ Err NoMemory)
uncounted = (refl, refl)

in_64_bits : IsCount 18446744073709551615 (Some 18446744073709551615)
in_64_bits = (refl, omega arith)

another_count : IsCount 7 (Some 8) → ⊥
another_count h = let e = h.0 in omega (arith, e)

more_bits : IsCount 18446744073709551616 None
more_bits = omega arith

few_bits : IsCount 18446744073709551615 None → ⊥
few_bits h = omega (arith, h)

-- want of memory stands for no refusal that has a number of 64 bits
passed : (CountIs (Some (Limit Rows 1001)) (Err NoMemory) → ⊥) × (CountIs (Some (Limit Columns 18446744073709551615)) (Err NoMemory) → ⊥)
    × (MayLackAt (Some Past) → ⊥)
passed = ((λ h. omega (arith, h)), (λ h. omega (arith, h)), λ h. h)

not_passed : CountIs None (Err NoMemory) × CountIs (Some (Limit Rows 18446744073709551616)) (Err NoMemory)
not_passed = (tt, omega arith)

another_refusal : (CountIs (Some (Limit Rows 1001)) (Err (Refused (Limit Columns 1001))) → ⊥) × (CountIs (Some (Limit Rows 1001)) (Ok tt) → ⊥)
another_refusal = ((λ h. cc h), λ h. cc h)
