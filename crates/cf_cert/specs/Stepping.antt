-- What the calls of a step answer.
use Rattle.std.specs.Prelude.{◌≡◌, ◌≤◌, ◌^◌, ℕ, ℤ, suc, unsigned_abs, ◌∷◌, ◌++◌, take, drop, slice_get, Bool, true, false, not}
use Rattle.std.specs.Prelude.{Option, Some, None, Result, Ok, Err, if◌then◌else◌}
use Rattle.cf_num.specs.Limit.{IsWithin}
use Rattle.cf_linear.specs.declared.refusal.Refusal.TheVariants.{Past, Limit}
use Rattle.cf_linear.specs.Rows.{Row, entry}
use Rattle.cf_linear.specs.Systems.{System}
use Rattle.cf_linear.specs.Stages.{times_bound}
use Rattle.cf_linear.specs.Steps.{has_column}
use Rattle.cf_linear.specs.Views.{system_of}
use Rattle.cf_bounds.specs.Sides.{is_great}
use Rattle.cf_elim.specs.Stages.{made_answer}
use Rattle.cf_elim.specs.declared.fault.ElimFault.{ElimFault}
use Rattle.cf_elim.specs.declared.fault.ElimFault.TheVariants.{Refused as ElimRefused, NoMemory as ElimNoMemory}
use Rattle.cf_cert.specs.declared.next.ApplyFault.{ApplyFault}
use Rattle.cf_cert.specs.declared.next.ApplyFault.TheVariants.{Rejected, NoMemory}
use Rattle.cf_cert.specs.declared.next.Next.{Next}
use Rattle.cf_cert.specs.declared.verdict.Why.{Why}
use Rattle.cf_cert.specs.declared.verdict.Why.TheVariants.{Unknown, Held, Refused}
use Rattle.cf_cert.specs.Applying.{Applied, is_held, determinant, determinant_passes}

-- a reason that shows only in what a step makes, the numbers in its rows; or a count that has more than 64 bits
abbrev pub IsFoundLate : Why → Type 0
IsFoundLate (Refused Past) = Unit {0}
IsFoundLate (Refused (Limit kind n)) = 2 ^ 64 ≤ n
IsFoundLate w = ⊥

-- nothing that is looked at before memory is asked for rejects the step: names, unknowns of an equation and equations that hold one, pairs of bounds,
-- the rows and the columns that are left, tuples of a search
abbrev pub MayLackMemory : Applied → Type 0
MayLackMemory (Ok a) = Unit {0}
MayLackMemory (Err w) = IsFoundLate w

-- what the step makes, or why it does not apply, or want of memory
abbrev pub ApplyIs : Applied → Result Next ApplyFault → Type 0
ApplyIs a (Ok n) = a ≡ Ok (made_answer (system_of n.system) n.made)
ApplyIs a (Err (Rejected w)) = a ≡ Err w
ApplyIs a (Err NoMemory) = MayLackMemory a

-- the refusal of an elimination as that of a step
abbrev pub fault_of : ElimFault → ApplyFault
fault_of (ElimRefused r) = Rejected (Refused r)
fault_of ElimNoMemory = NoMemory

-- why x is none that a search or a drop may name
abbrev pub unheld_fault : System → ℕ → Option Why
unheld_fault m x = (if not (has_column m.unknown x) then Some Unknown else (if is_held m x then Some Held else None))

-- so many tuples, times those of the bound of x on a side, where its coefficient is above 1
abbrev pub times_great : Bool → ℕ → ℕ → Row → ℕ
times_great lower x n r = (if is_great lower x r then times_bound n (x, unsigned_abs (entry r x)) else n)

-- the determinant, or none where a product or the difference passes the limit of numbers
abbrev pub DeterminantIs : ℤ → ℤ → ℤ → ℤ → Option ℤ → Type 0
DeterminantIs a b c d (Some k) = (determinant_passes a b c d ≡ false) × (k ≡ determinant a b c d) × IsWithin k
DeterminantIs a b c d None = determinant_passes a b c d ≡ true

-- the system with the equation e, which is number i, before the others
abbrev pub with_first : System → ℕ → Row → System
with_first m i e = record {
  known = m.known;
  unknown = m.unknown;
  next = m.next;
  equations = e ∷ (take i m.equations ++ drop (suc i) m.equations);
  inequalities = m.inequalities;
  needs = m.needs;
}

pub record IsFront (m : System) (i : ℕ) (f : System) : Type 0 where
  pub equation : Row
  pub found : slice_get m.equations i ≡ Some equation
  pub is : f ≡ with_first m i equation
