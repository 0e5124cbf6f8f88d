-- What the private calls of a Clean and of an equation step do.
use Rattle.std.specs.Prelude.{◌≡◌, ℕ, Bool, true, false, List, [], ◌∷◌, Some, None, Result, Ok, Err}
use Rattle.cf_linear.specs.Stages.{first_count, limits}
use Rattle.cf_linear.specs.Views.{system_of}
use Rattle.cf_bounds.specs.declared.cleaning.Cleaned.{Cleaned}
use Rattle.cf_elim.specs.declared.fault.ElimFault.{ElimFault}
use Rattle.cf_elim.specs.declared.fault.ElimFault.TheVariants.{Refused, NoMemory}
use Rattle.cf_equation.specs.declared.step.Reduced.{Reduced}
use Rattle.cf_elim.specs.declared.stage.Stage.{Stage}
use Rattle.cf_elim.specs.declared.stage.Stage.TheVariants.{Goes, Ends}

-- after a Merge comes no Clean, and after the end of an equation one does
abbrev pub CleanAfter : List ℕ → Bool → Type 0
CleanAfter [] b = ⊥
CleanAfter (u ∷ []) b = b ≡ false
CleanAfter (u ∷ w ∷ us) b = b ≡ true

-- on to what an equation step leaves
abbrev pub GoesTo : Reduced → ℕ → Bool → Stage → Type 0
GoesTo r tuples b (Goes t p) = (t.system ≡ r.system) × (t.tuples ≡ tuples) × (t.is_past_clean ≡ b) × (p.bounds.items ≡ []) × (p.steps ≡ r.steps) ×
    (p.back ≡ r.back)
GoesTo r tuples b Ends = ⊥

-- on to what a Clean leaves, if its counts are within the limits
abbrev pub CleanedIs : Cleaned → ℕ → Result Stage ElimFault → Type 0
CleanedIs c n (Ok (Goes t p)) =
    (first_count limits (system_of c.system) ≡ None) × (t.system ≡ c.system) × (t.tuples ≡ n) × (t.is_past_clean ≡ true) × (p.bounds.items ≡ []) ×
    (p.steps ≡ c.steps) × (p.back.items ≡ [])
CleanedIs c n (Ok Ends) = ⊥
CleanedIs c n (Err (Refused r)) = first_count limits (system_of c.system) ≡ Some r
CleanedIs c n (Err NoMemory) = Unit {0}
