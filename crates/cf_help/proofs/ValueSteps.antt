-- Steps of the values of constants.
use Rattle.std.proofs.Common.{◌≡◌, ℕ, ℤ, List, ◌∷◌, Result, refl}
use Rattle.cf_tree.specs.declared.base.Sense.{Sense}
use Rattle.cf_tree.specs.declared.base.Sense.TheVariants.{Least, Greatest}
use Rattle.cf_program.specs.CheckAnswers.{CheckFault}
use Rattle.cf_program.specs.Constants.{Constant}
use Rattle.cf_program.specs.Then.{◌>>=◌}
use Rattle.cf_program.specs.declared.fault.TypeFault.{TypeFault}
use Rattle.cf_program.specs.declared.fault.TypeFault.TheVariants as faults
use Rattle.cf_help.specs.Faults.{with_value}
use Rattle.cf_help.specs.Valued.{nearer, extreme}

-- a fault before the rest of a chain is the fault of the chain
pub fails_then : {A B : Type 0} (e : TypeFault) (r : Result A TypeFault) (f : A → Result B TypeFault) → CheckFault e r → CheckFault e (r >>= f)
fails_then faults.NoMemory r f h = tt
fails_then (faults.UnknownName p) r f h = rw h refl
fails_then (faults.DuplicateName p) r f h = rw h refl
fails_then (faults.WrongCount p) r f h = rw h refl
fails_then (faults.Mismatch p) r f h = rw h refl
fails_then (faults.NotConstant p) r f h = rw h refl
fails_then (faults.ConstantBelow p) r f h = rw h refl
fails_then (faults.ConstantPast p) r f h = rw h refl
fails_then (faults.CallsLater p) r f h = rw h refl
fails_then faults.NoMain r f h = rw h refl
fails_then (faults.NotLinear p) r f h = rw h refl
fails_then (faults.Weight n) r f h = rw h refl
fails_then (faults.Depth n) r f h = rw h refl

pub extreme_next : (sense : Sense) (a b : ℤ) (vs : List ℤ) → extreme sense (a ∷ b ∷ vs) ≡ extreme sense (nearer sense a b ∷ vs)
extreme_next Least a b vs = refl
extreme_next Greatest a b vs = refl

-- a constant without a value is left out
pub no_value : (e : TypeFault) (cs : List Constant) (x : List ℕ) (r : Result ℤ TypeFault) → (e ≡ faults.NoMemory → ⊥) → CheckFault e r → cs ≡ with_value cs x r
no_value faults.NoMemory cs x r other h = absurd (other refl)
no_value (faults.UnknownName p) cs x r other h = rw h refl
no_value (faults.DuplicateName p) cs x r other h = rw h refl
no_value (faults.WrongCount p) cs x r other h = rw h refl
no_value (faults.Mismatch p) cs x r other h = rw h refl
no_value (faults.NotConstant p) cs x r other h = rw h refl
no_value (faults.ConstantBelow p) cs x r other h = rw h refl
no_value (faults.ConstantPast p) cs x r other h = rw h refl
no_value (faults.CallsLater p) cs x r other h = rw h refl
no_value (faults.NotLinear p) cs x r other h = rw h refl
no_value faults.NoMain cs x r other h = rw h refl
no_value (faults.Weight n) cs x r other h = rw h refl
no_value (faults.Depth n) cs x r other h = rw h refl
