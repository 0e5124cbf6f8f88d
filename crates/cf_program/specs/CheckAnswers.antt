-- What checking answers, seen by view, is what the rules give, unless memory ran out.
use Rattle.std.specs.Prelude.{◌≡◌, Option, Some, None, Result, Ok, Err}
use Rattle.cf_program.specs.declared.fault.TypeFault.{TypeFault}
use Rattle.cf_program.specs.declared.fault.TypeFault.TheVariants as faults

abbrev pub CheckFault : {Y : Type 0} → TypeFault → Result Y TypeFault → Type 0
CheckFault faults.NoMemory r = Unit {0}
CheckFault (faults.UnknownName p) r = r ≡ Err (faults.UnknownName p)
CheckFault (faults.DuplicateName p) r = r ≡ Err (faults.DuplicateName p)
CheckFault (faults.WrongCount p) r = r ≡ Err (faults.WrongCount p)
CheckFault (faults.Mismatch p) r = r ≡ Err (faults.Mismatch p)
CheckFault (faults.NotConstant p) r = r ≡ Err (faults.NotConstant p)
CheckFault (faults.ConstantBelow p) r = r ≡ Err (faults.ConstantBelow p)
CheckFault (faults.ConstantPast p) r = r ≡ Err (faults.ConstantPast p)
CheckFault (faults.CallsLater p) r = r ≡ Err (faults.CallsLater p)
CheckFault faults.NoMain r = r ≡ Err faults.NoMain
CheckFault (faults.NotLinear p) r = r ≡ Err (faults.NotLinear p)
CheckFault (faults.Weight n) r = r ≡ Err (faults.Weight n)
CheckFault (faults.Depth n) r = r ≡ Err (faults.Depth n)

abbrev pub CheckAnswer : {X Y : Type 0} → (X → Y) → Result X TypeFault → Result Y TypeFault → Type 0
CheckAnswer view (Ok x) r = r ≡ Ok (view x)
CheckAnswer view (Err e) r = CheckFault e r

abbrev pub Shows : {X Y : Type 0} → (X → Y) → Option X → Option Y → Type 0
Shows view None o = o ≡ None
Shows view (Some x) o = o ≡ Some (view x)
