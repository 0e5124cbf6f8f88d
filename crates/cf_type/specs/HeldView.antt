-- What the values of a relation hold, as the program has it.
use Rattle.std.specs.Prelude.{◌≡◌, List, map, Result, Ok, Err, Vec}
use Rattle.std.specs.Global.{Global}
use Rattle.cf_type.specs.declared.held.Held.{Held as DeclaredHeld}
use Rattle.cf_type.specs.declared.held.Held.TheVariants.{Constant, Known, Unknown}
use Rattle.cf_type.specs.declared.held.Holder.{Holder as DeclaredHolder}
use Rattle.cf_program.specs.CheckAnswers.{CheckFault}
use Rattle.cf_program.specs.Linear.{Held, is_constant, is_known, is_unknown, Holder, Found, linear, bends}
use Rattle.cf_program.specs.declared.fault.TypeFault.{TypeFault}
use Rattle.cf_program.specs.declared.fault.TypeFault.TheVariants.{NotLinear}

abbrev pub held_seen : DeclaredHeld → Held
held_seen Constant = is_constant
held_seen Known = is_known
held_seen Unknown = is_unknown

abbrev pub holder_seen : DeclaredHolder → Holder
holder_seen v = record { name = v.name.now; held = held_seen v.held }

-- what is found, without its cause
abbrev pub without_cause : Found → Result (List Held) TypeFault
without_cause (linear hs) = Ok hs
without_cause (bends p c) = Err (NotLinear p)

-- what is answered is what is found, unless memory ran out
abbrev pub FoundAnswer : Result (Vec DeclaredHeld Global) TypeFault → Found → Type 0
FoundAnswer (Ok hs) f = f ≡ linear (map held_seen hs.items)
FoundAnswer (Err e) f = CheckFault e (without_cause f)
