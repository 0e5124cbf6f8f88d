-- How a result of the program tells what is found.
use Rattle.std.specs.Prelude.{◌≡◌, List, Option, Some, None, Result, Ok, Err, Vec, ◌++◌}
use Rattle.std.specs.declared.alloc.Global.{Global}
use Rattle.cf_tree.specs.declared.base.Base.{Base}
use Rattle.cf_typing.specs.declared.fault.TargetFault.{TargetFault}
use Rattle.cf_typing.specs.declared.fault.TargetFault.TheVariants.{BadTarget, NoMemory}
use Rattle.cf_typing.specs.Bases.{done}

-- nothing is found, unless it stopped for want of memory
abbrev pub TypingFault : {A : Type 0} → TargetFault → Option A → Type 0
TypingFault BadTarget r = r ≡ None
TypingFault NoMemory r = Unit {0}

abbrev pub BasesAnswer : Result (Vec Base Global) TargetFault → Option (List Base) → Type 0
BasesAnswer (Ok bs) r = r ≡ Some bs.items
BasesAnswer (Err e) r = TypingFault e r

abbrev pub BaseAnswer : Result Base TargetFault → Option Base → Type 0
BaseAnswer (Ok b) r = r ≡ Some b
BaseAnswer (Err e) r = TypingFault e r

abbrev pub DoneAnswer : Result (Unit {0}) TargetFault → Option (Unit {0}) → Type 0
DoneAnswer (Ok u) r = r ≡ done
DoneAnswer (Err e) r = TypingFault e r

-- these bases were asked, and are found
abbrev pub AskedAnswer : List Base → Result (Unit {0}) TargetFault → Option (List Base) → Type 0
AskedAnswer asked (Ok u) r = r ≡ Some asked
AskedAnswer asked (Err e) r = TypingFault e r

-- the bases of all variables that are in scope then
abbrev pub ScopeAnswer : List Base → Result (Unit {0}) TargetFault → Option (List Base) → Type 0
ScopeAnswer scope (Ok u) r = r ≡ Some scope
ScopeAnswer scope (Err e) r = TypingFault e r

-- the same bases, and perhaps more
abbrev pub Extends : List Base → List Base → Type 0
Extends old new = (more : List Base) × (new ≡ old ++ more)
