-- Going on where no rule is broken.
use Rattle.std.specs.Prelude.{Result, Ok, Err}
use Rattle.cf_program.specs.declared.fault.TypeFault.{TypeFault}

infixl 10 ◌>>=◌
abbrev pub ◌>>=◌ : {A B : Type 0} → Result A TypeFault → (A → Result B TypeFault) → Result B TypeFault
(Ok x) >>= f = f x
(Err e) >>= f = Err e
