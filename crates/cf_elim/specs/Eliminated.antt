-- How an elimination ends.
use Rattle.std.specs.Prelude.{◌≡◌, Result, Ok, Err}
use Rattle.cf_linear.specs.Stages.{End, solved, refused}
use Rattle.cf_elim.specs.declared.solved.CaseParts.{CaseParts}
use Rattle.cf_elim.specs.declared.fault.ElimFault.{ElimFault}
use Rattle.cf_elim.specs.declared.fault.ElimFault.TheVariants.{Refused, NoMemory}

-- a case where it ends solved, the refusal where it is refused, or want of memory
abbrev pub EndIs : End → Result CaseParts ElimFault → Type 0
EndIs e (Ok c) = e ≡ solved
EndIs e (Err (Refused r)) = e ≡ refused r
EndIs e (Err NoMemory) = Unit {0}
