-- What the values of a relation hold, as the program has it.
use Rattle.cf_help.specs.declared.held.Held.{Held as DeclaredHeld}
use Rattle.cf_help.specs.declared.held.Held.TheVariants.{Constant, Known, Unknown}
use Rattle.cf_help.specs.declared.held.Holder.{Holder as DeclaredHolder}
use Rattle.cf_program.specs.Linear.{Held, is_constant, is_known, is_unknown, Holder}

abbrev pub held_seen : DeclaredHeld → Held
held_seen Constant = is_constant
held_seen Known = is_known
held_seen Unknown = is_unknown

abbrev pub holder_seen : DeclaredHolder → Holder
holder_seen v = record { name = v.name.now; held = held_seen v.held }
