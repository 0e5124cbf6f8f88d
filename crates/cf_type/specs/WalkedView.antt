-- What is known behind some declarations, as the program holds it.
use Rattle.std.specs.Prelude.{map}
use Rattle.cf_tree.specs.DefView.{def_tree}
use Rattle.cf_type.specs.declared.checking.Walked.{Walked as DeclaredWalked}
use Rattle.cf_type.specs.Valued.{constants_of}
use Rattle.cf_type.specs.Walked.{Walked}

abbrev pub walked_of : DeclaredWalked → Walked
walked_of w = record { constants = constants_of w.constants; defs = map def_tree w.defs.items; next = w.next }
