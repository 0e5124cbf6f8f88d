-- The names in one scope of a printed file differ, and none of them is reserved.
use Rattle.std.specs.Prelude.{◌≡◌, ℕ, List, [], ◌++◌}
use Rattle.cf_print_scopes.specs.Scopes.{AreNew, AreScoped, AreFunctions}
use Rattle.cf_print_line.specs.Called.{end_of}
use Rattle.cf_print_program.specs.Files.{opening_of}
use Rattle.cf_print_program.specs.Printed.{Printing, Names, setting_of, called_of, functions_of}

-- the functions in the file of a program: those for parts, and the one that is called, whose parameters and pointers have new names, as its variables have
pub record IsScoped (names : Names) (p : Printing) : Type 0 where
  pub parts : List ℕ
  pub are : AreFunctions p.language parts
  pub body : List ℕ
  pub end : List (List ℕ)
  pub is : functions_of (setting_of names p) p.has_main (called_of names p) p.body ≡
      parts ++ (opening_of p.language p.has_main (called_of names p) ++ body ++ end_of p.language)
  pub new : AreNew p.language [] ((called_of names p).params ++ (called_of names p).pointers)
  pub scoped : AreScoped p.language ((called_of names p).params ++ (called_of names p).pointers) body end

abbrev pub NamesOfFilesDiffer : Type 0
NamesOfFilesDiffer = (names : Names) (p : Printing) → IsScoped names p
