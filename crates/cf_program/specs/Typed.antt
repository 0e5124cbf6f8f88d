-- The plain form of a typed program, and of one whose relations are linear once the numbers in their scopes are known; and of sources of edition 3.
use Rattle.std.specs.Prelude.{map}
use Rattle.cf_tree.specs.DefView.{def_tree}
use Rattle.cf_program.specs.Checked.{TypedTree}
use Rattle.cf_program.specs.declared.typed.TypedDefs.{TypedDefs}
use Rattle.cf_program.specs.declared.linearity.Linearity.TheVariants.{Plain, Late}
use Rattle.cf_program.specs.TypedProgram.{IsTypedProgram, IsLateProgram}
use Rattle.cf_program.specs.TypedSource.{IsSourceBy}

abbrev pub typed_tree : TypedDefs → TypedTree
typed_tree t = record { defs = map def_tree t.defs.items; main = t.main }

abbrev pub IsTyped : TypedDefs → Type 0
IsTyped t = IsTypedProgram (map def_tree t.defs.items) t.main

abbrev pub IsLateTyped : TypedDefs → Type 0
IsLateTyped t = IsLateProgram (map def_tree t.defs.items) t.main

abbrev pub IsSource : TypedDefs → Type 0
IsSource t = IsSourceBy Plain (map def_tree t.defs.items) t.main

abbrev pub IsLateSource : TypedDefs → Type 0
IsLateSource t = IsSourceBy Late (map def_tree t.defs.items) t.main
