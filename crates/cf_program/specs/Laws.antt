-- What the rules keep.
use Rattle.std.specs.Prelude.{◌≡◌, List, Ok}
use Rattle.cf_tree.specs.declared.base.Edition.TheVariants.{Two, Three}
use Rattle.cf_tree.specs.DefView.{RawItemTree}
use Rattle.cf_program.specs.declared.linearity.Linearity.{Linearity}
use Rattle.cf_program.specs.Checked.{TypedTree, functions_of, checked}
use Rattle.cf_program.specs.DistinctNames.{IsDistinctlyNamed}
use Rattle.cf_program.specs.LateLinear.{IsLinearBy}
use Rattle.cf_program.specs.Source.{IsSpelledProgram}
use Rattle.cf_program.specs.TypedProgram.{IsProgramBy}
use Rattle.cf_program.specs.TypedSource.{IsSourceBy}

-- a program of language 2 for which the rules give no fault has all facts of a typed program; by the rules of late programs, with relations that are linear so
abbrev pub RulesKeepTypes : Type 0
RulesKeepTypes = (how : Linearity) (items : List RawItemTree) (t : TypedTree) → IsSpelledProgram Two items → checked Two how items ≡ Ok t →
    IsProgramBy (IsLinearBy how) t.defs t.main

-- one of edition 3 has all facts of a typed source
abbrev pub RulesKeepSources : Type 0
RulesKeepSources = (how : Linearity) (items : List RawItemTree) (t : TypedTree) → IsSpelledProgram Three items → checked Three how items ≡ Ok t →
    IsSourceBy how t.defs t.main

-- and the names of one of language 2 differ where they stand together
abbrev pub RulesKeepNames : Type 0
RulesKeepNames = (how : Linearity) (items : List RawItemTree) (t : TypedTree) → IsSpelledProgram Two items → checked Two how items ≡ Ok t →
    IsDistinctlyNamed (functions_of items)
