-- What forming answers, and what a formed program keeps.
use Rattle.std.specs.Prelude.{◌≡◌, ◌⊎◌, Some, None, Result, Ok, Err, List, map}
use Rattle.cf_tree.specs.DefView.{DefTree}
use Rattle.cf_program.specs.Checked.{TypedTree}
use Rattle.cf_program.specs.declared.linearity.Linearity.{Linearity}
use Rattle.cf_program.specs.declared.linearity.Linearity.TheVariants.{Late}
use Rattle.cf_program.specs.LateLinear.{IsLinearBy}
use Rattle.cf_program.specs.Size.{weights, depths, first_above}
use Rattle.cf_program.specs.Typed.{typed_tree}
use Rattle.cf_program.specs.TypedProgram.{IsProgramBy}
use Rattle.cf_form.specs.declared.fault.FormFault.{FormFault}
use Rattle.cf_form.specs.declared.fault.FormFault.TheVariants as faults
use Rattle.cf_form.specs.declared.formed.FormedParts.{FormedParts}
use Rattle.cf_form.specs.declared.formed_late.FormedLateParts.{FormedLateParts}
use Rattle.cf_form.specs.Formed.{formed_defs}
use Rattle.cf_form.specs.Laws.{AllowTheSame}
use Rattle.cf_form.specs.Told.{wide_chooses, first_passed, all_told}
use Rattle.cf_form.specs.ToldView.{told_choose}

-- no atom in a relation has too many alternatives
abbrev pub AreNarrow : List DefTree → Type 0
AreNarrow defs = first_passed (wide_chooses defs) ≡ None

-- A program is this source with the forms of language 2: it keeps what a typed program keeps, limits of weight and depth among it, and each function allows
-- the same outcomes.
pub record IsFormOf (how : Linearity) (source made : TypedTree) : Type 0 where
  pub defs : made.defs ≡ formed_defs source.defs
  pub main : made.main ≡ source.main
  pub narrow : AreNarrow source.defs
  pub typed : IsProgramBy (IsLinearBy how) made.defs made.main
  pub outcomes : AllowTheSame source.defs made.defs

-- For which fault a source is not formed: the first choose with an atom of too many alternatives comes before the first function that is too heavy, and this
-- before the first that is too deep.
abbrev pub IsUnformed : List DefTree → FormFault → Type 0
IsUnformed defs (faults.Cases n count) = first_passed (wide_chooses defs) ≡ Some (n, count)
IsUnformed defs (faults.Weight f weight) = AreNarrow defs × (first_above 1000000 0 (weights (formed_defs defs)) ≡ Some (f, weight))
IsUnformed defs (faults.Depth f depth) =
    AreNarrow defs × (first_above 1000000 0 (weights (formed_defs defs)) ≡ None) × (first_above 200 0 (depths (formed_defs defs)) ≡ Some (f, depth))
IsUnformed defs faults.NoMemory = ⊥

-- the formed program, and what is told of the chooses of its source, in the order of the text
abbrev pub FormAnswer : Linearity → TypedTree → Result FormedParts FormFault → Type 0
FormAnswer how source (Ok f) = IsFormOf how source (typed_tree f.typed) × (map told_choose f.chooses.items ≡ all_told source.defs)
FormAnswer how source (Err e) = IsUnformed source.defs e ⊎ (e ≡ faults.NoMemory)

-- of a late program
abbrev pub LateFormAnswer : TypedTree → Result FormedLateParts FormFault → Type 0
LateFormAnswer source (Ok f) = IsFormOf Late source (typed_tree f.late) × (map told_choose f.chooses.items ≡ all_told source.defs)
LateFormAnswer source (Err e) = IsUnformed source.defs e ⊎ (e ≡ faults.NoMemory)
