-- What is made of the functions of a source before it is a program. These words serve only the proofs of private functions.
use Rattle.std.specs.Prelude.{◌≡◌, ◌⊎◌, None, Some, Result, Ok, Err, List, [], map}
use Rattle.std.specs.List.{AllByRecursion}
use Rattle.cf_tree.specs.DefView.{DefTree, def_tree}
use Rattle.cf_program.specs.Size.{weights, depths, first_above}
use Rattle.cf_form.specs.declared.fault.FormFault.{FormFault}
use Rattle.cf_form.specs.declared.fault.FormFault.TheVariants as faults
use Rattle.cf_form.specs.declared.made.Made.{Made}
use Rattle.cf_form.specs.Branches.{WideChoose}
use Rattle.cf_form.specs.FormAnswers.{AreNarrow, IsUnformed}
use Rattle.cf_form.specs.Formed.{formed_defs}
use Rattle.cf_form.specs.Told.{told, wide_chooses}
use Rattle.cf_form.specs.ToldView.{told_choose}

-- no function passes a limit
abbrev pub AreWithin : List DefTree → Type 0
AreWithin defs = (first_above 1000000 0 (weights defs) ≡ None) × (first_above 200 0 (depths defs) ≡ None)

-- the first limit that functions pass
abbrev pub IsPast : List DefTree → FormFault → Type 0
IsPast defs (faults.Cases n count) = ⊥
IsPast defs (faults.Weight f weight) = first_above 1000000 0 (weights defs) ≡ Some (f, weight)
IsPast defs (faults.Depth f depth) = (first_above 1000000 0 (weights defs) ≡ None) × (first_above 200 0 (depths defs) ≡ Some (f, depth))
IsPast defs faults.NoMemory = Unit {0}

abbrev pub IsTooDeep : List DefTree → FormFault → Type 0
IsTooDeep defs (faults.Cases n count) = ⊥
IsTooDeep defs (faults.Weight f weight) = ⊥
IsTooDeep defs (faults.Depth f depth) = first_above 200 0 (depths defs) ≡ Some (f, depth)
IsTooDeep defs faults.NoMemory = Unit {0}

-- none of these is to be least
abbrev pub HaveNoAims : List WideChoose → Type 0
HaveNoAims qs = AllByRecursion (λ q. q.aims ≡ []) qs

-- formed functions, and what is told of these chooses
abbrev pub IsMadeOver : List DefTree → List WideChoose → Made → Type 0
IsMadeOver defs qs m = (map def_tree m.defs.items ≡ formed_defs defs) × AreWithin (formed_defs defs) × (map told_choose m.chooses.items ≡ map told qs)

abbrev pub OverAnswer : List DefTree → List WideChoose → Result Made FormFault → Type 0
OverAnswer defs qs (Ok m) = IsMadeOver defs qs m
OverAnswer defs qs (Err e) = IsPast (formed_defs defs) e

-- and these are the chooses of the functions
abbrev pub IsMade : List DefTree → Made → Type 0
IsMade defs m = AreNarrow defs × HaveNoAims (wide_chooses defs) × IsMadeOver defs (wide_chooses defs) m

abbrev pub MadeAnswer : List DefTree → Result Made FormFault → Type 0
MadeAnswer defs (Ok m) = IsMade defs m
MadeAnswer defs (Err e) = IsUnformed defs e ⊎ (e ≡ faults.NoMemory)
