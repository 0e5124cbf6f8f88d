-- What variables of target code stand for in an environment.
use Rattle.std.specs.Prelude.{◌≡◌, Bool, true, false, List, [], ◌∷◌, MatchBool}
use Rattle.cf_tree.specs.Meaning.{Got, got}
use Rattle.cf_tree.specs.Relation.{val, members, Holds}
use Rattle.cf_tree.specs.Values.{Value, number, truth, elements}
use Rattle.cf_condition.specs.Forms.{FormTree, number_form, set_form, truth_form, unwritten}

-- a truth value decides what is asked
abbrev pub Decides : Type 0 → Bool → Type 0
Decides P true = P
Decides P false = P → ⊥

-- a value is that of the form in an environment of the scope
abbrev pub Stands : FormTree → List Value → Value → Type 0
Stands (number_form t) env v = v ≡ number (val t env)
Stands (set_form s) env v = v ≡ elements (members s env)
Stands (truth_form r) env v = (b : Bool) × (v ≡ truth b) × Decides (Holds r env) b
Stands unwritten env v = Unit {0}

-- the values of variables are those of their forms, one each
abbrev pub AllStand : List FormTree → List Value → List Value → Type 0
AllStand [] env [] = Unit {0}
AllStand [] env (v ∷ vs) = ⊥
AllStand (f ∷ fs) env [] = ⊥
AllStand (f ∷ fs) env (v ∷ vs) = Stands f env v × AllStand fs env vs

-- what a form gives, where it is written
abbrev pub GivesForm : FormTree → List Value → Got (List Value) → Type 0
GivesForm (number_form t) env g = g ≡ got (number (val t env) ∷ [])
GivesForm (set_form s) env g = g ≡ got (elements (members s env) ∷ [])
GivesForm (truth_form r) env g = (b : Bool) × (g ≡ got (truth b ∷ [])) × Decides (Holds r env) b
GivesForm unwritten env g = Unit {0}
