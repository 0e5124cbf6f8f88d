-- Pending formulas where facts and the rows of the conditions hold.
use Rattle.std.specs.Prelude.{ℕ, zero, suc, ◌+◌, List, [], ◌∷◌, ◌++◌, map, Bool, true, false, ◌&&◌, ◌||◌, if◌then◌else◌}
use Rattle.cf_linear.specs.Arm.{negated}
use Rattle.cf_linear.specs.Rows.{Row}
use Rattle.cf_formula.specs.Facts.{is_contradictory, settled}
use Rattle.cf_formula.specs.Formulas.{Formula, always, never, at_least, equal, both, either}
use Rattle.cf_formula.specs.Members.{same_formula}
use Rattle.cf_formula.specs.States.{Conditions, killed, add}

-- the rows that are at least 0: inequalities, and equations in both signs
abbrev pub sure : Conditions → List Row
sure c = c.inequalities ++ (c.equations ++ map negated c.equations)

-- the formulas one after the other, up to the first that is never true
abbrev pub add_while : List Formula → Conditions → Conditions
add_while [] c = c
add_while (f ∷ fs) c = (if (add f c).dead then add f c else add_while fs (add f c))

abbrev pub without_pending : Conditions → Conditions
without_pending c = record { equations = c.equations; inequalities = c.inequalities; pending = []; dead = c.dead }

abbrev pub same_formulas : List Formula → List Formula → Bool
same_formulas [] [] = true
same_formulas [] (g ∷ gs) = false
same_formulas (f ∷ fs) [] = false
same_formulas (f ∷ fs) (g ∷ gs) = same_formula f g && same_formulas fs gs

-- the pending formulas as the rows settle them
abbrev pub settled_all : List Row → Conditions → List Formula
settled_all facts c = map (settled (facts ++ sure c)) c.pending

-- the conditions with the pending formulas as these rows settle them
abbrev pub settled_with : List Row → Conditions → Conditions
settled_with rows c = add_while (map (settled rows) c.pending) (without_pending c)

abbrev pub settled_once : List Row → Conditions → Conditions
settled_once facts c = add_while (settled_all facts c) (without_pending c)

-- whether rows contradict each other
abbrev pub is_refuted : List Row → Conditions → Bool
is_refuted facts c = is_contradictory (facts ++ sure c)

-- what one round makes, and whether it is the last one
abbrev pub round : List Row → Conditions → Conditions
round facts c = (if is_refuted facts c then killed c else settled_once facts c)

abbrev pub is_last : List Row → Conditions → Bool
is_last facts c = is_refuted facts c || ((settled_once facts c).dead || same_formulas (settled_all facts c) c.pending)

-- over and over until nothing changes, at most n times
abbrev pub simplified_within : ℕ → List Row → Conditions → Conditions
simplified_within zero facts c = c
simplified_within (suc n) facts c =
    (if is_refuted facts c then killed c
    else if (settled_once facts c).dead || same_formulas (settled_all facts c) c.pending then settled_once facts c
    else simplified_within n facts (settled_once facts c))

-- how many atoms the formulas hold; each time that something changes there are fewer
abbrev pub atom_count : Formula → ℕ
atom_count always = 0
atom_count never = 0
atom_count (at_least r) = 1
atom_count (equal r) = 1
atom_count (both f g) = atom_count f + atom_count g
atom_count (either f g) = atom_count f + atom_count g

abbrev pub atoms_of_all : List Formula → ℕ
atoms_of_all [] = 0
atoms_of_all (f ∷ fs) = atom_count f + atoms_of_all fs

abbrev pub simplified : List Row → Conditions → Conditions
simplified facts c = simplified_within (suc (atoms_of_all c.pending)) facts c
