-- Conditions: equations, inequalities and formulas that are to hold. States, and what a step makes of one.
use Rattle.std.specs.Prelude.{◌≡◌, ℕ, ℤ, pos, ◌≤ℤ◌, List, [], ◌∷◌, ◌++◌, map, Bool, true, false, ◌||◌, if◌then◌else◌}
use Rattle.std.specs.List.{list_any}
use Rattle.cf_linear.specs.Rows.{Row, Values, value, same_row}
use Rattle.cf_linear.specs.Systems.{EachRow, How}
use Rattle.cf_formula.specs.Atoms.{ge, eq}
use Rattle.cf_formula.specs.Branches.{Branch}
use Rattle.cf_formula.specs.Formulas.{Formula, always, never, at_least, equal, both, either, Holds, EachFormula}
use Rattle.cf_formula.specs.Items.{Item}
use Rattle.cf_formula.specs.Members.{all_of}
use Rattle.cf_formula.specs.Rewriting.{with_rows, some_atom}

-- ---- conditions
-- dead conditions hold nowhere
pub record Conditions : Type 0 where
  pub equations : List Row
  pub inequalities : List Row
  pub pending : List Formula
  pub dead : Bool

pub record Model (c : Conditions) (v : Values) : Type 0 where
  pub alive : c.dead ≡ false
  pub zero : EachRow (λ r. value v r ≡ pos 0) c.equations
  pub nonneg : EachRow (λ r. pos 0 ≤ℤ value v r) c.inequalities
  pub pending : EachFormula (Holds v) c.pending

-- the row behind the others, unless it is there
abbrev pub with_row : List Row → Row → List Row
with_row rows r = (if list_any (same_row r) rows then rows else rows ++ (r ∷ []))

abbrev pub killed : Conditions → Conditions
killed c = record { equations = c.equations; inequalities = c.inequalities; pending = c.pending; dead = true }

-- one more conjunct
abbrev pub add : Formula → Conditions → Conditions
add always c = c
add never c = killed c
add (at_least r) c = record { equations = c.equations; inequalities = with_row c.inequalities r; pending = c.pending; dead = c.dead }
add (equal r) c = record { equations = with_row c.equations r; inequalities = c.inequalities; pending = c.pending; dead = c.dead }
add (both f g) c = add g (add f c)
add (either f g) c = record { equations = c.equations; inequalities = c.inequalities; pending = c.pending ++ (either f g ∷ []); dead = c.dead }

abbrev pub add_all : List Formula → Conditions → Conditions
add_all [] c = c
add_all (f ∷ fs) c = add_all fs (add f c)

-- without a row or a formula
abbrev pub nothing_but : Bool → Conditions
nothing_but b = record { equations = []; inequalities = []; pending = []; dead = b }

abbrev pub no_conditions : Conditions
no_conditions = nothing_but false

-- the conditions as formulas, and as one
abbrev pub parts : Conditions → List Formula
parts c = (if c.dead then never ∷ [] else []) ++ (map equal c.equations ++ (map at_least c.inequalities ++ c.pending))

abbrev pub whole : Conditions → Formula
whole c = all_of (parts c)

-- with other rows, written anew
abbrev pub changed : (Row → Row) → Conditions → Conditions
changed change c =
    add_all (map (λ r. eq (change r)) c.equations ++ (map (λ r. ge (change r)) c.inequalities ++ map (with_rows change) c.pending))
    (nothing_but c.dead)

-- one of their rows passes the test
abbrev pub some_row : (Row → Bool) → Conditions → Bool
some_row p c = list_any p c.equations || (list_any p c.inequalities || list_any (some_atom p) c.pending)

-- ---- states
-- the columns in order, and the number of the next one
pub record Columns : Type 0 where
  pub known : List ℕ
  pub unknown : List ℕ
  pub next : ℕ

-- the columns; rows over known columns that are at least 0 when the code runs; the lets that may be used again, each with its row and its divisor;
-- what is to hold; how many needs were made, and how many tuples the searches have
pub record State : Type 0 where
  pub columns : Columns
  pub facts : List Row
  pub shared : List (ℕ × Row × ℤ)
  pub conditions : Conditions
  pub needs : ℕ
  pub tuples : ℕ

-- the state behind a step, with the searches, lets and needs that it made and how unknowns are computed
pub record Next : Type 0 where
  pub state : State
  pub bounds : List (ℕ × ℕ)
  pub items : List Item
  pub back : List (ℕ × How)

abbrev pub branch_of : Next → Branch
branch_of n = record { known = n.state.columns.known; bounds = n.bounds; items = n.items; formula = whole n.state.conditions; back = n.back }

-- a state for which nothing was made
abbrev pub bare : State → Next
bare s = record { state = s; bounds = []; items = []; back = [] }

-- one step and then another
abbrev pub then_next : Next → Next → Next
then_next a b = record { state = b.state; bounds = a.bounds ++ b.bounds; items = a.items ++ b.items; back = b.back ++ a.back }

abbrev pub with_conditions : State → Conditions → State
with_conditions s c = record { columns = s.columns; facts = s.facts; shared = s.shared; conditions = c; needs = s.needs; tuples = s.tuples }
