-- Systems of equations and inequalities, and what a step of the elimination makes of them.
use Rattle.std.specs.Prelude.{◌≡◌, ℕ, ◌+◌, ℤ, pos, ◌≤ℤ◌, List, [], ◌∷◌, ◌++◌, length}
use Rattle.cf_linear.specs.Rows.{Row, Values, value}

-- the columns in order, the number of the next one, rows that are to be 0 and rows that are to be at least 0, and how many needs were made
pub record System : Type 0 where
  pub known : List ℕ
  pub unknown : List ℕ
  pub next : ℕ
  pub equations : List Row
  pub inequalities : List Row
  pub needs : ℕ

abbrev pub EachRow : (Row → Type 0) → List Row → Type 0
EachRow P [] = Unit {0}
EachRow P (r ∷ rs) = P r × EachRow P rs

-- each equation has the value 0 and each inequality a value of at least 0
pub record Sat (m : System) (v : Values) : Type 0 where
  pub zero : EachRow (λ r. value v r ≡ pos 0) m.equations
  pub nonneg : EachRow (λ r. pos 0 ≤ℤ value v r) m.inequalities

-- equations, inequalities and needs
abbrev pub rows_of : System → ℕ
rows_of m = length m.equations + length m.inequalities + m.needs

-- known and unknown columns
abbrev pub columns_of : System → ℕ
columns_of m = length m.known + length m.unknown

-- a let of a new known column, or a need
pub data Step : Type 0 where
  floor_of : ℕ → Row → ℤ → Step
  need_nonneg : Row → Step
  need_zero : Row → Step
  need_divides : ℤ → Row → Step

-- how an unknown is computed: as a row's value, as the greatest of its lower bounds, each a row l and a coefficient p with
-- p * x + l >= 0, or as the least of its upper bounds, each a row m and a coefficient q with -q * x + m >= 0
pub data How : Type 0 where
  row_how : Row → How
  greatest : List (Row × ℤ) → How
  least : List (Row × ℤ) → How

-- what a step makes: the next system, lets and needs in order, unknowns in the order in which they are computed, and search columns with their bounds
pub record Answer : Type 0 where
  pub system : System
  pub steps : List Step
  pub back : List (ℕ × How)
  pub bounds : List (ℕ × ℕ)

-- the first answer and then the second: the unknowns of the second are computed first
abbrev pub then_answer : Answer → Answer → Answer
then_answer a b = record { system = b.system; steps = a.steps ++ b.steps; back = b.back ++ a.back; bounds = a.bounds ++ b.bounds }

abbrev pub no_answer : System → Answer
no_answer m = record { system = m; steps = []; back = []; bounds = [] }

-- all answers, in order
abbrev pub whole : System → List Answer → Answer
whole m [] = no_answer m
whole m (a ∷ as_) = then_answer a (whole a.system as_)
