-- What the way back of an elimination says of its columns and divisors.
use Rattle.std.specs.Prelude.{ℕ, ℤ, ◌≤◌, ◌≡◌, ◌⊎◌, ◌∷◌, [], List, pos, ◌≤ℤ◌}
use Rattle.cf_linear.specs.Keep.{In, Over}
use Rattle.cf_linear.specs.Systems.{System, Step, floor_of, need_nonneg, need_zero, need_divides, How, row_how, greatest, least, Answer}
use Rattle.cf_linear.specs.Rows.{Row}

-- ---- columns
abbrev pub PairsOver : (ℕ → Type 0) → List (Row × ℤ) → Type 0
PairsOver Q [] = Unit {0}
PairsOver Q ((r, k) ∷ bs) = Over Q r × PairsOver Q bs

abbrev pub HowOver : (ℕ → Type 0) → How → Type 0
HowOver Q (row_how r) = Over Q r
HowOver Q (greatest bs) = PairsOver Q bs
HowOver Q (least bs) = PairsOver Q bs

-- each unknown is computed from columns of the kind, or from unknowns before it
abbrev pub BackOver : (ℕ → Type 0) → List (ℕ × How) → Type 0
BackOver Q [] = Unit {0}
BackOver Q ((x, w) ∷ ws) = (1 ≤ x) × HowOver Q w × BackOver (λ d. (d ≡ x) ⊎ Q d) ws

abbrev pub back_columns : List (ℕ × How) → List ℕ
back_columns [] = []
back_columns ((x, w) ∷ ws) = x ∷ back_columns ws

-- the unknowns that went are computed from columns that are left, and those that are not left went
pub record ComesBack (m : System) (a : Answer) : Type 0 where
  pub over : BackOver (λ c. In c a.system.known ⊎ In c a.system.unknown) a.back
  pub covers : (c : ℕ) → In c m.unknown → In c a.system.unknown ⊎ In c (back_columns a.back)

-- ---- divisors
abbrev pub PairsDivide : List (Row × ℤ) → Type 0
PairsDivide [] = Unit {0}
PairsDivide ((r, k) ∷ bs) = (pos 1 ≤ℤ k) × PairsDivide bs

abbrev pub HowDivides : How → Type 0
HowDivides (row_how r) = Unit {0}
HowDivides (greatest bs) = PairsDivide bs
HowDivides (least bs) = PairsDivide bs

abbrev pub BackDivides : List (ℕ × How) → Type 0
BackDivides [] = Unit {0}
BackDivides ((x, w) ∷ ws) = HowDivides w × BackDivides ws

abbrev pub StepDivides : Step → Type 0
StepDivides (floor_of c r g) = pos 1 ≤ℤ g
StepDivides (need_nonneg r) = Unit {0}
StepDivides (need_zero r) = Unit {0}
StepDivides (need_divides g r) = pos 1 ≤ℤ g

abbrev pub StepsDivide : List Step → Type 0
StepsDivide [] = Unit {0}
StepsDivide (m ∷ ms) = StepDivides m × StepsDivide ms

-- ---- one step, or several as one: unknowns come back from columns that are left, known columns stay, and divisors are at least 1
pub record Returns (m : System) (a : Answer) : Type 0 where
  pub comes : ComesBack m a
  pub grows : (c : ℕ) → In c m.known → In c a.system.known
  pub steps : StepsDivide a.steps
  pub back : BackDivides a.back
