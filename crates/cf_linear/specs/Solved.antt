-- A whole elimination as one answer, and what it keeps.
use Rattle.std.specs.Prelude.{◌≡◌, ℕ, suc, ◌<◌, ◌≤◌, ℤ, pos, ◌≤ℤ◌, ◌<ℤ◌, List, [], ◌∷◌, ◌⊎◌}
use Rattle.std.specs.Int.{int_div_euclid}
use Rattle.cf_linear.specs.Rows.{Values, value}
use Rattle.cf_linear.specs.Relations.{Divides}
use Rattle.cf_linear.specs.Systems.{System, Sat, Step, floor_of, need_nonneg, need_zero, need_divides, Answer}
use Rattle.cf_linear.specs.Keep.{In, Over, update, after_back, Keeps}

-- the columns of searches, and those of lets
abbrev pub search_columns : List (ℕ × ℕ) → List ℕ
search_columns [] = []
search_columns ((c, n) ∷ bs) = c ∷ search_columns bs

abbrev pub let_columns : List Step → List ℕ
let_columns [] = []
let_columns (floor_of c r g ∷ ms) = c ∷ let_columns ms
let_columns (need_nonneg r ∷ ms) = let_columns ms
let_columns (need_zero r ∷ ms) = let_columns ms
let_columns (need_divides g r ∷ ms) = let_columns ms

-- columns that rise from lo on and stay below hi
abbrev pub Rising : ℕ → ℕ → List ℕ → Type 0
Rising lo hi [] = lo ≤ hi
Rising lo hi (c ∷ cs) = (lo ≤ c) × Rising (suc c) hi cs

-- each row has columns of the kind, or of earlier lets
abbrev pub StepsOver : (ℕ → Type 0) → List Step → Type 0
StepsOver Q [] = Unit {0}
StepsOver Q (floor_of c r g ∷ ms) = Over Q r × StepsOver (λ d. (d ≡ c) ⊎ Q d) ms
StepsOver Q (need_nonneg r ∷ ms) = Over Q r × StepsOver Q ms
StepsOver Q (need_zero r ∷ ms) = Over Q r × StepsOver Q ms
StepsOver Q (need_divides g r ∷ ms) = Over Q r × StepsOver Q ms

-- where the columns of a step come from, and that each is new
pub record OwesColumns (m : System) (a : Answer) : Type 0 where
  pub constant : In 0 m.known
  pub below : (c : ℕ) → In c m.known → c < m.next
  pub grows : (c : ℕ) → In c m.known → In c a.system.known
  pub bound_known : (c : ℕ) → In c (search_columns a.bounds) → In c a.system.known
  pub let_known : (c : ℕ) → In c (let_columns a.steps) → In c a.system.known
  pub only : (c : ℕ) → In c a.system.known → In c (let_columns a.steps) ⊎ (In c m.known ⊎ In c (search_columns a.bounds))
  pub over : StepsOver (λ c. In c m.known ⊎ In c (search_columns a.bounds)) a.steps
  pub bounds_rise : Rising m.next a.system.next (search_columns a.bounds)
  pub lets_rise : Rising m.next a.system.next (let_columns a.steps)
  pub apart : (c : ℕ) → In c (search_columns a.bounds) → In c (let_columns a.steps) → ⊥

-- what one step owes, and several steps as one too: it keeps the solutions, and the way back leaves the known columns
pub record Owes (m : System) (a : Answer) : Type 0 where
  pub keeps : Keeps m a
  pub kept : (v : Values) (c : ℕ) → In c m.known → after_back v a.back c ≡ v c
  pub columns : OwesColumns m a

-- ---- one after the other: a tuple of search values, then lets and needs, then the unknowns
-- a let sets its new column
abbrev pub after_step : Values → Step → Values
after_step v (floor_of c r g) = update v c (int_div_euclid (value v r) g)
after_step v (need_nonneg r) = v
after_step v (need_zero r) = v
after_step v (need_divides g r) = v

abbrev pub after_steps : Values → List Step → Values
after_steps v [] = v
after_steps v (m ∷ ms) = after_steps (after_step v m) ms

abbrev pub Need : Values → Step → Type 0
Need v (floor_of c r g) = Unit {0}
Need v (need_nonneg r) = pos 0 ≤ℤ value v r
Need v (need_zero r) = value v r ≡ pos 0
Need v (need_divides g r) = Divides g (value v r)

-- each need holds at the values of the lets before it
abbrev pub NeedsHold : Values → List Step → Type 0
NeedsHold v [] = Unit {0}
NeedsHold v (m ∷ ms) = Need v m × NeedsHold (after_step v m) ms

-- one number for each search column, from 0 on and below its bound
abbrev pub InBounds : List (ℕ × ℕ) → List ℤ → Type 0
InBounds [] [] = Unit {0}
InBounds [] (k ∷ ks) = ⊥
InBounds ((c, n) ∷ bs) [] = ⊥
InBounds ((c, n) ∷ bs) (k ∷ ks) = (pos 0 ≤ℤ k) × (k <ℤ pos n) × InBounds bs ks

abbrev pub set_tuple : Values → List (ℕ × ℕ) → List ℤ → Values
set_tuple v [] ks = v
set_tuple v ((c, n) ∷ bs) [] = v
set_tuple v ((c, n) ∷ bs) (k ∷ ks) = set_tuple (update v c k) bs ks

-- the values after the searches and the lets
abbrev pub after : Answer → Values → List ℤ → Values
after a v ks = after_steps (set_tuple v a.bounds ks) a.steps

abbrev pub SameKnown : System → Values → Values → Type 0
SameKnown m v w = (c : ℕ) → In c m.known → v c ≡ w c

-- some tuple meets the needs where some unknowns satisfy the system, and at each tuple that meets them the way back gives such unknowns
pub record SolvedBy (m : System) (a : Answer) : Type 0 where
  pub meets : (v : Values) → v 0 ≡ pos 1 → (w : Values) → SameKnown m v w → Sat m w →
      (ks : List ℤ) × InBounds a.bounds ks × NeedsHold (set_tuple v a.bounds ks) a.steps
  pub found : (v : Values) → v 0 ≡ pos 1 → (ks : List ℤ) → InBounds a.bounds ks → NeedsHold (set_tuple v a.bounds ks) a.steps →
      SameKnown m v (after_back (after a v ks) a.back) × Sat m (after_back (after a v ks) a.back)
