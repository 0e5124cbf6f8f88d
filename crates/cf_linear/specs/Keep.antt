-- What a step of the elimination owes: one valuation holds the values of all columns that are ever made, and a let, a need and a search bound are facts about it.
use Rattle.std.specs.Prelude.{◌≡◌, ℕ, ◌<◌, ◌==◌, ℤ, pos, neg_ℤ, ◌≤ℤ◌, ◌<ℤ◌, List, [], ◌∷◌, ◌⊎◌, cond, map}
use Rattle.std.specs.List.{fold}
use Rattle.std.specs.Int.{int_max, int_min, int_div_euclid}
use Rattle.cf_linear.specs.Rows.{Row, Values, value, Rises}
use Rattle.cf_linear.specs.Relations.{Divides}
use Rattle.cf_linear.specs.Systems.{System, EachRow, Sat, Step, floor_of, need_nonneg, need_zero, need_divides, How, row_how, greatest, least, Answer}

-- ---- columns
abbrev pub In : ℕ → List ℕ → Type 0
In c [] = ⊥
In c (d ∷ ds) = (c ≡ d) ⊎ In c ds

-- all columns of the list are different
abbrev pub Differ : List ℕ → Type 0
Differ [] = Unit {0}
Differ (c ∷ cs) = (In c cs → ⊥) × Differ cs

-- each column of the row is of the kind
abbrev pub Over : (ℕ → Type 0) → Row → Type 0
Over Q [] = Unit {0}
Over Q ((c, k) ∷ r) = Q c × Over Q r

-- the columns below n have the same values
abbrev pub Same : ℕ → Values → Values → Type 0
Same n v w = (c : ℕ) → c < n → v c ≡ w c

-- ---- steps and bounds as facts
abbrev pub Fits : Values → Step → Type 0
Fits v (floor_of c r g) = v c ≡ int_div_euclid (value v r) g
Fits v (need_nonneg r) = pos 0 ≤ℤ value v r
Fits v (need_zero r) = value v r ≡ pos 0
Fits v (need_divides g r) = Divides g (value v r)

abbrev pub AllFit : Values → List Step → Type 0
AllFit v [] = Unit {0}
AllFit v (m ∷ ms) = Fits v m × AllFit v ms

-- each search column lies from 0 on below its bound
abbrev pub Within : Values → List (ℕ × ℕ) → Type 0
Within v [] = Unit {0}
Within v ((c, n) ∷ bs) = (pos 0 ≤ℤ v c) × (v c <ℤ pos n) × Within v bs

-- ---- the way back
-- v with z at column x
abbrev pub update : Values → ℕ → ℤ → Values
update v x z c = cond (c == x) z (v c)

-- the value that a How gives
abbrev pub how_value : Values → How → ℤ
how_value v (row_how r) = value v r
how_value v (greatest []) = pos 0
how_value v (greatest ((r, p) ∷ bs)) = fold int_max (neg_ℤ (int_div_euclid (value v r) p)) (map (λ (r, p). neg_ℤ (int_div_euclid (value v r) p)) bs)
how_value v (least []) = pos 0
how_value v (least ((r, p) ∷ bs)) = fold int_min (int_div_euclid (value v r) p) (map (λ (r, p). int_div_euclid (value v r) p) bs)

-- the values of the unknowns, one after the other
abbrev pub after_back : Values → List (ℕ × How) → Values
after_back v [] = v
after_back v ((x, w) ∷ ws) = after_back (update v x (how_value v w)) ws

-- solutions are kept forth, where the new columns find values, and back, where the unknowns that went are computed
pub record Keeps (m : System) (a : Answer) : Type 0 where
  pub forth : (v : Values) → v 0 ≡ pos 1 → Sat m v → (w : Values) × Same m.next v w × Within w a.bounds × AllFit w a.steps × Sat a.system w
  pub back : (v : Values) → v 0 ≡ pos 1 → Within v a.bounds → AllFit v a.steps → Sat a.system v → Sat m (after_back v a.back)

-- w goes on from the solution v by the step: v on the old columns, and a new solution whose lets, needs and searches fit
abbrev pub Continues : System → Answer → Values → Values → Type 0
Continues m a v w = Same m.next v w × Within w a.bounds × AllFit w a.steps × Sat a.system w

-- each old solution is reached: the way back from some new solution gives exactly it
abbrev pub Reaches : System → Answer → Type 0
Reaches m a = (v : Values) → v 0 ≡ pos 1 → Sat m v → (w : Values) × Continues m a v w × Same m.next v (after_back w a.back)

-- each old solution goes on in one way: at one tuple within the bounds, and with one value of each new unknown
abbrev pub ContinuesOnce : System → Answer → Type 0
ContinuesOnce m a = (v : Values) → v 0 ≡ pos 1 → Sat m v → (w : Values) × Continues m a v w × ((u : Values) → Continues m a v u → Same a.system.next w u)

-- ---- the condition of every step
-- a known or an unknown column of the system
abbrev pub IsColumn : System → ℕ → Type 0
IsColumn m c = In c m.known ⊎ In c m.unknown

-- the columns are below the next one, known and unknown ones differ, and the rows rise over them
pub record Formed (m : System) : Type 0 where
  pub constant : In 0 m.known
  pub below : (c : ℕ) → In c m.known → c < m.next
  pub unknown_below : (c : ℕ) → In c m.unknown → c < m.next
  pub apart : (c : ℕ) → In c m.known → In c m.unknown → ⊥
  pub zero : EachRow (Over (IsColumn m)) m.equations
  pub nonneg : EachRow (Over (IsColumn m)) m.inequalities
  pub zero_rise : EachRow (Rises 0) m.equations
  pub nonneg_rise : EachRow (Rises 0) m.inequalities
