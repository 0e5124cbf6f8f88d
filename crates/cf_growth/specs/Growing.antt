-- How far a step of the elimination lets numbers grow, forth over the known columns and back over those that stood before it.
use Rattle.std.specs.Prelude.{◌≡◌, ℕ, ◌≤◌, ◌*◌, ℤ, pos, List, [], ◌∷◌}
use Rattle.std.specs.Int.{int_div_euclid}
use Rattle.cf_linear.specs.Rows.{Row, Values, value}
use Rattle.cf_linear.specs.Systems.{System, Step, floor_of, need_nonneg, need_zero, need_divides, How, row_how, greatest, least, Answer}
use Rattle.cf_linear.specs.Arm.{negated}
use Rattle.cf_linear.specs.Keep.{In, Over, Within, update, how_value, after_back, IsColumn}
use Rattle.cf_linear.specs.Solved.{search_columns}
use Rattle.cf_growth.specs.Norms.{IsBounded, SumsWithin}

abbrev pub IsKnown : System → ℕ → Type 0
IsKnown m c = In c m.known

-- ---- lets, whether the needs hold or not
abbrev pub LetsFit : Values → List Step → Type 0
LetsFit v [] = Unit {0}
LetsFit v (floor_of c r g ∷ ms) = (v c ≡ int_div_euclid (value v r) g) × LetsFit v ms
LetsFit v (need_nonneg r ∷ ms) = LetsFit v ms
LetsFit v (need_zero r ∷ ms) = LetsFit v ms
LetsFit v (need_divides g r ∷ ms) = LetsFit v ms

-- the columns of lets, and those of all rows, are of the kind
abbrev pub StepsIn : (ℕ → Type 0) → List Step → Type 0
StepsIn Q [] = Unit {0}
StepsIn Q (floor_of c r g ∷ ms) = Q c × Over Q r × StepsIn Q ms
StepsIn Q (need_nonneg r ∷ ms) = Over Q r × StepsIn Q ms
StepsIn Q (need_zero r ∷ ms) = Over Q r × StepsIn Q ms
StepsIn Q (need_divides g r ∷ ms) = Over Q r × StepsIn Q ms

-- what is met in each let is at most n
abbrev pub LetsWithin : ℕ → Values → List Step → Type 0
LetsWithin n v [] = Unit {0}
LetsWithin n v (floor_of c r g ∷ ms) = SumsWithin n v (pos 0) r × LetsWithin n v ms
LetsWithin n v (need_nonneg r ∷ ms) = LetsWithin n v ms
LetsWithin n v (need_zero r ∷ ms) = LetsWithin n v ms
LetsWithin n v (need_divides g r ∷ ms) = LetsWithin n v ms

-- what is met in each need is at most n
abbrev pub NeedsWithin : ℕ → Values → List Step → Type 0
NeedsWithin n v [] = Unit {0}
NeedsWithin n v (floor_of c r g ∷ ms) = NeedsWithin n v ms
NeedsWithin n v (need_nonneg r ∷ ms) = SumsWithin n v (pos 0) r × NeedsWithin n v ms
NeedsWithin n v (need_zero r ∷ ms) = SumsWithin n v (pos 0) r × NeedsWithin n v ms
NeedsWithin n v (need_divides g r ∷ ms) = SumsWithin n v (pos 0) r × NeedsWithin n v ms

-- ---- the way back
-- a bound's row, and the same with its signs turned
abbrev pub PairsWithin : ℕ → Values → List (Row × ℤ) → Type 0
PairsWithin n v [] = Unit {0}
PairsWithin n v ((r, p) ∷ bs) = SumsWithin n v (pos 0) r × SumsWithin n v (pos 0) (negated r) × PairsWithin n v bs

abbrev pub HowWithin : ℕ → Values → How → Type 0
HowWithin n v (row_how r) = SumsWithin n v (pos 0) r
HowWithin n v (greatest bs) = PairsWithin n v bs
HowWithin n v (least bs) = PairsWithin n v bs

-- what is met in each unknown is at most n, at the values of those before it
abbrev pub WaysWithin : ℕ → Values → List (ℕ × How) → Type 0
WaysWithin n v [] = Unit {0}
WaysWithin n v ((x, w) ∷ ws) = HowWithin n v w × WaysWithin n (update v x (how_value v w)) ws

-- ---- one step, or several as one
-- the known columns grow by at most the factor f, lets included; where b bounds what stands after, g * b bounds what stood before, as the way back gives it
pub record Grows (m : System) (a : Answer) (f g : ℕ) : Type 0 where
  pub forth_some : 1 ≤ f
  pub back_some : 1 ≤ g
  pub known : (v : Values) (k : ℕ) → 1 ≤ k → Within v a.bounds → LetsFit v a.steps → IsBounded (IsKnown m) k v → IsBounded (IsKnown a.system) (f * k) v
  pub lets : (v : Values) (k : ℕ) → 1 ≤ k → Within v a.bounds → LetsFit v a.steps → IsBounded (IsKnown m) k v → LetsWithin (f * k) v a.steps
  pub stood : (v : Values) (k b : ℕ) → 1 ≤ k → Within v a.bounds → LetsFit v a.steps → IsBounded (IsKnown m) k v → f * k ≤ b →
      IsBounded (IsColumn a.system) b v →
      IsBounded (IsColumn m) (g * b) (after_back v a.back)
  pub back : (v : Values) (k b : ℕ) → 1 ≤ k → Within v a.bounds → LetsFit v a.steps → IsBounded (IsKnown m) k v → f * k ≤ b →
      IsBounded (IsColumn a.system) b v →
      WaysWithin (g * b) v a.back
  pub stay : (c : ℕ) → IsKnown m c → IsKnown a.system c
  pub searches : (c : ℕ) → In c (search_columns a.bounds) → IsKnown a.system c
  pub over : StepsIn (IsKnown a.system) a.steps
  pub kept : (v : Values) (c : ℕ) → IsKnown m c → after_back v a.back c ≡ v c
