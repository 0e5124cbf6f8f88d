-- How far the stages of an elimination let numbers grow, and the whole of it.
use Rattle.std.specs.Prelude.{◌≡◌, ℕ, ◌≤◌, ◌<◌, ◌*◌, unsigned_abs, true, List, [], map}
use Rattle.cf_linear.specs.Rows.{Row, Values, entry, norm, without}
use Rattle.cf_linear.specs.Systems.{System, EachRow, Answer, whole}
use Rattle.cf_linear.specs.Keep.{In, Within, after_back, IsColumn, Formed, Differ}
use Rattle.cf_linear.specs.Layout.{Layout}
use Rattle.cf_linear.specs.Stages.{Limits, State, Taken, goes, stage, Trace, solved, first_state}
use Rattle.cf_linear.specs.Chooses.{last_factor, product_of_all}
use Rattle.cf_growth.specs.Norms.{IsBounded}
use Rattle.cf_growth.specs.Growing.{IsKnown, LetsFit, LetsWithin, NeedsWithin, WaysWithin, Grows}

-- ---- what stands between the steps
-- an unknown with a coefficient above 1 does not stand alone in the row
abbrev pub IsTight : List ℕ → Row → Type 0
IsTight us r = (x : ℕ) → In x us → 1 < unsigned_abs (entry r x) → 1 ≤ norm (without x r)

-- after a Clean without equations the rows are so
abbrev pub IsTightened : State → Type 0
IsTightened s = s.is_past_clean ≡ true → s.system.equations ≡ [] → EachRow (IsTight s.system.unknown) s.system.inequalities

pub record Stands (s : State) : Type 0 where
  pub formed : Formed s.system
  pub differ : Differ s.system.unknown
  pub tight : IsTightened s

-- ---- one stage
-- the step from s to t grows by two factors, whose product is at most its factor
pub record Says (s t : State) (a : Taken) : Type 0 where
  pub forth : ℕ
  pub back : ℕ
  pub grows : Grows s.system a.answer forth back
  pub within : forth * back ≤ a.factor
  pub next : a.answer.system ≡ t.system
  pub stands : Stands t

abbrev pub StagesGrow : Type 0
StagesGrow = (l : Limits) (s t : State) (a : Taken) → Stands s → stage l s ≡ goes t a → Says s t a

-- ---- all stages
abbrev pub all_of : System → List Taken → Answer
all_of m taken = whole m (map (λ a. a.answer) taken)

-- all steps as one grow by two factors, whose product is at most that of all factors
abbrev pub TracesGrow : Type 0
TracesGrow =
    (l : Limits) (m : System) (taken : List Taken) → Formed m → Differ m.unknown → Trace l (first_state m) taken solved →
    (forth : ℕ) × (back : ℕ) × Grows m (all_of m taken) forth back × (forth * back ≤ product_of_all (map (λ a. a.factor) taken))

-- ---- what is met
-- the known columns, and what is met in lets, in needs and in unknowns, are at most n, and the columns that stood first are at most b, which is
-- at least k, and at most n with the last factor
pub record StaysWithin (levels : Layout) (k n : ℕ) (m : System) (a : Answer) (v : Values) : Type 0 where
  pub known : IsBounded (IsKnown a.system) n v
  pub lets : LetsWithin n v a.steps
  pub needs : NeedsWithin n v a.steps
  pub b : ℕ
  pub some : k ≤ b
  pub room : last_factor levels a * b ≤ n
  pub stood : IsBounded (IsColumn m) b (after_back v a.back)
  pub back : WaysWithin n v a.back

-- where k bounds the known columns of the first system, the factors of all steps and the last factor times k bound all that is met, whether
-- the needs hold or not
abbrev pub CasesGrow : Type 0
CasesGrow =
    (l : Limits) (levels : Layout) (m : System) (taken : List Taken) → Formed m → Differ m.unknown → Trace l (first_state m) taken solved →
    (v : Values) (k : ℕ) → 1 ≤ k →
    Within v (all_of m taken).bounds → LetsFit v (all_of m taken).steps → IsBounded (IsKnown m) k v →
    StaysWithin levels k (product_of_all (map (λ a. a.factor) taken) * last_factor levels (all_of m taken) * k) m (all_of m taken) v
