-- The elimination of an unknown by test points, over a whole formula.
use Rattle.std.specs.Prelude.{ℕ, zero, suc, ℤ, pos, negsuc, ◌*ℤ◌, List, [], ◌∷◌, ◌++◌, map, Bool, true, false, ◌==◌, unsigned_abs, if◌then◌else◌}
use Rattle.cf_linear.specs.Rows.{Row, entry, comb, without}
use Rattle.cf_linear.specs.Systems.{How, greatest, least}
use Rattle.cf_linear.specs.Steps.{one_at, distinct_after}
use Rattle.cf_formula.specs.Formulas.{Formula, always, never, at_least, equal, both, either}
use Rattle.cf_formula.specs.Branches.{Branch, plain}
use Rattle.cf_formula.specs.Rewriting.{rewritten}

-- 1 for lower bounds, -1 for upper ones
abbrev pub sign : Bool → ℤ
sign true = pos 1
sign false = negsuc 0

-- the coefficient of x, positive where the row bounds x on the side
abbrev pub coef : Bool → ℕ → Row → ℤ
coef lower x r = sign lower *ℤ entry r x

-- one of three, as the number is below, at or above 0
abbrev pub by_sign : {A : Type 0} → ℤ → A → A → A → A
by_sign (pos zero) n z p = z
by_sign (pos (suc k)) n z p = p
by_sign (negsuc k) n z p = n

-- the bounds of x on the side
abbrev pub points : Bool → ℕ → Formula → List Row
points lower x always = []
points lower x never = []
points lower x (at_least r) = by_sign (coef lower x r) [] [] (r ∷ [])
points lower x (equal r) = []
points lower x (both f g) = points lower x f ++ points lower x g
points lower x (either f g) = points lower x f ++ points lower x g

-- the equations that hold x
abbrev pub zeros : ℕ → Formula → List Row
zeros x always = []
zeros x never = []
zeros x (at_least r) = []
zeros x (equal r) = by_sign (entry r x) (r ∷ []) [] (r ∷ [])
zeros x (both f g) = zeros x f ++ zeros x g
zeros x (either f g) = zeros x f ++ zeros x g

-- the bounds of x on the other side
abbrev pub others : Bool → ℕ → Formula → List Row
others lower x always = []
others lower x never = []
others lower x (at_least r) = by_sign (coef lower x r) (r ∷ []) [] []
others lower x (equal r) = []
others lower x (both f g) = others lower x f ++ others lower x g
others lower x (either f g) = others lower x f ++ others lower x g

-- the formula where x is beyond all points
abbrev pub beyond : Bool → ℕ → Formula → Formula
beyond lower x f = rewritten (λ r. by_sign (coef lower x r) always (at_least r) never) (λ r. by_sign (entry r x) never (equal r) never) f

abbrev pub is_never : Formula → Bool
is_never never = true
is_never f = false

-- one of the equations holds
abbrev pub zero_branch : List ℕ → Formula → Row → Branch
zero_branch known f r = plain known (both (equal r) f)

-- x is at the point, or at the first whole number behind it
abbrev pub point_branch : List ℕ → ℕ → ℕ → Formula → Row → Branch
point_branch known x n f r =
    (if unsigned_abs (entry r x) == 1 then plain known (both (equal r) f)
    else record {
      known = n ∷ known;
      bounds = (n, unsigned_abs (entry r x)) ∷ [];
      items = [];
      formula = both (equal (comb (pos 1) r (negsuc 0) (one_at n))) f;
      back = [];
    })

-- the bounds as a row and a positive coefficient each
abbrev pub as_bounds : ℕ → List Row → List (Row × ℤ)
as_bounds x rows = map (λ r. (without x r, pos (unsigned_abs (entry r x)))) rows

-- the nearest of the bounds of the other side, 0 without any
abbrev pub nearest : Bool → ℕ → List Row → How
nearest true x rows = least (as_bounds x rows)
nearest false x rows = greatest (as_bounds x rows)

abbrev pub last_branch : List ℕ → Bool → ℕ → Formula → Branch
last_branch known lower x f = record { known = known; bounds = []; items = []; formula = beyond lower x f; back = (x, nearest lower x (others lower x f)) ∷ [] }

-- none where x cannot be beyond all points
abbrev pub last_branches : List ℕ → Bool → ℕ → Formula → List Branch
last_branches known lower x f = (if is_never (beyond lower x f) then [] else last_branch known lower x f ∷ [])

-- a branch for each equation that holds x, for each bound on the side, and one where x is beyond all of them
abbrev pub tight_branches : List ℕ → Bool → ℕ → ℕ → Formula → List Branch
tight_branches known lower x n f =
    map (zero_branch known f) (distinct_after [] (zeros x f)) ++
    (map (point_branch known x n f) (distinct_after [] (points lower x f)) ++ last_branches known lower x f)
