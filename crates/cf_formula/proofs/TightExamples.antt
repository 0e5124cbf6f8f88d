-- Test points, worked out. Columns: 0 the constant, 1 a, 2 b, 3 x, 4 the search.
use Rattle.std.proofs.Common.{◌≡◌, pos, negsuc, [], ◌∷◌, true, false, refl}
use Rattle.cf_linear.specs.Rows.{Row}
use Rattle.cf_linear.specs.Systems.{greatest}
use Rattle.cf_formula.specs.Formulas.{Formula, always, at_least, equal, both, either}
use Rattle.cf_formula.specs.Branches.{plain}
use Rattle.cf_formula.specs.Tight.{tight_branches}
use Rattle.cf_formula.specs.Sums.{sum_row}

-- x >= a
from_a : Row
from_a = (1, negsuc 0) ∷ (3, pos 1) ∷ []

-- 2 * x >= b
from_b : Row
from_b = (2, negsuc 0) ∷ (3, pos 2) ∷ []

-- x <= 10
to_ten : Row
to_ten = (0, pos 10) ∷ (3, negsuc 0) ∷ []

abbrev bounded : Formula
bounded = both (either (at_least from_a) (at_least from_b)) (at_least to_ten)

bounded_branches : tight_branches (0 ∷ 1 ∷ 2 ∷ []) true 3 4 bounded ≡
    plain (0 ∷ 1 ∷ 2 ∷ []) (both (equal from_a) bounded) ∷ record {
      known = 4 ∷ 0 ∷ 1 ∷ 2 ∷ [];
      bounds = (4, 2) ∷ [];
      items = [];
      formula = both (equal ((2, negsuc 0) ∷ (3, pos 2) ∷ (4, negsuc 0) ∷ [])) bounded;
      back = [];
    } ∷ []
unfolding from_a from_b to_ten
bounded_branches = refl

-- 3 * x == a or x >= b: the equation needs no search, and beyond all points nothing is left
abbrev thirds : Formula
thirds = either (equal ((1, negsuc 0) ∷ (3, pos 3) ∷ [])) (both (at_least to_ten) (at_least from_b))

thirds_branches : tight_branches (0 ∷ 1 ∷ 2 ∷ []) false 3 4 thirds ≡
    plain (0 ∷ 1 ∷ 2 ∷ []) (both (equal ((1, negsuc 0) ∷ (3, pos 3) ∷ [])) thirds) ∷
    plain (0 ∷ 1 ∷ 2 ∷ []) (both (equal to_ten) thirds) ∷ []
unfolding to_ten from_b
thirds_branches = refl

-- an `or` of which one side has no upper bound
abbrev loose : Formula
loose = either (at_least to_ten) (at_least from_b)

loose_branches : tight_branches (0 ∷ 1 ∷ 2 ∷ []) false 3 4 loose ≡
    plain (0 ∷ 1 ∷ 2 ∷ []) (both (equal to_ten) loose) ∷
    record {
      known = 0 ∷ 1 ∷ 2 ∷ [];
      bounds = [];
      items = [];
      formula = always;
      back = (3, greatest (((2, negsuc 0) ∷ [], pos 2) ∷ [])) ∷ [];
    } ∷ []
unfolding to_ten from_b
loose_branches = refl

-- twice x >= a and twice x <= 10
sum_example : sum_row ((from_a, pos 2) ∷ (to_ten, pos 2) ∷ []) ≡ (0, pos 20) ∷ (1, negsuc 1) ∷ []
unfolding from_a to_ten
sum_example = refl
