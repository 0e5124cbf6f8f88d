-- A Bound step without a Clean before it: its two parts make more than its factor.
use Rattle.std.proofs.Common.{◌≡◌, ◌*◌, pos, negsuc, [], ◌∷◌, max, refl}
use Rattle.cf_linear.specs.Systems.{System}
use Rattle.cf_linear.specs.Steps.{pick, searched, searched_by, bound_factor}
use Rattle.cf_growth.proofs.BoundGrowth.{search_factor, drop_norm}

-- 3 * x >= 0 and -3 * x >= 0
abbrev untidy : System
untidy = record { known = 0 ∷ []; unknown = 1 ∷ []; next = 2; equations = []; inequalities = ((1, pos 3) ∷ []) ∷ ((1, negsuc 2) ∷ []) ∷ []; needs = 0 }

untidy-factor : max 1 (bound_factor untidy (pick untidy.inequalities 1 [])) ≡ 1
unfolding bound_factor pick searched_by searched
untidy-factor = refl

untidy-parts : search_factor untidy (pick untidy.inequalities 1 []) * max 1 (drop_norm untidy (pick untidy.inequalities 1 [])) ≡ 3
unfolding pick searched_by searched
untidy-parts = refl
