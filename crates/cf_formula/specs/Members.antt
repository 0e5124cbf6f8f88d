-- The `and` and the `or` of formulas, in normal form: flat, without what is always or never true, equal members once, and without needless ones.
use Rattle.std.specs.Prelude.{List, [], ◌∷◌, ◌++◌, Bool, true, false, not, ◌&&◌, ◌||◌, filter, if◌then◌else◌}
use Rattle.std.specs.List.{list_any, flat_map}
use Rattle.cf_linear.specs.Rows.{Row, same_row}
use Rattle.cf_formula.specs.Formulas.{Formula, always, never, at_least, equal, both, either}
use Rattle.cf_formula.specs.Atoms.{are_opposite}

abbrev pub same_formula : Formula → Formula → Bool
same_formula always always = true
same_formula never never = true
same_formula (at_least r) (at_least s) = same_row r s
same_formula (equal r) (equal s) = same_row r s
same_formula (both f g) (both h k) = same_formula f h && same_formula g k
same_formula (either f g) (either h k) = same_formula f h && same_formula g k
same_formula f g = false

abbrev pub is_among : List Formula → Formula → Bool
is_among fs f = list_any (same_formula f) fs

-- the formulas without those that are equal to an earlier one
abbrev pub distinct_formulas : List Formula → List Formula → List Formula
distinct_formulas seen [] = []
distinct_formulas seen (f ∷ fs) = (if is_among seen f then distinct_formulas seen fs else f ∷ distinct_formulas (f ∷ seen) fs)

-- those whose marks are false
abbrev pub unmarked : List Bool → List Formula → List Formula
unmarked [] fs = []
unmarked (b ∷ bs) [] = []
unmarked (b ∷ bs) (f ∷ fs) = (if b then unmarked bs fs else f ∷ unmarked bs fs)

-- ---- members
-- of an `and`, in order
abbrev pub conjuncts : Formula → List Formula
conjuncts always = []
conjuncts (both f g) = conjuncts f ++ conjuncts g
conjuncts f = f ∷ []

-- of an `or`, in order
abbrev pub disjuncts : Formula → List Formula
disjuncts never = []
disjuncts (either f g) = disjuncts f ++ disjuncts g
disjuncts f = f ∷ []

abbrev pub all_of : List Formula → Formula
all_of [] = always
all_of (f ∷ []) = f
all_of (f ∷ g ∷ fs) = both f (all_of (g ∷ fs))

abbrev pub any_of : List Formula → Formula
any_of [] = never
any_of (f ∷ []) = f
any_of (f ∷ g ∷ fs) = either f (any_of (g ∷ fs))

-- ---- `and`
-- an `or` with a member among these formulas
abbrev pub is_needless_or : List Formula → Formula → Bool
is_needless_or fs (either f g) = list_any (is_among fs) (disjuncts (either f g))
is_needless_or fs f = false

abbrev pub and_of : List Formula → Formula
and_of fs = (if is_among fs never then never else all_of (filter (λ f. not (is_needless_or fs f)) fs))

abbrev pub conj : List Formula → Formula
conj fs = and_of (distinct_formulas [] (flat_map conjuncts fs))

-- ---- `or`
-- an `and` with a member among these formulas
abbrev pub is_needless_and : List Formula → Formula → Bool
is_needless_and fs (both f g) = list_any (is_among fs) (conjuncts (both f g))
is_needless_and fs f = false

abbrev pub opposes : Row → Formula → Bool
opposes r (at_least s) = are_opposite r s
opposes r f = false

abbrev pub has_opposite : List Formula → Formula → Bool
has_opposite fs (at_least r) = list_any (opposes r) fs
has_opposite fs f = false

-- a member that is always true, or two of which one always is
abbrev pub is_covered : List Formula → Bool
is_covered fs = is_among fs always || list_any (has_opposite fs) fs

abbrev pub or_of : List Formula → Formula
or_of fs = (if is_covered fs then always else any_of (filter (λ f. not (is_needless_and fs f)) fs))

abbrev pub disj : List Formula → Formula
disj fs = or_of (distinct_formulas [] (flat_map disjuncts fs))
