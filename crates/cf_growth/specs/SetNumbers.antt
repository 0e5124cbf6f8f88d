-- Which numbers are met in the codes of input regions, of fresh numbers and of output sets.
use Rattle.std.specs.Prelude.{◌≡◌, ℕ, ◌+◌, ◌<◌, ◌≤◌, max, ℤ, pos, IsTrue, List, length}
use Rattle.std.specs.List.{sum_by}
use Rattle.cf_tree.specs.Meaning.{peak, greatest}
use Rattle.cf_tree.specs.Sets.{has}
use Rattle.cf_tree.specs.Values.{Value}
use Rattle.cf_linear.specs.Arm.{ColumnLevels, region_code, fresh_code, set_code}
use Rattle.cf_linear.specs.Layout.{Layout, masks, set_count}
use Rattle.cf_venn.specs.Codes.{HoldsCounts, HoldsInputs, HoldsPieces}
use Rattle.cf_venn.specs.Masks.{sets_at}
use Rattle.cf_venn.specs.Pieces.{fresh}

-- the counts of all regions together
abbrev pub sum_of_counts : Layout → (ℕ → ℕ) → ℕ
sum_of_counts l r = sum_by r (masks (set_count l))

-- the elements of all sets together, each counted in each of them
abbrev pub sum_of_sizes : List (List ℤ) → ℕ
sum_of_sizes ins = sum_by (λ s. length s) ins

-- no number is met in the code of an input region
abbrev pub RegionsMeetNone : Type 0
RegionsMeetNone = (l : Layout) (e : List Value) → HoldsInputs l e → (m : ℕ) → peak (region_code l m) e ≡ 0

-- a number met in the code of the fresh numbers is at most the counts together, or is one of them
abbrev pub FreshMeetsCounts : Type 0
FreshMeetsCounts =
    (l : Layout) (names : ColumnLevels) (r : ℕ → ℕ) (e : List Value) → HoldsInputs l e → HoldsCounts l names r e →
    peak (fresh_code l names) e ≤ max (sum_of_counts l r) (greatest (fresh (sets_at e l.inputs) (length l.out_sets) r))

-- a number met in the code of an output set is at most the counts together
abbrev pub SetsMeetCounts : Type 0
SetsMeetCounts =
    (l : Layout) (names : ColumnLevels) (regions : ℕ → ℕ) (fresh_level : ℕ) (ins : List (List ℤ)) (r : ℕ → ℕ) (e : List Value) →
    HoldsPieces l names regions fresh_level ins r e → (j : ℕ) → peak (set_code l names regions fresh_level j) e ≤ sum_of_counts l r

-- each fresh number is below the number of them and of the elements of all input sets
abbrev pub FreshAreLow : Type 0
FreshAreLow =
    (ins : List (List ℤ)) (q : ℕ) (r : ℕ → ℕ) (y : ℤ) → IsTrue (has (fresh ins q r) y) → (k : ℕ) × (y ≡ pos k) × (k < length (fresh ins q r) + sum_of_sizes ins)
