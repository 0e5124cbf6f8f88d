-- The codes of regions, of fresh numbers and of output sets are well typed, spelled and not deep.
use Rattle.std.specs.Prelude.{◌≡◌, ℕ, ◌+◌, ◌^◌, ◌<◌, ◌≤◌, IsTrue, List, length, slice_get, Option, Some}
use Rattle.cf_tree.specs.declared.base.Base.{Base}
use Rattle.cf_tree.specs.declared.base.Base.TheVariants.{Int, Set}
use Rattle.cf_tree.specs.CodeTree.{CodeTree, code_depth}
use Rattle.cf_tree.specs.Spelled.{IsSpelled}
use Rattle.cf_tree.specs.Typing.{Meets, one, HasBases, HasNoSolve}
use Rattle.cf_linear.specs.Arm.{ColumnLevels, level_of, region_code, set_code, fresh_code}
use Rattle.cf_linear.specs.Layout.{Layout, has_level, set_count, region_column}

-- a code of one value of this base, without a solve, of a depth of at most d, and spelled where levels are numbers of 32 bits
pub record IsCodeOf (b : Base) (d : ℕ) (scope : List Base) (c : CodeTree) : Type 0 where
  pub typed : (asked : Option (List Base)) → Meets asked (one b) → HasBases c scope asked (one b)
  pub plain : HasNoSolve c
  pub spelled : length scope ≤ 2 ^ 32 → IsSpelled c
  pub shallow : code_depth c ≤ d

-- the levels of the input sets, and those of the counts, by their bases
abbrev pub InputsTyped : List Base → Layout → Type 0
InputsTyped scope l = (x : ℕ) → IsTrue (has_level l.inputs x) → slice_get scope x ≡ Some Set

abbrev pub CountsTyped : List Base → Layout → ColumnLevels → Type 0
CountsTyped scope l names = (k : ℕ) → 1 ≤ k → k < 2 ^ set_count l → slice_get scope (level_of names (region_column l k)) ≡ Some Int

abbrev pub RegionsTyped : List Base → Layout → (ℕ → ℕ) → Type 0
RegionsTyped scope l regions = (m : ℕ) → 1 ≤ m → m < 2 ^ length l.inputs → slice_get scope (regions m) ≡ Some Set

abbrev pub RegionCodesFit : Type 0
RegionCodesFit = (scope : List Base) (l : Layout) → InputsTyped scope l → (m : ℕ) →
    IsCodeOf Set (2 + length l.inputs) scope (region_code l m)

abbrev pub FreshCodeFits : Type 0
FreshCodeFits = (scope : List Base) (l : Layout) (names : ColumnLevels) → InputsTyped scope l → CountsTyped scope l names →
    IsCodeOf Set 3 scope (fresh_code l names)

abbrev pub SetCodesFit : Type 0
SetCodesFit =
    (scope : List Base) (l : Layout) (names : ColumnLevels) (regions : ℕ → ℕ) (fresh_level : ℕ) → CountsTyped scope l names →
    RegionsTyped scope l regions →
    (1 ≤ length l.out_sets → slice_get scope fresh_level ≡ Some Set) → (j : ℕ) → IsCodeOf Set 4 scope (set_code l names regions fresh_level j)
