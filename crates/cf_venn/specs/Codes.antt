-- What the codes of regions, of fresh numbers and of output sets mean.
use Rattle.std.specs.Prelude.{◌≡◌, ℕ, ◌^◌, ◌<◌, ◌≤◌, ℤ, pos, IsTrue, List, [], ◌∷◌, length}
use Rattle.cf_tree.specs.declared.base.Base.{Base}
use Rattle.cf_tree.specs.CodeTree.{codes_of}
use Rattle.cf_tree.specs.Meaning.{got, means, all_path}
use Rattle.cf_tree.specs.RelTree.{RelTree}
use Rattle.cf_tree.specs.Sets.{IsRising}
use Rattle.cf_tree.specs.Values.{Value, number, elements, value_at, values}
use Rattle.cf_linear.specs.Arm.{ColumnLevels, level_of, region_code, set_code, fresh_code, ArmBuilder, region_level, gives}
use Rattle.cf_linear.specs.Layout.{Layout, layout_of, has_level, set_count, number_column, region_column}
use Rattle.cf_linear.specs.Systems.{Answer}
use Rattle.cf_linear.specs.Rows.{Values}
use Rattle.cf_venn.specs.Columns.{region_count, outputs_from}
use Rattle.cf_venn.specs.Masks.{sets_at, region}
use Rattle.cf_venn.specs.Pieces.{fresh, output}

-- the levels of the columns of the masks hold these counts
abbrev pub HoldsCounts : Layout → ColumnLevels → (ℕ → ℕ) → List Value → Type 0
HoldsCounts l names r e = (k : ℕ) → 1 ≤ k → k < 2 ^ set_count l → value_at e (level_of names (region_column l k)) ≡ number (pos (r k))

-- each level of the input sets holds a rising set
abbrev pub HoldsInputs : Layout → List Value → Type 0
HoldsInputs l e = (x : ℕ) → IsTrue (has_level l.inputs x) → (zs : List ℤ) × (value_at e x ≡ elements zs) × IsRising zs

-- levels hold the regions of these input sets, these counts, and fresh numbers where there are output sets
pub record HoldsPieces (l : Layout) (names : ColumnLevels) (regions : ℕ → ℕ) (fresh_level : ℕ) (ins : List (List ℤ)) (r : ℕ → ℕ) (e : List Value) : Type 0 where
  pub inputs_are : length ins ≡ length l.inputs
  pub regions_are : (m : ℕ) → 1 ≤ m → m < 2 ^ length l.inputs → value_at e (regions m) ≡ elements (region ins m)
  pub fresh_is : 1 ≤ length l.out_sets → value_at e fresh_level ≡ elements (fresh ins (length l.out_sets) r)
  pub counts_are : HoldsCounts l names r e

-- the code of an input region means the region
abbrev pub RegionCodesMean : Type 0
RegionCodesMean =
    (scope outputs : List Base) (rel : RelTree) (e : List Value) → HoldsInputs (layout_of scope outputs rel) e → (m : ℕ) → 1 ≤ m →
    m < 2 ^ length (layout_of scope outputs rel).inputs →
    means (region_code (layout_of scope outputs rel) m) e ≡ values (elements (region (sets_at e (layout_of scope outputs rel).inputs) m) ∷ [])

-- the code of output set j means it
abbrev pub SetCodesMean : Type 0
SetCodesMean =
    (l : Layout) (names : ColumnLevels) (regions : ℕ → ℕ) (fresh_level : ℕ) (ins : List (List ℤ)) (r : ℕ → ℕ) (e : List Value) →
    HoldsPieces l names regions fresh_level ins r e → (j : ℕ) →
    means (set_code l names regions fresh_level j) e ≡ values (elements (output ins (length l.out_sets) r j) ∷ [])

-- the code of the fresh numbers means them
abbrev pub FreshCodeMeans : Type 0
FreshCodeMeans =
    (l : Layout) (names : ColumnLevels) (r : ℕ → ℕ) (e : List Value) → HoldsInputs l e → HoldsCounts l names r e →
    means (fresh_code l names) e ≡ values (elements (fresh (sets_at e l.inputs) (length l.out_sets) r) ∷ [])

-- what an arm gives are the outputs that are made from the values of the columns, where their levels hold these values
abbrev pub GivesMean : Type 0
GivesMean =
    (l : Layout) (a : Answer) (k : ArmBuilder) (env : List Value) (v : Values) (e : List Value) →
    HoldsPieces l k.names (region_level l a) k.level (sets_at env l.inputs) (region_count l v) e →
    ((x : ℕ) → IsTrue (has_level l.out_numbers x) → value_at e (level_of k.names (number_column l x)) ≡ number (v (number_column l x))) →
    (all_path (codes_of (gives l a k)) e []).gives ≡ got (outputs_from l env v)
