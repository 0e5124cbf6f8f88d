-- The levels and the columns of a choose.
use Rattle.std.specs.Prelude.{ℕ, zero, suc, ◌+◌, ◌-◌, ◌/◌, ◌%◌, ◌^◌, ◌==◌, pos, Bool, true, false, not, ◌&&◌, ◌||◌, List, [], ◌∷◌, ◌++◌, length, filter, map, if◌then◌else◌}
use Rattle.std.specs.List.{list_any, range_with_len, position_or_len}
use Rattle.cf_tree.specs.declared.base.Base.{Base}
use Rattle.cf_tree.specs.declared.base.Base.TheVariants.{Int, Bool as Truth, Set}
use Rattle.cf_tree.specs.Occurs.{rel_holds}
use Rattle.cf_tree.specs.RelTree.{SetTree, empty_set, set_var, union_of, inter_of, diff_of, RelTree}
use Rattle.cf_linear.specs.Rows.{Row}

-- how many variables are in scope, and the levels of the number parameters, the input sets, the number outputs and the output sets
pub record Layout : Type 0 where
  pub scope : ℕ
  pub numbers : List ℕ
  pub inputs : List ℕ
  pub out_numbers : List ℕ
  pub out_sets : List ℕ

-- ---- levels
abbrev pub is_number : Base → Bool
is_number Int = true
is_number Truth = false
is_number Set = false

abbrev pub is_set : Base → Bool
is_set Int = false
is_set Truth = false
is_set Set = true

-- the levels of the bases that pass, the first base having level n
abbrev pub levels_with : (Base → Bool) → ℕ → List Base → List ℕ
levels_with p n [] = []
levels_with p n (b ∷ bs) = (if p b then n ∷ levels_with p (n + 1) bs else levels_with p (n + 1) bs)

-- of the parameters those count that occur in the relation, and of the outputs all
abbrev pub layout_of : List Base → List Base → RelTree → Layout
layout_of scope outputs rel = record {
  scope = length scope;
  numbers = filter (λ x. rel_holds x rel) (levels_with is_number 0 scope);
  inputs = filter (λ x. rel_holds x rel) (levels_with is_set 0 scope);
  out_numbers = levels_with is_number (length scope) outputs;
  out_sets = levels_with is_set (length scope) outputs;
}

-- ---- masks
abbrev pub bit : ℕ → ℕ → Bool
bit zero m = m % 2 == 1
bit (suc i) m = bit i (m / 2)

-- the masks of the regions of n sets; the mask 0 is of what lies in no set
abbrev pub masks : ℕ → List ℕ
masks n = range_with_len 1 (2 ^ n - 1)

abbrev pub place : ℕ → List ℕ → ℕ
place x xs = position_or_len (λ y. y == x) xs

abbrev pub has_level : List ℕ → ℕ → Bool
has_level xs x = list_any (λ y. y == x) xs

-- how many sets there are
abbrev pub set_count : Layout → ℕ
set_count l = length l.inputs + length l.out_sets

-- whether the region of the mask lies in the set form: bit i is of input set i, and bit p + j of output set j
abbrev pub covers : Layout → SetTree → ℕ → Bool
covers l empty_set m = false
covers l (set_var x) m = bit (place x (l.inputs ++ l.out_sets)) m
covers l (union_of a b) m = covers l a m || covers l b m
covers l (inter_of a b) m = covers l a m && covers l b m
covers l (diff_of a b) m = covers l a m && not (covers l b m)

-- ---- columns: the constant, the number parameters, the counts of the input regions, then the number outputs and the counts of all regions
abbrev pub input_column : Layout → ℕ → ℕ
input_column l m = length l.numbers + m

-- how many known columns there are
abbrev pub known_count : Layout → ℕ
known_count l = length l.numbers + 2 ^ length l.inputs

abbrev pub number_column : Layout → ℕ → ℕ
number_column l x =
    (if has_level l.numbers x then 1 + place x l.numbers else known_count l + place x l.out_numbers)

abbrev pub region_column : Layout → ℕ → ℕ
region_column l m = known_count l + length l.out_numbers + m - 1

-- the column after those of the layout
abbrev pub first_free : Layout → ℕ
first_free l = known_count l + length l.out_numbers + 2 ^ set_count l - 1

-- the sum of the counts of the regions whose masks pass
abbrev pub region_row : Layout → (ℕ → Bool) → Row
region_row l p = map (λ m. (region_column l m, pos 1)) (filter p (masks (set_count l)))
