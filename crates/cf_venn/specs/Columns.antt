-- Values of the columns from an environment, and outputs from values of the columns.
use Rattle.std.specs.Prelude.{◌≡◌, ℕ, ◌+◌, ◌^◌, ◌<◌, ◌≤◌, ◌||◌, IsTrue, ℤ, pos, List, ◌∷◌, ◌++◌, length, map, slice_index_or, if◌then◌else◌}
use Rattle.std.specs.List.{range_with_len}
use Rattle.cf_tree.specs.Numbers.{count_of}
use Rattle.cf_tree.specs.Values.{Value, number, elements, number_of, value_at}
use Rattle.cf_linear.specs.Layout.{Layout, masks, place, has_level, set_count, number_column, region_column}
use Rattle.cf_linear.specs.Rows.{Values}
use Rattle.cf_venn.specs.Masks.{sets_at, count}
use Rattle.cf_venn.specs.Pieces.{output}

-- the numbers of these levels
abbrev pub numbers_at : List Value → List ℕ → List ℤ
numbers_at env xs = map (λ x. number_of (value_at env x)) xs

-- the counts of the regions of the sets of these levels
abbrev pub counts_at : List Value → List ℕ → List ℤ
counts_at env xs = map (λ m. pos (count (sets_at env xs) m)) (masks (length xs))

-- the constant, the number parameters and the counts of the input regions
abbrev pub known : Layout → List Value → List ℤ
known l env = pos 1 ∷ (numbers_at env l.numbers ++ counts_at env l.inputs)

abbrev pub known_values : Layout → List Value → Values
known_values l env c = slice_index_or (known l env) c (pos 0)

-- and then the number outputs and the counts of all regions
abbrev pub column_values : Layout → List Value → Values
column_values l env c = slice_index_or (known l env ++ (numbers_at env l.out_numbers ++ counts_at env (l.inputs ++ l.out_sets))) c (pos 0)

-- the columns of numbers hold the environment's numbers, and those of regions the counts of its sets' regions
pub record Agrees (l : Layout) (env : List Value) (v : Values) : Type 0 where
  pub numbers : (x : ℕ) → IsTrue (has_level l.numbers x || has_level l.out_numbers x) → number_of (value_at env x) ≡ v (number_column l x)
  pub counts : (m : ℕ) → 1 ≤ m → m < 2 ^ set_count l → v (region_column l m) ≡ pos (count (sets_at env (l.inputs ++ l.out_sets)) m)

-- the count in the column of the mask
abbrev pub region_count : Layout → Values → ℕ → ℕ
region_count l v m = count_of (v (region_column l m))

-- the output of level x, a number of its column or a set of pieces
abbrev pub output_at : Layout → List Value → Values → ℕ → Value
output_at l env v x =
    (if has_level l.out_numbers x then number (v (number_column l x))
    else elements (output (sets_at env l.inputs) (length l.out_sets) (region_count l v) (place x l.out_sets)))

abbrev pub outputs_from : Layout → List Value → Values → List Value
outputs_from l env v = map (output_at l env v) (range_with_len l.scope (length l.out_numbers + length l.out_sets))
