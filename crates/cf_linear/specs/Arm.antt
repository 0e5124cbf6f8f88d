-- The arm of a case: its searches, its lets and needs, and what it gives.
use Rattle.std.specs.Prelude.{ℕ, ◌+◌, ◌-◌, ◌*◌, ◌/◌, ◌%◌, ◌^◌, ◌==◌, nat_lt, ℤ, pos, negsuc, not, List, [], ◌∷◌, ◌++◌, length, map, filter, if◌then◌else◌, cond}
use Rattle.std.specs.List.{range_with_len, fold}
use Rattle.std.specs.Ordering.{int_eq}
use Rattle.cf_tree.specs.declared.base.Order.TheVariants.{Eq, Ge}
use Rattle.cf_tree.specs.CodeTree.{CodeTree, code_lit, code_var, code_set_of, code_sum, code_mul, code_neg, code_div, code_min, code_max, code_compare, code_divides, code_union, code_inter, code_diff, code_card, code_slice, code_fresh, no_codes, ItemTree, let_item, need_item, ArmTree, arm_of, codes_of, items_of}
use Rattle.cf_linear.specs.Rows.{Row, comb}
use Rattle.cf_linear.specs.Systems.{Step, floor_of, need_nonneg, need_zero, need_divides, How, row_how, greatest, least, Answer}
use Rattle.cf_linear.specs.Layout.{Layout, bit, masks, place, has_level, set_count, number_column, input_column, region_column}

-- the levels of the columns that are named so far
abbrev pub ColumnLevels : Type 0
ColumnLevels = List (ℕ × ℕ)

abbrev pub level_of : ColumnLevels → ℕ → ℕ
level_of [] c = 0
level_of ((d, x) ∷ names) c = cond (d == c) x (level_of names c)

-- ---- rows and bounds
-- one code stands alone, and none is 0
abbrev pub sum_of : List CodeTree → CodeTree
sum_of [] = code_lit (pos 0)
sum_of (c ∷ []) = c
sum_of (c ∷ d ∷ cs) = code_sum (codes_of (c ∷ d ∷ cs))

abbrev pub entry_code : ColumnLevels → (ℕ × ℤ) → CodeTree
entry_code names (c, k) =
    (if c == 0 then code_lit k
    else (if int_eq k (pos 1) then code_var (level_of names c) else code_mul (code_lit k) (code_var (level_of names c))))

-- the sum of the entries, in rising order of columns
abbrev pub row_code : ColumnLevels → Row → CodeTree
row_code names r = sum_of (map (entry_code names) r)

abbrev pub negated : Row → Row
negated r = comb (negsuc 0) r (pos 0) []

abbrev pub lower_code : ColumnLevels → (Row × ℤ) → CodeTree
lower_code names (r, p) = (if int_eq p (pos 1) then row_code names (negated r) else code_neg (code_div (row_code names r) p))

abbrev pub upper_code : ColumnLevels → (Row × ℤ) → CodeTree
upper_code names (r, q) = (if int_eq q (pos 1) then row_code names r else code_div (row_code names r) q)

-- one bound stands alone
abbrev pub greatest_code : List CodeTree → CodeTree
greatest_code [] = code_lit (pos 0)
greatest_code (c ∷ []) = c
greatest_code (c ∷ d ∷ cs) = code_max (codes_of (c ∷ d ∷ cs))

abbrev pub least_code : List CodeTree → CodeTree
least_code [] = code_lit (pos 0)
least_code (c ∷ []) = c
least_code (c ∷ d ∷ cs) = code_min (codes_of (c ∷ d ∷ cs))

abbrev pub how_code : ColumnLevels → How → CodeTree
how_code names (row_how r) = row_code names r
how_code names (greatest bs) = greatest_code (map (lower_code names) bs)
how_code names (least bs) = least_code (map (upper_code names) bs)

-- ---- regions and pieces
abbrev pub vars : List ℕ → List CodeTree
vars xs = map (λ x. code_var x) xs

-- the sets by `inter`, one alone as it is
abbrev pub inter_of_all : List CodeTree → CodeTree
inter_of_all [] = code_set_of no_codes
inter_of_all (c ∷ []) = c
inter_of_all (c ∷ d ∷ cs) = code_inter (codes_of (c ∷ d ∷ cs))

abbrev pub union_of_all : List CodeTree → CodeTree
union_of_all [] = code_set_of no_codes
union_of_all (c ∷ []) = c
union_of_all (c ∷ d ∷ cs) = code_union (codes_of (c ∷ d ∷ cs))

-- the input sets in the mask, and those not in it
abbrev pub sets_in : Layout → ℕ → List ℕ
sets_in l m = filter (λ x. bit (place x l.inputs) m) l.inputs

abbrev pub sets_out : Layout → ℕ → List ℕ
sets_out l m = filter (λ x. not (bit (place x l.inputs) m)) l.inputs

-- the sets of the mask by `inter`, then `diff` by each other input set
abbrev pub region_code : Layout → ℕ → CodeTree
region_code l m = fold (λ c d. code_diff c d) (inter_of_all (vars (sets_in l m))) (vars (sets_out l m))

-- the counts of the masks m + 2^p * o for o below n, without the mask 0
abbrev pub earlier_counts : Layout → ColumnLevels → ℕ → ℕ → List CodeTree
earlier_counts l names m n =
    map (λ r. code_var (level_of names (region_column l r)))
    (filter (λ r. not (r == 0)) (map (λ o. m + 2 ^ length l.inputs * o) (range_with_len 0 n)))

-- the slice of the region, or of the fresh set, that is in exactly the output sets of the mask
abbrev pub piece_code : Layout → ColumnLevels → (ℕ → ℕ) → ℕ → ℕ → CodeTree
piece_code l names region fresh r =
    let m = r % 2 ^ length l.inputs in
    code_slice (code_var (if m == 0 then fresh else region m))
    (sum_of (earlier_counts l names m (r / 2 ^ length l.inputs)))
    (code_var (level_of names (region_column l r)))

-- output set j: the pieces of the masks that hold it, in rising order
abbrev pub set_code : Layout → ColumnLevels → (ℕ → ℕ) → ℕ → ℕ → CodeTree
set_code l names region fresh j =
    union_of_all (map (piece_code l names region fresh) (filter (bit (length l.inputs + j)) (masks (set_count l))))

-- as many numbers outside all input sets as the counts of the regions of no input set say
abbrev pub fresh_code : Layout → ColumnLevels → CodeTree
fresh_code l names = code_fresh (union_of_all (vars l.inputs)) (sum_of (earlier_counts l names 0 (2 ^ length l.out_sets)))

-- ---- items
-- the next level, the names so far, and the items so far
pub record ArmBuilder : Type 0 where
  pub level : ℕ
  pub names : ColumnLevels
  pub items : List ItemTree

-- a let whose level is the name of column c
abbrev pub let_named : ArmBuilder → ℕ → CodeTree → ArmBuilder
let_named k c code = record { level = k.level + 1; names = (c, k.level) ∷ k.names; items = k.items ++ (let_item code ∷ []) }

abbrev pub need : ArmBuilder → CodeTree → ArmBuilder
need k code = record { level = k.level; names = k.names; items = k.items ++ (need_item code ∷ []) }

abbrev pub let_region : Layout → ArmBuilder → ℕ → ArmBuilder
let_region l k m =
    let_named (record { level = k.level + 1; names = k.names; items = k.items ++ (let_item (region_code l m) ∷ []) })
    (input_column l m) (code_card (code_var k.level))

abbrev pub step_item : ArmBuilder → Step → ArmBuilder
step_item k (floor_of c r g) = let_named k c (code_div (row_code k.names r) g)
step_item k (need_nonneg r) = need k (code_compare Ge (row_code k.names r) (code_lit (pos 0)))
step_item k (need_zero r) = need k (code_compare Eq (row_code k.names r) (code_lit (pos 0)))
step_item k (need_divides g r) = need k (code_divides g (row_code k.names r))

abbrev pub back_item : ArmBuilder → (ℕ × How) → ArmBuilder
back_item k (x, w) = let_named k x (how_code k.names w)

-- the search columns have the levels from n on
abbrev pub search_names : ℕ → List (ℕ × ℕ) → ColumnLevels
search_names n [] = []
search_names n ((c, p) ∷ bs) = (c, n) ∷ search_names (n + 1) bs

-- the parameters' columns have the parameters' levels, and the search columns those after the scope
abbrev pub first_names : Layout → List (ℕ × ℕ) → ColumnLevels
first_names l bounds = map (λ x. (number_column l x, x)) l.numbers ++ search_names l.scope bounds

abbrev pub begun : Layout → List (ℕ × ℕ) → ArmBuilder
begun l bounds = record { level = l.scope + length bounds; names = first_names l bounds; items = [] }

-- the regions, then the lets and needs of the elimination
abbrev pub tested : Layout → Answer → ArmBuilder
tested l a = fold step_item (fold (let_region l) (begun l a.bounds) (masks (length l.inputs))) a.steps

-- and then the unknowns
abbrev pub computed : Layout → Answer → ArmBuilder
computed l a = fold back_item (tested l a) a.back

-- the level of input region m: a region and its count alternate after the search variables
abbrev pub region_level : Layout → Answer → ℕ → ℕ
region_level l a m = l.scope + length a.bounds + 2 * (m - 1)

abbrev pub with_fresh : Layout → ArmBuilder → List ItemTree
with_fresh l k = (if nat_lt 0 (length l.out_sets) then k.items ++ (let_item (fresh_code l k.names) ∷ []) else k.items)

-- the output with level x
abbrev pub give_code : Layout → Answer → ArmBuilder → ℕ → CodeTree
give_code l a k x =
    (if has_level l.out_numbers x then code_var (level_of k.names (number_column l x))
    else set_code l k.names (region_level l a) k.level (place x l.out_sets))

abbrev pub gives : Layout → Answer → ArmBuilder → List CodeTree
gives l a k = map (give_code l a k) (range_with_len l.scope (length l.out_numbers + length l.out_sets))

-- the arm of a case with all that its elimination made
unfoldable pub arm : Layout → Answer → ArmTree
arm l a = arm_of (map (λ (c, p). p) a.bounds) (items_of (with_fresh l (computed l a))) (codes_of (gives l a (computed l a)))
