-- A relation over counts of regions, in the place of its sets.
use Rattle.std.specs.Prelude.{ℕ, ◌+◌, ◌-◌, pos, List, [], ◌∷◌, ◌++◌, length, map, filter}
use Rattle.cf_tree.specs.declared.base.Base.{Base}
use Rattle.cf_tree.specs.declared.base.Base.TheVariants.{Int}
use Rattle.cf_tree.specs.declared.base.Order.TheVariants.{Ge}
use Rattle.cf_tree.specs.RelTree.{SetTree, union_of, diff_of, TermTree, term_lit, term_var, term_card, term_neg, term_add, term_sub, term_mul, term_div, term_mod, term_abs, RelTree, rel_true, rel_false, rel_compare, rel_same_set, rel_other_set, rel_subset, rel_divides, rel_and, rel_or, rel_not}
use Rattle.cf_tree.specs.Relation.{Holds, IsTyped, IsLinear}
use Rattle.cf_tree.specs.Values.{Value, HaveBases}
use Rattle.cf_linear.specs.Layout.{Layout, layout_of, set_count, masks, covers}

-- the level of the count of the region of a mask: that of the mask 1 is the first
abbrev pub count_level : ℕ → ℕ → ℕ
count_level first m = first + m - 1

-- the sum of the numbers of these levels
abbrev pub sum_of : List ℕ → TermTree
sum_of [] = term_lit (pos 0)
sum_of (x ∷ xs) = term_add (term_var x) (sum_of xs)

-- how many elements a set form has: the sum of the counts of its regions
abbrev pub size_of : Layout → ℕ → SetTree → TermTree
size_of l first s = sum_of (map (count_level first) (filter (covers l s) (masks (set_count l))))

-- what lies in exactly one of two
abbrev pub apart : SetTree → SetTree → SetTree
apart a b = union_of (diff_of a b) (diff_of b a)

-- that the set form has elements
abbrev pub is_some : Layout → ℕ → SetTree → RelTree
is_some l first s = rel_compare Ge (size_of l first s) (term_lit (pos 1))

abbrev pub counted_term : Layout → ℕ → TermTree → TermTree
counted_term l first (term_lit n) = term_lit n
counted_term l first (term_var x) = term_var x
counted_term l first (term_card s) = size_of l first s
counted_term l first (term_neg a) = term_neg (counted_term l first a)
counted_term l first (term_add a b) = term_add (counted_term l first a) (counted_term l first b)
counted_term l first (term_sub a b) = term_sub (counted_term l first a) (counted_term l first b)
counted_term l first (term_mul a b) = term_mul (counted_term l first a) (counted_term l first b)
counted_term l first (term_div a k) = term_div (counted_term l first a) k
counted_term l first (term_mod a k) = term_mod (counted_term l first a) k
counted_term l first (term_abs a) = term_abs (counted_term l first a)

-- sets are the same where nothing lies in exactly one, and one is within the other where nothing lies in the first alone
abbrev pub counted : Layout → ℕ → RelTree → RelTree
counted l first rel_true = rel_true
counted l first rel_false = rel_false
counted l first (rel_compare o a b) = rel_compare o (counted_term l first a) (counted_term l first b)
counted l first (rel_same_set a b) = rel_not (is_some l first (apart a b))
counted l first (rel_other_set a b) = is_some l first (apart a b)
counted l first (rel_subset a b) = rel_not (is_some l first (diff_of a b))
counted l first (rel_divides k t) = rel_divides k (counted_term l first t)
counted l first (rel_and p q) = rel_and (counted l first p) (counted l first q)
counted l first (rel_or p q) = rel_or (counted l first p) (counted l first q)
counted l first (rel_not p) = rel_not (counted l first p)

-- that the counts of these regions are at least 0
abbrev pub are_counts : ℕ → List ℕ → RelTree
are_counts first [] = rel_true
are_counts first (m ∷ ms) = rel_and (rel_compare Ge (term_var (count_level first m)) (term_lit (pos 0))) (are_counts first ms)

abbrev pub over_counts : Layout → ℕ → RelTree → RelTree
over_counts l first rel = rel_and (are_counts first (masks (set_count l))) (counted l first rel)

-- the bases of the counts
abbrev pub count_bases : Layout → List Base
count_bases l = map (λ m. Int) (masks (set_count l))

-- where a relation holds, it holds over the counts of the regions of its sets, which stand behind its variables
abbrev pub CountsHold : Type 0
CountsHold =
    (bases : List Base) (rel : RelTree) → IsTyped bases rel → IsLinear rel → (env : List Value) → HaveBases bases env → Holds rel env →
    (counts : List Value) × HaveBases (count_bases (layout_of bases [] rel)) counts
    × Holds (over_counts (layout_of bases [] rel) (length bases) rel) (env ++ counts)
