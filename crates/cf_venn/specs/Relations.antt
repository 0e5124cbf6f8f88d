-- A relation over numbers and the counts of regions.
use Rattle.std.specs.Prelude.{◌≡◌, ◌⊎◌, ◌↔◌, pos, ◌≤ℤ◌, List, ◌++◌}
use Rattle.cf_tree.specs.declared.base.Base.{Base}
use Rattle.cf_tree.specs.Numbers.{Compares}
use Rattle.cf_tree.specs.RelTree.{RelTree, rel_true, rel_false, rel_compare, rel_same_set, rel_other_set, rel_subset, rel_divides, rel_and, rel_or, rel_not}
use Rattle.cf_tree.specs.Relation.{IsTyped, IsLinear, Holds}
use Rattle.cf_tree.specs.Values.{Value, HaveBases}
use Rattle.cf_linear.specs.Cases.{in_first, in_one, none_rows}
use Rattle.cf_linear.specs.Layout.{Layout, layout_of, region_row}
use Rattle.cf_linear.specs.Systems.{EachRow}
use Rattle.cf_linear.specs.Relations.{Divides}
use Rattle.cf_linear.specs.Rows.{Values, value}
use Rattle.cf_linear.specs.Written.{val_at}
use Rattle.cf_venn.specs.Columns.{column_values}

-- the relation at values of the columns: sets are the same where no region lies in exactly one of them, and one is within the other where no region
-- lies in the first and not in the second
abbrev pub HoldsAt : Layout → Values → RelTree → Type 0
HoldsAt l v rel_true = Unit {0}
HoldsAt l v rel_false = ⊥
HoldsAt l v (rel_compare o a b) = Compares o (val_at l v a) (val_at l v b)
HoldsAt l v (rel_same_set a b) = EachRow (λ r. value v r ≡ pos 0) (none_rows l (in_one l a b))
HoldsAt l v (rel_other_set a b) = pos 1 ≤ℤ value v (region_row l (in_one l a b))
HoldsAt l v (rel_subset a b) = EachRow (λ r. value v r ≡ pos 0) (none_rows l (in_first l a b))
HoldsAt l v (rel_divides k t) = Divides k (val_at l v t)
HoldsAt l v (rel_and p q) = HoldsAt l v p × HoldsAt l v q
HoldsAt l v (rel_or p q) = HoldsAt l v p ⊎ HoldsAt l v q
HoldsAt l v (rel_not p) = HoldsAt l v p → ⊥

-- at the values of parameters and outputs a relation holds exactly where it holds over the numbers and the counts of the regions
abbrev pub HoldsByCounts : Type 0
HoldsByCounts =
    (scope outputs : List Base) (rel : RelTree) → IsTyped (scope ++ outputs) rel → IsLinear rel → (env xs : List Value) → HaveBases scope env →
    HaveBases outputs xs →
    Holds rel (env ++ xs) ↔ HoldsAt (layout_of scope outputs rel) (column_values (layout_of scope outputs rel) (env ++ xs)) rel
