-- What a relation comes to whose problem has no solution.
use Rattle.std.specs.Prelude.{◌≤◌, ◌<◌, ◌^◌, List, ◌++◌}
use Rattle.cf_tree.specs.declared.base.Base.{Base}
use Rattle.cf_tree.specs.RelTree.{RelTree}
use Rattle.cf_tree.specs.Relation.{Holds}
use Rattle.cf_tree.specs.Values.{Value, HaveBases}
use Rattle.cf_linear.specs.declared.refusal.TheConstants.{MOST_SETS}
use Rattle.cf_linear.specs.Layout.{Layout, set_count, first_free}

-- no values of these bases satisfy the relation
pub record NeverHolds (scope outputs : List Base) (rel : RelTree) : Type 0 where
  pub never : (env xs : List Value) → HaveBases scope env → HaveBases outputs xs → Holds rel (env ++ xs) → ⊥

-- the layout has few sets, and its columns are numbers of 32 bits
pub record HasColumns (l : Layout) : Type 0 where
  pub sets : set_count l ≤ MOST_SETS
  pub room : first_free l < 2 ^ 32
