-- Which numbers nothing bounds in a relation.
use Rattle.std.specs.Prelude.{ℕ, ◌≡◌, ◌≢◌, List}
use Rattle.cf_tree.specs.Relation.{Holds}
use Rattle.cf_tree.specs.RelTree.{RelTree}
use Rattle.cf_tree.specs.Values.{Value, elements_of, number_of, value_at}

-- the same values, but for the number of level x
pub record AreButFor (x : ℕ) (env other : List Value) : Type 0 where
  pub numbers : (y : ℕ) → y ≢ x → number_of (value_at other y) ≡ number_of (value_at env y)
  pub sets : (y : ℕ) → elements_of (value_at other y) ≡ elements_of (value_at env y)

-- nothing bounds the number of level x: where the relation holds, it does so whatever that number is
pub record IsUnbounded (x : ℕ) (r : RelTree) : Type 0 where
  pub any : (env other : List Value) → AreButFor x env other → Holds r env → Holds r other
