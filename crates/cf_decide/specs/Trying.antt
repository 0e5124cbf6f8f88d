-- What a run of the arms shows.
use Rattle.std.specs.Prelude.{List}
use Rattle.cf_tree.specs.declared.base.Base.{Base}
use Rattle.cf_tree.specs.Relation.{Sol}
use Rattle.cf_tree.specs.RelTree.{RelTree}
use Rattle.cf_tree.specs.Values.{Value, HaveBases}

-- an environment of the scope in which no outputs solve the relation
pub record IsUnsolved (scope outputs : List Base) (rel : RelTree) (env : List Value) : Type 0 where
  pub bases : HaveBases scope env
  pub unsolved : (xs : List Value) → Sol outputs rel env xs → ⊥
