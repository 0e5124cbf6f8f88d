-- A choose of a program.
use Rattle.std.specs.Prelude.{ℕ, List}
use Rattle.cf_tree.specs.declared.base.Base.{Base}
use Rattle.cf_tree.specs.RelTree.{RelTree}

-- its number, the names of the variables in scope by level, their bases and those of the outputs, and its relation
pub record ChooseTree : Type 0 where
  pub number : ℕ
  pub names : List (List ℕ)
  pub scope : List Base
  pub outputs : List Base
  pub relation : RelTree
