-- Chooses that may be solved once the numbers in scope are known.
use Rattle.std.specs.Prelude.{List, ◌++◌, length, All}
use Rattle.cf_tree.specs.declared.base.Base.{Base}
use Rattle.cf_tree.specs.Relation.{IsTyped}
use Rattle.cf_tree.specs.RelTree.{RelTree}
use Rattle.cf_choose.specs.Solved.{IsOutput}
use Rattle.cf_program.specs.LateLinear.{IsLateLinear}

-- the relation is typed over its scope and outputs, which are numbers and sets, and linear once the scope is known
pub record IsLateChoose (scope outputs : List Base) (rel : RelTree) : Type 0 where
  pub typed : IsTyped (scope ++ outputs) rel
  pub linear : IsLateLinear (length scope) rel
  pub are_outputs : All IsOutput outputs
