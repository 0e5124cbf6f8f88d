-- Laws of conditions.
use Rattle.std.specs.Prelude.{◌≡◌, List, Some}
use Rattle.cf_tree.specs.declared.base.Base.{Base}
use Rattle.cf_tree.specs.CodeTree.{CodeTree, ArmTrees}
use Rattle.cf_tree.specs.Meaning.{path}
use Rattle.cf_tree.specs.RelTree.{RelTree}
use Rattle.cf_tree.specs.Values.{Value}
use Rattle.cf_condition.specs.Conditions.{IsCondition, condition_of}
use Rattle.cf_condition.specs.Forms.{FormTree, form_in}
use Rattle.cf_condition.specs.Standing.{AllStand, GivesForm}

-- a code gives what its form says
abbrev pub FormsAreRight : Type 0
FormsAreRight = (fs : List FormTree) (c : CodeTree) (env e : List Value) → AllStand fs env e → GivesForm (form_in fs c) env (path c e).gives

-- what is written is a condition
abbrev pub WrittenIsCondition : Type 0
WrittenIsCondition = (scope : List Base) (arms : ArmTrees) (rel : RelTree) → condition_of scope arms ≡ Some rel → IsCondition scope arms rel
