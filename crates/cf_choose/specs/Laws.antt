-- What holds of the arms of every choose that no limit refuses, by their definition alone.
use Rattle.std.specs.Prelude.{◌≡◌, ◌<◌, ◌≤◌, ◌^◌, List, ◌++◌, length, All, None}
use Rattle.cf_tree.specs.declared.base.Base.{Base}
use Rattle.cf_tree.specs.CodeTree.{ArmTrees, arms_of, arms_depth}
use Rattle.cf_tree.specs.Relation.{IsTyped, IsLinear}
use Rattle.cf_tree.specs.RelTree.{RelTree}
use Rattle.cf_tree.specs.Solving.{Solves}
use Rattle.cf_tree.specs.Spelled.{AreArmsSpelled}
use Rattle.cf_tree.specs.Typing.{ArmsHave}
use Rattle.cf_linear.specs.Chooses.{arms, limit}
use Rattle.cf_choose.specs.Solved.{IsOutput, HasArms}

-- a typed and linear relation that passes no limit
pub record IsUnrefused (scope outputs : List Base) (rel : RelTree) : Type 0 where
  pub typed : IsTyped (scope ++ outputs) rel
  pub linear : IsLinear rel
  pub are_outputs : All IsOutput outputs
  pub within : limit scope outputs rel ≡ None

-- the arms of the definition are so for each such relation
abbrev pub OfArms : (List Base → List Base → RelTree → ArmTrees → Type 0) → Type 0
OfArms Is = (scope outputs : List Base) (rel : RelTree) → IsUnrefused scope outputs rel → Is scope outputs rel (arms_of (arms scope outputs rel))

-- there is an arm, and the arms solve the relation
abbrev pub ArmsSolveAll : Type 0
ArmsSolveAll = OfArms (λ scope outputs rel as_. HasArms as_ × Solves scope outputs rel as_)

-- the arms give the outputs' bases over the scope
abbrev pub ArmsAreTyped : Type 0
ArmsAreTyped = OfArms (λ scope outputs rel as_. ArmsHave as_ scope outputs)

-- so few variables are in scope that each level of an arm is a number of 32 bits
abbrev pub HasLevels : List Base → Type 0
HasLevels scope = length scope < 2 ^ 31

-- the arms are not deep, and over such a scope they have a spelling where they give something
abbrev pub ArmsHaveSpelling : Type 0
ArmsHaveSpelling = OfArms (λ scope outputs rel as_. (arms_depth as_ ≤ 16) × (HasLevels scope → 1 ≤ length outputs → AreArmsSpelled as_))
