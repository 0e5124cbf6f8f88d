-- What a solved choose keeps, and what solving one answers.
use Rattle.std.specs.Prelude.{ℕ, ◌≤◌, ◌≡◌, List, ◌++◌, length, map, All, Some, None, Result, Ok, Err}
use Rattle.cf_tree.specs.declared.base.Base.{Base}
use Rattle.cf_tree.specs.declared.base.Base.TheVariants.{Int, Bool, Set}
use Rattle.cf_tree.specs.CodeTree.{ArmTrees, no_arms, arm_more, arms_depth}
use Rattle.cf_tree.specs.CodeView.{arm_tree, arm_trees}
use Rattle.cf_tree.specs.declared.code.Arm.{Arm}
use Rattle.cf_tree.specs.Relation.{IsTyped, IsLinear}
use Rattle.cf_tree.specs.RelTree.{RelTree}
use Rattle.cf_tree.specs.RelView.{rel_tree}
use Rattle.cf_tree.specs.Solving.{Solves}
use Rattle.cf_tree.specs.Spelled.{AreArmsSpelled}
use Rattle.cf_tree.specs.Typing.{ArmsHave}
use Rattle.cf_elim.specs.declared.solved.CaseParts.{CaseParts}
use Rattle.cf_linear.specs.declared.system.Layout.{Layout}
use Rattle.cf_linear.specs.Cases.{first_systems}
use Rattle.cf_linear.specs.Chooses.{arms, limit}
use Rattle.cf_linear.specs.Layout.{layout_of}
use Rattle.cf_linear.specs.Systems.{Step}
use Rattle.cf_linear.specs.Views.{plain_layout, step_of, bound_of}
use Rattle.cf_choose.specs.declared.fault.ChooseFault.{ChooseFault}
use Rattle.cf_choose.specs.declared.fault.ChooseFault.TheVariants.{Refused, NoMemory}
use Rattle.cf_choose.specs.Eliminations.{first_of, made}
use Rattle.cf_choose.specs.declared.solved.SolvedParts.{SolvedParts}

-- an output is a number or a set
abbrev pub IsOutput : Base → Type 0
IsOutput Int = Unit {0}
IsOutput Bool = ⊥
IsOutput Set = Unit {0}

-- at least one arm
abbrev pub HasArms : ArmTrees → Type 0
HasArms no_arms = ⊥
HasArms (arm_more a arms) = Unit {0}

-- there is an arm, and the arms solve the relation over these bases, are well typed, are not deep, and have a spelling where they give something
pub record ArmsSolve (scope outputs : List Base) (rel : RelTree) (arms : ArmTrees) : Type 0 where
  pub some : HasArms arms
  pub solves : Solves scope outputs rel arms
  pub typed : ArmsHave arms scope outputs
  pub shallow : arms_depth arms ≤ 16
  pub spelled : 1 ≤ length outputs → AreArmsSpelled arms

-- ---- cases
abbrev pub steps_of : CaseParts → List Step
steps_of c = map step_of c.steps.items

abbrev pub bounds_of : CaseParts → List (ℕ × ℕ)
bounds_of c = map bound_of c.bounds.items

-- the lets and needs of the elimination of each case, in order, and its searches with their bounds
abbrev pub case_steps : List Base → List Base → RelTree → List (List Step)
case_steps scope outputs rel = map (λ m. (made m).steps) (first_systems (layout_of scope outputs rel) rel)

abbrev pub case_bounds : List Base → List Base → RelTree → List (List (ℕ × ℕ))
case_bounds scope outputs rel = map (λ m. (made m).bounds) (first_systems (layout_of scope outputs rel) rel)

-- ---- what is kept
-- the relation is typed and linear and passes no limit, its layout, its cases and its arms are those of the definitions, and the arms solve it
pub record IsSolvedBy (scope outputs : List Base) (rel : RelTree) (layout : Layout) (cases : List CaseParts) (found : List Arm) : Type 0 where
  pub typed : IsTyped (scope ++ outputs) rel
  pub linear : IsLinear rel
  pub are_outputs : All IsOutput outputs
  pub within : limit scope outputs rel ≡ None
  pub layout_is : plain_layout layout ≡ layout_of scope outputs rel
  pub firsts_are : map first_of cases ≡ first_systems (layout_of scope outputs rel) rel
  pub steps_are : map steps_of cases ≡ case_steps scope outputs rel
  pub bounds_are : map bounds_of cases ≡ case_bounds scope outputs rel
  pub arms_are : map arm_tree found ≡ arms scope outputs rel
  pub solve : ArmsSolve scope outputs rel (arm_trees found)

abbrev pub IsSolved : SolvedParts → Type 0
IsSolved s = IsSolvedBy s.scope.items s.outputs.items (rel_tree s.rel) s.layout s.cases.items s.arms.items

-- a solved choose of this relation over this scope and these outputs
pub record IsOf (scope outputs : List Base) (rel : RelTree) (s : SolvedParts) : Type 0 where
  pub same_scope : s.scope.items ≡ scope
  pub same_outputs : s.outputs.items ≡ outputs
  pub same_relation : rel_tree s.rel ≡ rel
  pub solved : IsSolved s

-- the relation is solved, or its first limit refuses it, or memory ran out
abbrev pub SolveAnswer : List Base → List Base → RelTree → Result SolvedParts ChooseFault → Type 0
SolveAnswer scope outputs rel (Ok s) = IsOf scope outputs rel s
SolveAnswer scope outputs rel (Err (Refused r)) = limit scope outputs rel ≡ Some r
SolveAnswer scope outputs rel (Err NoMemory) = Unit {0}
