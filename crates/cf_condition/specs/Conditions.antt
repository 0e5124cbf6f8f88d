-- The condition of arms.
use Rattle.std.specs.Prelude.{◌≡◌, ◌↔◌, ℕ, List, [], ◌∷◌, ◌++◌, Option, Some, None, if◌then◌else◌}
use Rattle.cf_tree.specs.declared.base.Base.{Base}
use Rattle.cf_tree.specs.declared.rel.Rel.{Rel}
use Rattle.cf_tree.specs.CodeTree.{ItemTree, let_item, need_item, ItemTrees, no_items, item_more, ArmTree, arm_of, ArmTrees, no_arms, arm_more}
use Rattle.cf_tree.specs.RelTree.{RelTree, rel_true, rel_false}
use Rattle.cf_tree.specs.RelView.{rel_tree}
use Rattle.cf_tree.specs.Relation.{Holds, IsLinear, IsTyped}
use Rattle.cf_tree.specs.Spelled.{AreItemsSpelled}
use Rattle.cf_tree.specs.Solving.{HoldSomewhere}
use Rattle.cf_tree.specs.Values.{Value, HaveBases}
use Rattle.cf_condition.specs.declared.pairing.Pairing.TheVariants.{And, Or}
use Rattle.cf_condition.specs.Forms.{FormTree, number_form, set_form, truth_form, unwritten, is_written, paired, form_in, scope_forms}

-- the lets and needs of all arms have a spelling, so that their numbers are within the limit
abbrev pub AreNeedsSpelled : ArmTrees → Type 0
AreNeedsSpelled no_arms = Unit {0}
AreNeedsSpelled (arm_more (arm_of bounds is gs) arms) = AreItemsSpelled is × AreNeedsSpelled arms

-- a linear relation that holds exactly where the needs of some arm do; it is one over the scope, where the needs have a spelling
pub record IsCondition (scope : List Base) (arms : ArmTrees) (rel : RelTree) : Type 0 where
  pub holds : (env : List Value) → HaveBases scope env → Holds rel env ↔ HoldSomewhere arms env
  pub linear : IsLinear rel
  pub typed : AreNeedsSpelled arms → IsTyped scope rel

-- ---- which arms have one
-- what the variables so far stand for, and the needs so far
pub record Walk : Type 0 where
  pub forms : List FormTree
  pub needs : FormTree

-- the needs, where the form of a let is written
abbrev pub if_written : FormTree → FormTree → FormTree
if_written f needs = if is_written f then needs else unwritten

abbrev pub bound : Walk → FormTree → Walk
bound w f = record { forms = w.forms ++ (f ∷ []); needs = if_written f w.needs }

abbrev pub needed : Walk → FormTree → Walk
needed w f = record { forms = w.forms; needs = paired And w.needs f }

abbrev pub step_in : Walk → ItemTree → Walk
step_in w (let_item c) = bound w (form_in w.forms c)
step_in w (need_item c) = needed w (form_in w.forms c)

abbrev pub items_in : Walk → ItemTrees → Walk
items_in w no_items = w
items_in w (item_more i is) = items_in (step_in w i) is

-- an arm that searches has no condition: there is no "some" in a relation
abbrev pub arm_in : List Base → ArmTree → FormTree
arm_in scope (arm_of [] is gs) = (items_in (record { forms = scope_forms 0 scope; needs = truth_form rel_true }) is).needs
arm_in scope (arm_of (b ∷ bounds) is gs) = unwritten

-- behind what stands before it
abbrev pub arms_in : List Base → FormTree → ArmTrees → FormTree
arms_in scope f no_arms = f
arms_in scope f (arm_more a arms) = arms_in scope (paired Or f (arm_in scope a)) arms

-- where the needs of some arm hold
abbrev pub all_in : List Base → ArmTrees → FormTree
all_in scope arms = arms_in scope (truth_form rel_false) arms

-- the relation that is written, if one is
abbrev pub written : FormTree → Option RelTree
written (number_form t) = None
written (set_form s) = None
written (truth_form r) = Some r
written unwritten = None

-- the condition as it is written, before anything is put more simply
abbrev pub condition_of : List Base → ArmTrees → Option RelTree
condition_of scope arms = written (all_in scope arms)

-- the condition, or none exactly where nothing is written
abbrev pub ConditionAnswer : List Base → ArmTrees → Option Rel → Type 0
ConditionAnswer scope arms (Some rel) = IsCondition scope arms (rel_tree rel)
ConditionAnswer scope arms None = condition_of scope arms ≡ None
