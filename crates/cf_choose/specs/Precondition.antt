-- The precondition of a solved choose.
use Rattle.std.specs.Prelude.{◌↔◌, Bool, true, false, List}
use Rattle.cf_tree.specs.declared.base.Base.{Base}
use Rattle.cf_tree.specs.CodeTree.{CodeTree, no_codes, ItemTree, let_item, need_item, ItemTrees, no_items, item_more, ArmTree, arm_of, ArmTrees, no_arms}
use Rattle.cf_tree.specs.CodeTree.{arm_more}
use Rattle.cf_tree.specs.Relation.{Sol}
use Rattle.cf_tree.specs.RelTree.{RelTree}
use Rattle.cf_tree.specs.Solving.{HoldSomewhere}
use Rattle.cf_tree.specs.Values.{Value, HaveBases}

-- whether an item is a need
abbrev pub is_need : ItemTree → Bool
is_need (let_item c) = false
is_need (need_item c) = true

-- a let and these items, or nothing where there are none
abbrev pub let_before : CodeTree → ItemTrees → ItemTrees
let_before c no_items = no_items
let_before c (item_more i is) = item_more (let_item c) (item_more i is)

-- the items up to the last need
abbrev pub to_last_need : ItemTrees → ItemTrees
to_last_need no_items = no_items
to_last_need (item_more (let_item c) is) = let_before c (to_last_need is)
to_last_need (item_more (need_item c) is) = item_more (need_item c) (to_last_need is)

-- the arm with its items up to the last need, which gives nothing
abbrev pub needs_of : ArmTree → ArmTree
needs_of (arm_of bounds is gs) = arm_of bounds (to_last_need is) no_codes

abbrev pub all_needs : ArmTrees → ArmTrees
all_needs no_arms = no_arms
all_needs (arm_more a arms) = arm_more (needs_of a) (all_needs arms)

-- the needs of some arm hold at some tuple exactly where some outputs satisfy the relation
abbrev pub IsPrecondition : List Base → List Base → RelTree → ArmTrees → Type 0
IsPrecondition scope outputs rel arms = (env : List Value) → HaveBases scope env → HoldSomewhere arms env ↔ ((xs : List Value) × Sol outputs rel env xs)
