-- Programs in which a set stands.
use Rattle.std.specs.Prelude.{Bool, true, false, ◌||◌}
use Rattle.cf_tree.specs.declared.base.Base.{Base}
use Rattle.cf_tree.specs.declared.base.Base.TheVariants.{Int, Bool as Truth, Set}
use Rattle.cf_tree.specs.CodeTree.{CodeTree, code_lit, code_truth, code_var, code_set_of, code_tuple, code_sum, code_sub, code_mul, code_neg, code_div, code_mod, code_min, code_max, code_compare, code_divides, code_and, code_or, code_not, code_union, code_inter, code_diff, code_subset, code_card, code_slice, code_fresh, code_if, code_let, code_solve, CodeTrees, no_codes, code_more, ItemTree, let_item, need_item, ItemTrees, no_items, item_more, ArmTree, arm_of, ArmTrees, no_arms, arm_more}
use Rattle.cf_stmt.specs.Blocks.{Block, give, none, leave, bind, part, join, test, arm}

-- an operation on sets, or one that makes a set, is in the code
abbrev mutual
  pub uses_sets : CodeTree → Bool
  uses_sets (code_lit k) = false
  uses_sets (code_truth t) = false
  uses_sets (code_var x) = false
  uses_sets (code_set_of cs) = true
  uses_sets (code_tuple cs) = use_sets cs
  uses_sets (code_sum cs) = use_sets cs
  uses_sets (code_sub a b) = uses_sets a || uses_sets b
  uses_sets (code_mul a b) = uses_sets a || uses_sets b
  uses_sets (code_neg a) = uses_sets a
  uses_sets (code_div a k) = uses_sets a
  uses_sets (code_mod a k) = uses_sets a
  uses_sets (code_min cs) = use_sets cs
  uses_sets (code_max cs) = use_sets cs
  uses_sets (code_compare o a b) = uses_sets a || uses_sets b
  uses_sets (code_divides k a) = uses_sets a
  uses_sets (code_and a b) = uses_sets a || uses_sets b
  uses_sets (code_or a b) = uses_sets a || uses_sets b
  uses_sets (code_not a) = uses_sets a
  uses_sets (code_union cs) = true
  uses_sets (code_inter cs) = true
  uses_sets (code_diff a b) = true
  uses_sets (code_subset a b) = true
  uses_sets (code_card a) = true
  uses_sets (code_slice a b c) = true
  uses_sets (code_fresh a b) = true
  uses_sets (code_if t a b) = uses_sets t || (uses_sets a || uses_sets b)
  uses_sets (code_let first n a b) = uses_sets a || uses_sets b
  uses_sets (code_solve n arms) = arms_use_sets arms

  pub use_sets : CodeTrees → Bool
  use_sets no_codes = false
  use_sets (code_more c cs) = uses_sets c || use_sets cs

  pub item_uses_sets : ItemTree → Bool
  item_uses_sets (let_item c) = uses_sets c
  item_uses_sets (need_item c) = uses_sets c

  pub items_use_sets : ItemTrees → Bool
  items_use_sets no_items = false
  items_use_sets (item_more i is) = item_uses_sets i || items_use_sets is

  pub arm_uses_sets : ArmTree → Bool
  arm_uses_sets (arm_of ks is gs) = items_use_sets is || use_sets gs

  pub arms_use_sets : ArmTrees → Bool
  arms_use_sets no_arms = false
  arms_use_sets (arm_more a arms) = arm_uses_sets a || arms_use_sets arms

abbrev pub block_uses_sets : Block → Bool
block_uses_sets (give c) = uses_sets c
block_uses_sets (none n) = false
block_uses_sets leave = false
block_uses_sets (bind a b) = block_uses_sets a || block_uses_sets b
block_uses_sets (part a b) = block_uses_sets a || block_uses_sets b
block_uses_sets (join a b) = block_uses_sets a || block_uses_sets b
block_uses_sets (test t a b) = block_uses_sets t || (block_uses_sets a || block_uses_sets b)
block_uses_sets (arm ks a b) = block_uses_sets a || block_uses_sets b

abbrev pub is_set : Base → Bool
is_set Set = true
is_set Int = false
is_set Truth = false
