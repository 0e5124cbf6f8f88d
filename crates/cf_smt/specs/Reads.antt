-- Which variables codes and arms read.
use Rattle.std.specs.Prelude.{ℕ, Bool, false, ◌||◌, nat_eq}
use Rattle.cf_tree.specs.CodeTree.{CodeTree, code_lit, code_truth, code_var, code_set_of, code_tuple, code_sum, code_sub, code_mul, code_neg, code_div, code_mod, code_min, code_max, code_compare, code_divides, code_and, code_or, code_not, code_union, code_inter, code_diff, code_subset, code_card, code_slice, code_fresh, code_if, code_let, code_solve, CodeTrees, no_codes, code_more, ItemTree, let_item, need_item, ItemTrees, no_items, item_more, ArmTree, arm_of, ArmTrees, no_arms, arm_more}

abbrev mutual
  pub reads : ℕ → CodeTree → Bool
  reads x (code_lit k) = false
  reads x (code_truth t) = false
  reads x (code_var y) = nat_eq y x
  reads x (code_set_of cs) = some_read x cs
  reads x (code_tuple cs) = some_read x cs
  reads x (code_sum cs) = some_read x cs
  reads x (code_sub a b) = reads x a || reads x b
  reads x (code_mul a b) = reads x a || reads x b
  reads x (code_neg a) = reads x a
  reads x (code_div a k) = reads x a
  reads x (code_mod a k) = reads x a
  reads x (code_min cs) = some_read x cs
  reads x (code_max cs) = some_read x cs
  reads x (code_compare o a b) = reads x a || reads x b
  reads x (code_divides k a) = reads x a
  reads x (code_and a b) = reads x a || reads x b
  reads x (code_or a b) = reads x a || reads x b
  reads x (code_not a) = reads x a
  reads x (code_union cs) = some_read x cs
  reads x (code_inter cs) = some_read x cs
  reads x (code_diff a b) = reads x a || reads x b
  reads x (code_subset a b) = reads x a || reads x b
  reads x (code_card a) = reads x a
  reads x (code_slice a b c) = reads x a || reads x b || reads x c
  reads x (code_fresh a b) = reads x a || reads x b
  reads x (code_if t a b) = reads x t || reads x a || reads x b
  reads x (code_let first n a b) = reads x a || reads x b
  reads x (code_solve n arms) = arms_read x arms

  pub some_read : ℕ → CodeTrees → Bool
  some_read x no_codes = false
  some_read x (code_more c cs) = reads x c || some_read x cs

  pub item_reads : ℕ → ItemTree → Bool
  item_reads x (let_item c) = reads x c
  item_reads x (need_item c) = reads x c

  pub items_read : ℕ → ItemTrees → Bool
  items_read x no_items = false
  items_read x (item_more i is) = item_reads x i || items_read x is

  pub arm_reads : ℕ → ArmTree → Bool
  arm_reads x (arm_of bounds is gs) = items_read x is || some_read x gs

  pub arms_read : ℕ → ArmTrees → Bool
  arms_read x no_arms = false
  arms_read x (arm_more a arms) = arm_reads x a || arms_read x arms
