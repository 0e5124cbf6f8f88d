-- Which variables do not stand in a code.
use Rattle.std.specs.Prelude.{ℕ, ◌≢◌}
use Rattle.cf_tree.specs.CodeTree.{CodeTree, code_lit, code_truth, code_var, code_set_of, code_tuple, code_sum, code_sub, code_mul, code_neg, code_div, code_mod, code_min, code_max, code_compare, code_divides, code_and, code_or, code_not, code_union, code_inter, code_diff, code_subset, code_card, code_slice, code_fresh, code_if, code_let, code_solve, CodeTrees, no_codes, code_more, ItemTree, let_item, need_item, ItemTrees, no_items, item_more, arm_of, ArmTrees, no_arms, arm_more}

-- no variable in it has level x
abbrev mutual
  pub Lacks : ℕ → CodeTree → Type 0
  Lacks x (code_lit k) = Unit {0}
  Lacks x (code_truth t) = Unit {0}
  Lacks x (code_var y) = x ≢ y
  Lacks x (code_set_of cs) = AllLack x cs
  Lacks x (code_tuple cs) = AllLack x cs
  Lacks x (code_sum cs) = AllLack x cs
  Lacks x (code_sub a b) = Lacks x a × Lacks x b
  Lacks x (code_mul a b) = Lacks x a × Lacks x b
  Lacks x (code_neg a) = Lacks x a
  Lacks x (code_div a k) = Lacks x a
  Lacks x (code_mod a k) = Lacks x a
  Lacks x (code_min cs) = AllLack x cs
  Lacks x (code_max cs) = AllLack x cs
  Lacks x (code_compare o a b) = Lacks x a × Lacks x b
  Lacks x (code_divides k a) = Lacks x a
  Lacks x (code_and a b) = Lacks x a × Lacks x b
  Lacks x (code_or a b) = Lacks x a × Lacks x b
  Lacks x (code_not a) = Lacks x a
  Lacks x (code_union cs) = AllLack x cs
  Lacks x (code_inter cs) = AllLack x cs
  Lacks x (code_diff a b) = Lacks x a × Lacks x b
  Lacks x (code_subset a b) = Lacks x a × Lacks x b
  Lacks x (code_card a) = Lacks x a
  Lacks x (code_slice a b c) = Lacks x a × Lacks x b × Lacks x c
  Lacks x (code_fresh a b) = Lacks x a × Lacks x b
  Lacks x (code_if t a b) = Lacks x t × Lacks x a × Lacks x b
  Lacks x (code_let first n a b) = Lacks x a × Lacks x b
  Lacks x (code_solve n arms) = ArmsLack x arms

  pub AllLack : ℕ → CodeTrees → Type 0
  AllLack x no_codes = Unit {0}
  AllLack x (code_more c cs) = Lacks x c × AllLack x cs

  pub ItemLacks : ℕ → ItemTree → Type 0
  ItemLacks x (let_item c) = Lacks x c
  ItemLacks x (need_item c) = Lacks x c

  pub ItemsLack : ℕ → ItemTrees → Type 0
  ItemsLack x no_items = Unit {0}
  ItemsLack x (item_more i is) = ItemLacks x i × ItemsLack x is

  pub ArmsLack : ℕ → ArmTrees → Type 0
  ArmsLack x no_arms = Unit {0}
  ArmsLack x (arm_more (arm_of bounds is gs) arms) = ItemsLack x is × AllLack x gs × ArmsLack x arms
