-- Code whose levels fit behind more variables has levels that fit.
use Rattle.std.proofs.Common.{ℕ, arith}
use Rattle.cf_tree.specs.CodeTree.{CodeTree, code_lit, code_truth, code_var, code_set_of, code_tuple, code_sum, code_sub, code_mul, code_neg, code_div, code_mod, code_min, code_max, code_compare, code_divides, code_and, code_or, code_not, code_union, code_inter, code_diff, code_subset, code_card, code_slice, code_fresh, code_if, code_let, code_solve, CodeTrees, no_codes, code_more, let_item, need_item, ItemTrees, no_items, item_more, arm_of, ArmTrees, no_arms, arm_more}
use Rattle.cf_shift.specs.Shifted.{shifted, all_shifted, items_shifted, arms_shifted, HasLevels, HaveLevels, ItemsHaveLevels, ArmsHaveLevels}

mutual
  pub levels_before : (by : ℕ) (c : CodeTree) → HasLevels (shifted by c) → HasLevels c
  levels_before by (code_lit k) l = tt
  levels_before by (code_truth t) l = tt
  levels_before by (code_var x) l = omega (arith, l)
  levels_before by (code_set_of cs) l = all_before by cs l
  levels_before by (code_tuple cs) l = all_before by cs l
  levels_before by (code_sum cs) l = all_before by cs l
  levels_before by (code_sub a b) l = (levels_before by a l.0, levels_before by b l.1)
  levels_before by (code_mul a b) l = (levels_before by a l.0, levels_before by b l.1)
  levels_before by (code_neg a) l = levels_before by a l
  levels_before by (code_div a k) l = levels_before by a l
  levels_before by (code_mod a k) l = levels_before by a l
  levels_before by (code_min cs) l = all_before by cs l
  levels_before by (code_max cs) l = all_before by cs l
  levels_before by (code_compare o a b) l = (levels_before by a l.0, levels_before by b l.1)
  levels_before by (code_divides k a) l = levels_before by a l
  levels_before by (code_and a b) l = (levels_before by a l.0, levels_before by b l.1)
  levels_before by (code_or a b) l = (levels_before by a l.0, levels_before by b l.1)
  levels_before by (code_not a) l = levels_before by a l
  levels_before by (code_union cs) l = all_before by cs l
  levels_before by (code_inter cs) l = all_before by cs l
  levels_before by (code_diff a b) l = (levels_before by a l.0, levels_before by b l.1)
  levels_before by (code_subset a b) l = (levels_before by a l.0, levels_before by b l.1)
  levels_before by (code_card a) l = levels_before by a l
  levels_before by (code_slice a b c) l = (levels_before by a l.0, levels_before by b l.1, levels_before by c l.2)
  levels_before by (code_fresh a b) l = (levels_before by a l.0, levels_before by b l.1)
  levels_before by (code_if a b c) l = (levels_before by a l.0, levels_before by b l.1, levels_before by c l.2)
  levels_before by (code_let first n a b) l = (omega (arith, l.0), levels_before by a l.1, levels_before by b l.2)
  levels_before by (code_solve n arms) l = arms_before by arms l

  all_before : (by : ℕ) (cs : CodeTrees) → HaveLevels (all_shifted by cs) → HaveLevels cs
  all_before by no_codes l = tt
  all_before by (code_more c cs) l = (levels_before by c l.0, all_before by cs l.1)

  items_before : (by : ℕ) (is : ItemTrees) → ItemsHaveLevels (items_shifted by is) → ItemsHaveLevels is
  items_before by no_items l = tt
  items_before by (item_more (let_item c) is) l = (levels_before by c l.0, items_before by is l.1)
  items_before by (item_more (need_item c) is) l = (levels_before by c l.0, items_before by is l.1)

  arms_before : (by : ℕ) (arms : ArmTrees) → ArmsHaveLevels (arms_shifted by arms) → ArmsHaveLevels arms
  arms_before by no_arms l = tt
  arms_before by (arm_more (arm_of bounds is gs) arms) l = ((items_before by is l.0.0, all_before by gs l.0.1), arms_before by arms l.1)
