-- The depth and the spelling of code behind more variables.
use Rattle.std.proofs.Common.{◌≡◌, ℕ, refl}
use Rattle.cf_tree.specs.CodeTree.{CodeTree, code_lit, code_truth, code_var, code_set_of, code_tuple, code_sum, code_sub, code_mul, code_neg, code_div, code_mod, code_min, code_max, code_compare, code_divides, code_and, code_or, code_not, code_union, code_inter, code_diff, code_subset, code_card, code_slice, code_fresh, code_if, code_let, code_solve, CodeTrees, no_codes, code_more, ItemTree, let_item, need_item, ItemTrees, no_items, item_more, ArmTree, arm_of, ArmTrees, no_arms, arm_more, code_depth, codes_depth, item_depth, items_depth, arm_depth, arms_depth}
use Rattle.cf_tree.specs.Spelled.{IsNoTuple, AreGives, IsSpelled, AreSpelled, AreItemsSpelled, AreArmsSpelled}
use Rattle.cf_shift.specs.Shifted.{shifted, all_shifted, item_shifted, items_shifted, arm_shifted, arms_shifted, HasLevels, HaveLevels, ItemsHaveLevels, ArmsHaveLevels}
use Rattle.cf_shift.proofs.ShiftedTyping.{count_shifted}

mutual
  pub depth_same : (by : ℕ) (c : CodeTree) → code_depth (shifted by c) ≡ code_depth c
  depth_same by (code_lit k) = refl
  depth_same by (code_truth t) = refl
  depth_same by (code_var x) = refl
  depth_same by (code_set_of cs) = rw (depths_same by cs) refl
  depth_same by (code_tuple cs) = rw (depths_same by cs) refl
  depth_same by (code_sum cs) = rw (depths_same by cs) refl
  depth_same by (code_sub a b) = rw (depth_same by a, depth_same by b) refl
  depth_same by (code_mul a b) = rw (depth_same by a, depth_same by b) refl
  depth_same by (code_neg a) = rw (depth_same by a) refl
  depth_same by (code_div a k) = rw (depth_same by a) refl
  depth_same by (code_mod a k) = rw (depth_same by a) refl
  depth_same by (code_min cs) = rw (depths_same by cs) refl
  depth_same by (code_max cs) = rw (depths_same by cs) refl
  depth_same by (code_compare o a b) = rw (depth_same by a, depth_same by b) refl
  depth_same by (code_divides k a) = rw (depth_same by a) refl
  depth_same by (code_and a b) = rw (depth_same by a, depth_same by b) refl
  depth_same by (code_or a b) = rw (depth_same by a, depth_same by b) refl
  depth_same by (code_not a) = rw (depth_same by a) refl
  depth_same by (code_union cs) = rw (depths_same by cs) refl
  depth_same by (code_inter cs) = rw (depths_same by cs) refl
  depth_same by (code_diff a b) = rw (depth_same by a, depth_same by b) refl
  depth_same by (code_subset a b) = rw (depth_same by a, depth_same by b) refl
  depth_same by (code_card a) = rw (depth_same by a) refl
  depth_same by (code_slice a b c) = rw (depth_same by a, depth_same by b, depth_same by c) refl
  depth_same by (code_fresh a b) = rw (depth_same by a, depth_same by b) refl
  depth_same by (code_if a b c) = rw (depth_same by a, depth_same by b, depth_same by c) refl
  depth_same by (code_let first n a b) = rw (depth_same by a, depth_same by b) refl
  depth_same by (code_solve n arms) = rw (arms_depth_same by arms) refl

  depths_same : (by : ℕ) (cs : CodeTrees) → codes_depth (all_shifted by cs) ≡ codes_depth cs
  depths_same by no_codes = refl
  depths_same by (code_more c cs) = rw (depth_same by c, depths_same by cs) refl

  item_depth_same : (by : ℕ) (i : ItemTree) → item_depth (item_shifted by i) ≡ item_depth i
  item_depth_same by (let_item c) = depth_same by c
  item_depth_same by (need_item c) = depth_same by c

  items_depth_same : (by : ℕ) (is : ItemTrees) → items_depth (items_shifted by is) ≡ items_depth is
  items_depth_same by no_items = refl
  items_depth_same by (item_more i is) = rw (item_depth_same by i, items_depth_same by is) refl

  arm_depth_same : (by : ℕ) (a : ArmTree) → arm_depth (arm_shifted by a) ≡ arm_depth a
  arm_depth_same by (arm_of bounds is gs) = rw (items_depth_same by is, depths_same by gs) refl

  arms_depth_same : (by : ℕ) (arms : ArmTrees) → arms_depth (arms_shifted by arms) ≡ arms_depth arms
  arms_depth_same by no_arms = refl
  arms_depth_same by (arm_more a arms) = rw (arm_depth_same by a, arms_depth_same by arms) refl

no_tuple : (by : ℕ) (c : CodeTree) → IsNoTuple c → IsNoTuple (shifted by c)
no_tuple by (code_tuple cs) h = absurd h
no_tuple by c h = tt

gives_shifted : (by : ℕ) (gs : CodeTrees) → AreGives gs → AreGives (all_shifted by gs)
gives_shifted by no_codes h = absurd h
gives_shifted by (code_more c no_codes) h = no_tuple by c h
gives_shifted by (code_more c (code_more d gs)) h = tt

mutual
  pub spelled_shifted : (by : ℕ) (c : CodeTree) → IsSpelled c → HasLevels (shifted by c) → IsSpelled (shifted by c)
  spelled_shifted by (code_lit k) h l = h
  spelled_shifted by (code_truth t) h l = tt
  spelled_shifted by (code_var x) h l = l
  spelled_shifted by (code_set_of cs) h l = all_spelled by cs h l
  spelled_shifted by (code_tuple cs) h l = (rw (count_shifted by cs) h.0, all_spelled by cs h.1 l)
  spelled_shifted by (code_sum cs) h l = (rw (count_shifted by cs) h.0, all_spelled by cs h.1 l)
  spelled_shifted by (code_sub a b) h l = (spelled_shifted by a h.0 l.0, spelled_shifted by b h.1 l.1)
  spelled_shifted by (code_mul a b) h l = (spelled_shifted by a h.0 l.0, spelled_shifted by b h.1 l.1)
  spelled_shifted by (code_neg a) h l = spelled_shifted by a h l
  spelled_shifted by (code_div a k) h l = (h.0, spelled_shifted by a h.1 l)
  spelled_shifted by (code_mod a k) h l = (h.0, spelled_shifted by a h.1 l)
  spelled_shifted by (code_min cs) h l = (rw (count_shifted by cs) h.0, all_spelled by cs h.1 l)
  spelled_shifted by (code_max cs) h l = (rw (count_shifted by cs) h.0, all_spelled by cs h.1 l)
  spelled_shifted by (code_compare o a b) h l = (spelled_shifted by a h.0 l.0, spelled_shifted by b h.1 l.1)
  spelled_shifted by (code_divides k a) h l = (h.0, spelled_shifted by a h.1 l)
  spelled_shifted by (code_and a b) h l = (spelled_shifted by a h.0 l.0, spelled_shifted by b h.1 l.1)
  spelled_shifted by (code_or a b) h l = (spelled_shifted by a h.0 l.0, spelled_shifted by b h.1 l.1)
  spelled_shifted by (code_not a) h l = spelled_shifted by a h l
  spelled_shifted by (code_union cs) h l = (rw (count_shifted by cs) h.0, all_spelled by cs h.1 l)
  spelled_shifted by (code_inter cs) h l = (rw (count_shifted by cs) h.0, all_spelled by cs h.1 l)
  spelled_shifted by (code_diff a b) h l = (spelled_shifted by a h.0 l.0, spelled_shifted by b h.1 l.1)
  spelled_shifted by (code_subset a b) h l = (spelled_shifted by a h.0 l.0, spelled_shifted by b h.1 l.1)
  spelled_shifted by (code_card a) h l = spelled_shifted by a h l
  spelled_shifted by (code_slice a b c) h l = (spelled_shifted by a h.0 l.0, spelled_shifted by b h.1 l.1, spelled_shifted by c h.2 l.2)
  spelled_shifted by (code_fresh a b) h l = (spelled_shifted by a h.0 l.0, spelled_shifted by b h.1 l.1)
  spelled_shifted by (code_if a b c) h l = (spelled_shifted by a h.0 l.0, spelled_shifted by b h.1 l.1, spelled_shifted by c h.2 l.2)
  spelled_shifted by (code_let first n a b) h l = (h.0, l.0, spelled_shifted by a h.2 l.1, spelled_shifted by b h.3 l.2)
  spelled_shifted by (code_solve n arms) h l = (h.0, arms_spelled by arms h.1 l)

  all_spelled : (by : ℕ) (cs : CodeTrees) → AreSpelled cs → HaveLevels (all_shifted by cs) → AreSpelled (all_shifted by cs)
  all_spelled by no_codes h l = tt
  all_spelled by (code_more c cs) h l = (spelled_shifted by c h.0 l.0, all_spelled by cs h.1 l.1)

  items_spelled : (by : ℕ) (is : ItemTrees) → AreItemsSpelled is → ItemsHaveLevels (items_shifted by is) → AreItemsSpelled (items_shifted by is)
  items_spelled by no_items h l = tt
  items_spelled by (item_more (let_item c) is) h l = (spelled_shifted by c h.0 l.0, items_spelled by is h.1 l.1)
  items_spelled by (item_more (need_item c) is) h l = (spelled_shifted by c h.0 l.0, items_spelled by is h.1 l.1)

  arms_spelled : (by : ℕ) (arms : ArmTrees) → AreArmsSpelled arms → ArmsHaveLevels (arms_shifted by arms) → AreArmsSpelled (arms_shifted by arms)
  arms_spelled by no_arms h l = tt
  arms_spelled by (arm_more (arm_of bounds is gs) arms) h l = (
    h.0,
    items_spelled by is h.1 l.0.0,
    gives_shifted by gs h.2,
    all_spelled by gs h.3 l.0.1,
    arms_spelled by arms h.4 l.1,
  )
