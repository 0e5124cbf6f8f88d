-- The plain trees that codes of the program stand for.
use Rattle.std.specs.Prelude.{List, map}
use Rattle.cf_tree.specs.CodeTree.{CodeTree, code_lit, code_truth, code_var, code_set_of, code_tuple, code_sum, code_sub, code_mul, code_neg, code_div, code_mod, code_min, code_max, code_compare, code_divides, code_and, code_or, code_not, code_union, code_inter, code_diff, code_subset, code_card, code_slice, code_fresh, code_if, code_let, code_solve, CodeTrees, ItemTree, let_item, need_item, ItemTrees, ArmTree, arm_of, ArmTrees, codes_of, items_of, arms_of}
use Rattle.cf_tree.specs.declared.code.Code.{Code}
use Rattle.cf_tree.specs.declared.code.Item.{Item}
use Rattle.cf_tree.specs.declared.code.Arm.{Arm}
use Rattle.cf_tree.specs.declared.code.Code.TheOpen.{Code-F, Item-F, Arm-F, Code::Let, Item::Let}
use Rattle.cf_tree.specs.declared.code.Code.TheFolds.{fold-Code, fold-Item, fold-Arm}

-- one level, with the trees of the parts in their places
abbrev pub code_step : Code-F CodeTree ItemTree ArmTree → CodeTree
code_step (Code-F.Lit k) = code_lit k
code_step (Code-F.Truth t) = code_truth t
code_step (Code-F.Var n) = code_var n
code_step (Code-F.SetOf cs) = code_set_of (codes_of cs.items)
code_step (Code-F.Tuple cs) = code_tuple (codes_of cs.items)
code_step (Code-F.Sum cs) = code_sum (codes_of cs.items)
code_step (Code-F.Sub a b) = code_sub a.value b.value
code_step (Code-F.Mul a b) = code_mul a.value b.value
code_step (Code-F.Neg a) = code_neg a.value
code_step (Code-F.Div a k) = code_div a.value k
code_step (Code-F.Mod a k) = code_mod a.value k
code_step (Code-F.Min cs) = code_min (codes_of cs.items)
code_step (Code-F.Max cs) = code_max (codes_of cs.items)
code_step (Code-F.Compare o a b) = code_compare o a.value b.value
code_step (Code-F.Divides k a) = code_divides k a.value
code_step (Code-F.And a b) = code_and a.value b.value
code_step (Code-F.Or a b) = code_or a.value b.value
code_step (Code-F.Not a) = code_not a.value
code_step (Code-F.Union cs) = code_union (codes_of cs.items)
code_step (Code-F.Inter cs) = code_inter (codes_of cs.items)
code_step (Code-F.Diff a b) = code_diff a.value b.value
code_step (Code-F.Subset a b) = code_subset a.value b.value
code_step (Code-F.Card a) = code_card a.value
code_step (Code-F.Slice a b c) = code_slice a.value b.value c.value
code_step (Code-F.Fresh a b) = code_fresh a.value b.value
code_step (Code-F.If a b c) = code_if a.value b.value c.value
code_step (Code::Let n n' a b) = code_let n n' a.value b.value
code_step (Code-F.Solve n arms) = code_solve n (arms_of arms.items)

abbrev pub item_step : Item-F CodeTree ItemTree ArmTree → ItemTree
item_step (Item::Let c) = let_item c
item_step (Item-F.Need c) = need_item c

abbrev pub arm_step : Arm-F CodeTree ItemTree ArmTree → ArmTree
arm_step a = arm_of a.bounds.items (items_of a.items.items) (codes_of a.gives.items)

abbrev pub code_tree : Code → CodeTree
code_tree = fold-Code CodeTree ItemTree ArmTree code_step item_step arm_step

abbrev pub item_tree : Item → ItemTree
item_tree = fold-Item CodeTree ItemTree ArmTree code_step item_step arm_step

abbrev pub arm_tree : Arm → ArmTree
arm_tree = fold-Arm CodeTree ItemTree ArmTree code_step item_step arm_step

abbrev pub code_trees : List Code → CodeTrees
code_trees cs = codes_of (map code_tree cs)

abbrev pub item_trees : List Item → ItemTrees
item_trees is = items_of (map item_tree is)

abbrev pub arm_trees : List Arm → ArmTrees
arm_trees arms = arms_of (map arm_tree arms)
