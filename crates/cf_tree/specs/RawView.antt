-- The plain trees that source expressions of the program stand for.
use Rattle.std.specs.Prelude.{List, map, Option, Some, None}
use Rattle.cf_tree.specs.RawTree.{RawTree, raw_lit, raw_truth, raw_name, raw_set_of, raw_group, raw_tuple, raw_neg, raw_not, raw_abs, raw_binary, raw_chain, raw_min, raw_max, raw_divides, raw_div, raw_mod, raw_card, raw_call, raw_if, raw_let, raw_choose, raw_match, RawTrees, RawArmTree, raw_arm, RawArmTrees, GivenTree, no_given, given_that, AimTree, no_aim, aim_at, raws_of, raw_arms_of, NumberTree, number_lit, number_name, PartTree}
use Rattle.cf_tree.specs.declared.base.Place.{Place}
use Rattle.cf_tree.specs.declared.raw.Number.{Number}
use Rattle.cf_tree.specs.declared.raw.Number.TheVariants.{Lit, Name}
use Rattle.cf_tree.specs.declared.raw.Part.{Part}
use Rattle.cf_tree.specs.declared.raw.Raw.{Raw}
use Rattle.cf_tree.specs.declared.raw.RawAim.{RawAim}
use Rattle.cf_tree.specs.declared.raw.RawArm.{RawArm}
use Rattle.cf_tree.specs.declared.raw.RawGiven.{RawGiven}
use Rattle.cf_tree.specs.declared.raw.RawNode.{RawNode}
use Rattle.cf_tree.specs.declared.raw.RawAim.TheOpen.{RawAim-F, RawGiven-F, RawNode-F, Raw-F, RawArm-F}
use Rattle.cf_tree.specs.declared.raw.RawAim.TheFolds.{fold-RawAim, fold-RawGiven, fold-RawNode, fold-Raw, fold-RawArm}

abbrev pub number_tree : Number → NumberTree
number_tree (Lit k) = number_lit k
number_tree (Name p x) = number_name p x

abbrev pub factor_tree : Option Number → Option NumberTree
factor_tree None = None
factor_tree (Some k) = Some (number_tree k)

abbrev pub part_tree : Part → PartTree
part_tree x = record { start = x.start; is_negative = x.is_negative; factor = factor_tree x.factor; place = x.place; name = x.name }

abbrev pub part_trees : List Part → List PartTree
part_trees parts = map part_tree parts

-- one level, with the trees of the parts in their places
abbrev pub raw_node_step : RawNode-F AimTree GivenTree (Place → RawTree) RawTree RawArmTree → Place → RawTree
raw_node_step (RawNode-F.Lit k) p = raw_lit p k
raw_node_step (RawNode-F.Truth t) p = raw_truth p t
raw_node_step (RawNode-F.Name x) p = raw_name p x
raw_node_step (RawNode-F.SetOf es) p = raw_set_of p (raws_of es.items)
raw_node_step (RawNode-F.Group a) p = raw_group p a.value
raw_node_step (RawNode-F.Tuple es) p = raw_tuple p (raws_of es.items)
raw_node_step (RawNode-F.Neg a) p = raw_neg p a.value
raw_node_step (RawNode-F.Not a) p = raw_not p a.value
raw_node_step (RawNode-F.Abs a) p = raw_abs p a.value
raw_node_step (RawNode-F.Binary op a b) p = raw_binary p op a.value b.value
raw_node_step (RawNode-F.Chain orders qs es) p = raw_chain p orders.items qs.items (raws_of es.items)
raw_node_step (RawNode-F.Min es) p = raw_min p (raws_of es.items)
raw_node_step (RawNode-F.Max es) p = raw_max p (raws_of es.items)
raw_node_step (RawNode-F.Divides k a) p = raw_divides p (number_tree k) a.value
raw_node_step (RawNode-F.Div a k) p = raw_div p a.value (number_tree k)
raw_node_step (RawNode-F.Mod a k) p = raw_mod p a.value (number_tree k)
raw_node_step (RawNode-F.Card a) p = raw_card p a.value
raw_node_step (RawNode-F.Call x es) p = raw_call p x (raws_of es.items)
raw_node_step (RawNode-F.If a b c) p = raw_if p a.value b.value c.value
raw_node_step (RawNode-F.Let xs qs a b) p = raw_let p xs.items qs.items a.value b.value
raw_node_step (RawNode-F.Choose ps hs g a aim) p = raw_choose p ps.items hs.items g a.value aim
raw_node_step (RawNode-F.Match a arms) p = raw_match p a.value (raw_arms_of arms.items)

abbrev pub raw_step : Raw-F AimTree GivenTree (Place → RawTree) RawTree RawArmTree → RawTree
raw_step r = r.node r.place

abbrev pub raw_arm_step : RawArm-F AimTree GivenTree (Place → RawTree) RawTree RawArmTree → RawArmTree
raw_arm_step a = raw_arm (part_trees a.parts.items) a.constant a.body

abbrev pub given_tree_step : RawGiven-F AimTree GivenTree (Place → RawTree) RawTree RawArmTree → GivenTree
given_tree_step RawGiven-F.Always = no_given
given_tree_step (RawGiven-F.That p a) = given_that p a.value

abbrev pub aim_tree_step : RawAim-F AimTree GivenTree (Place → RawTree) RawTree RawArmTree → AimTree
aim_tree_step RawAim-F.Any = no_aim
aim_tree_step (RawAim-F.At p sense a) = aim_at p sense a.value

abbrev pub raw_node_tree : RawNode → Place → RawTree
raw_node_tree = fold-RawNode AimTree GivenTree (Place → RawTree) RawTree RawArmTree aim_tree_step given_tree_step raw_node_step raw_step raw_arm_step

abbrev pub raw_tree : Raw → RawTree
raw_tree = fold-Raw AimTree GivenTree (Place → RawTree) RawTree RawArmTree aim_tree_step given_tree_step raw_node_step raw_step raw_arm_step

abbrev pub raw_arm_tree : RawArm → RawArmTree
raw_arm_tree = fold-RawArm AimTree GivenTree (Place → RawTree) RawTree RawArmTree aim_tree_step given_tree_step raw_node_step raw_step raw_arm_step

abbrev pub given_tree : RawGiven → GivenTree
given_tree = fold-RawGiven AimTree GivenTree (Place → RawTree) RawTree RawArmTree aim_tree_step given_tree_step raw_node_step raw_step raw_arm_step

abbrev pub aim_tree : RawAim → AimTree
aim_tree = fold-RawAim AimTree GivenTree (Place → RawTree) RawTree RawArmTree aim_tree_step given_tree_step raw_node_step raw_step raw_arm_step

abbrev pub raw_trees : List Raw → RawTrees
raw_trees es = raws_of (map raw_tree es)

abbrev pub raw_arm_trees : List RawArm → RawArmTrees
raw_arm_trees arms = raw_arms_of (map raw_arm_tree arms)
