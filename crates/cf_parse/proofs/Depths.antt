-- The depth of trees with one more at the end.
use Rattle.std.proofs.Common.{◌≡◌, max, List, [], ◌∷◌, ◌++◌, map, arith}
use Rattle.cf_tree.specs.declared.raw.Raw.{Raw}
use Rattle.cf_tree.specs.declared.raw.RawArm.{RawArm}
use Rattle.cf_tree.specs.RawTree.{raw_depth, raws_depth, raw_arm_depth, raw_arms_depth, raws_of, raw_arms_of}
use Rattle.cf_tree.specs.RawView.{raw_tree, raw_arm_tree}

pub depths_more : (xs : List Raw) (x : Raw) →
    raws_depth (raws_of (map raw_tree (xs ++ x ∷ []))) ≡ max (raws_depth (raws_of (map raw_tree xs))) (raw_depth (raw_tree x))
depths_more [] x = omega arith
depths_more (y ∷ ys) x = omega (arith, depths_more ys x)

pub arm_depths_more : (xs : List RawArm) (x : RawArm) →
    raw_arms_depth (raw_arms_of (map raw_arm_tree (xs ++ x ∷ []))) ≡ max (raw_arms_depth (raw_arms_of (map raw_arm_tree xs))) (raw_arm_depth (raw_arm_tree x))
arm_depths_more [] x = omega arith
arm_depths_more (y ∷ ys) x = omega (arith, arm_depths_more ys x)
