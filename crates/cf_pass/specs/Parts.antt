-- When lists of codes, items and arms may take the place of others, part by part.
use Rattle.std.specs.Prelude.{ℕ, suc, ◌+◌, ◌≡◌, length}
use Rattle.cf_tree.specs.CodeTree.{CodeTrees, no_codes, code_more, ItemTree, let_item, need_item, ItemTrees, no_items, item_more, ArmTree, arm_of, ArmTrees, no_arms, arm_more}
use Rattle.cf_pass.specs.Improves.{Improves}

-- how many lets there are
abbrev pub count_lets : ItemTrees → ℕ
count_lets no_items = 0
count_lets (item_more (let_item c) is) = suc (count_lets is)
count_lets (item_more (need_item c) is) = count_lets is

abbrev pub AllImprove : ℕ → CodeTrees → CodeTrees → Type 0
AllImprove n no_codes no_codes = Unit {0}
AllImprove n no_codes (code_more d ds) = ⊥
AllImprove n (code_more c cs) no_codes = ⊥
AllImprove n (code_more c cs) (code_more d ds) = Improves n c d × AllImprove n cs ds

abbrev pub ItemImproves : ℕ → ItemTree → ItemTree → Type 0
ItemImproves n (let_item c) (let_item d) = Improves n c d
ItemImproves n (let_item c) (need_item d) = ⊥
ItemImproves n (need_item c) (let_item d) = ⊥
ItemImproves n (need_item c) (need_item d) = Improves n c d

-- a let binds one variable
abbrev pub behind_item : ItemTree → ℕ → ℕ
behind_item (let_item c) n = suc n
behind_item (need_item c) n = n

abbrev pub ItemsImprove : ℕ → ItemTrees → ItemTrees → Type 0
ItemsImprove n no_items no_items = Unit {0}
ItemsImprove n no_items (item_more j js) = ⊥
ItemsImprove n (item_more i is) no_items = ⊥
ItemsImprove n (item_more i is) (item_more j js) = ItemImproves n i j × ItemsImprove (behind_item i n) is js

abbrev pub ArmImproves : ℕ → ArmTree → ArmTree → Type 0
ArmImproves n (arm_of bounds is gs) (arm_of bounds' js hs) =
    (bounds' ≡ bounds) × ItemsImprove (n + length bounds) is js × AllImprove (n + length bounds + count_lets is) gs hs

abbrev pub ArmsImprove : ℕ → ArmTrees → ArmTrees → Type 0
ArmsImprove n no_arms no_arms = Unit {0}
ArmsImprove n no_arms (arm_more b brms) = ⊥
ArmsImprove n (arm_more a arms) no_arms = ⊥
ArmsImprove n (arm_more a arms) (arm_more b brms) = ArmImproves n a b × ArmsImprove n arms brms
