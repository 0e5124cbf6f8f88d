-- Lists of codes, of items and of arms behind more variables.
use Rattle.std.proofs.Common.{◌≡◌, ℕ, ◌≤◌, List, [], ◌∷◌, length, map, take, All, refl, ap, ◌∙◌}
use Rattle.std.proofs.lemmas.List.{take_all}
use Rattle.std.proofs.lemmas.List.Elements.{All-head, All-tail}
use Rattle.cf_tree.specs.CodeTree.{CodeTree, code_more, ItemTree, item_more, ArmTree, arm_more, codes_of, items_of, arms_of}
use Rattle.cf_tree.specs.CodeView.{code_tree, item_tree, arm_tree, code_trees, item_trees, arm_trees}
use Rattle.cf_tree.specs.declared.code.Code.{Code}
use Rattle.cf_tree.specs.declared.code.Item.{Item}
use Rattle.cf_tree.specs.declared.code.Arm.{Arm}
use Rattle.cf_shift.specs.Shifted.{shifted, all_shifted, item_shifted, items_shifted, arm_shifted, arms_shifted, HasLevels, HaveLevels, ItemHasLevels, ItemsHaveLevels, ArmHasLevels, ArmsHaveLevels}

pub codes_shifted : (by : ℕ) (cs : List CodeTree) → codes_of (map (λ c. shifted by c) cs) ≡ all_shifted by (codes_of cs)
codes_shifted by [] = refl
codes_shifted by (c ∷ cs) = ap (λ ds. code_more (shifted by c) ds) (codes_shifted by cs)

pub list_items_shifted : (by : ℕ) (is : List ItemTree) → items_of (map (λ i. item_shifted by i) is) ≡ items_shifted by (items_of is)
list_items_shifted by [] = refl
list_items_shifted by (i ∷ is) = ap (λ js. item_more (item_shifted by i) js) (list_items_shifted by is)

pub list_arms_shifted : (by : ℕ) (arms : List ArmTree) → arms_of (map (λ a. arm_shifted by a) arms) ≡ arms_shifted by (arms_of arms)
list_arms_shifted by [] = refl
list_arms_shifted by (a ∷ arms) = ap (λ bs. arm_more (arm_shifted by a) bs) (list_arms_shifted by arms)

pub codes_have_levels : (cs : List Code) → All (λ c. HasLevels (code_tree c)) cs → HaveLevels (code_trees cs)
codes_have_levels [] h = tt
codes_have_levels (c ∷ cs) h = (All-head (λ c. HasLevels (code_tree c)) c cs h, codes_have_levels cs (All-tail (λ c. HasLevels (code_tree c)) c cs h))

pub items_have_levels : (is : List Item) → All (λ i. ItemHasLevels (item_tree i)) is → ItemsHaveLevels (item_trees is)
items_have_levels [] h = tt
items_have_levels (i ∷ is) h = (All-head (λ i. ItemHasLevels (item_tree i)) i is h, items_have_levels is (All-tail (λ i. ItemHasLevels (item_tree i)) i is h))

pub arms_have_levels : (arms : List Arm) → All (λ a. ArmHasLevels (arm_tree a)) arms → ArmsHaveLevels (arm_trees arms)
arms_have_levels [] h = tt
arms_have_levels (a ∷ arms) h = (All-head (λ a. ArmHasLevels (arm_tree a)) a arms h, arms_have_levels arms (All-tail (λ a. ArmHasLevels (arm_tree a)) a arms h))

-- ---- the ends of loops
pub codes_at_end : (by : ℕ) (cs done : List Code) (i : ℕ) → length cs ≤ i → map code_tree done ≡ map (λ c. shifted by c) (map code_tree (take i cs)) →
    code_trees done ≡ all_shifted by (code_trees cs)
codes_at_end by cs done i l h = ap codes_of (h ∙ ap (λ xs. map (λ c. shifted by c) (map code_tree xs)) (take_all i cs l)) ∙ codes_shifted by (map code_tree cs)

pub items_at_end : (by : ℕ) (is done : List Item) (i : ℕ) → length is ≤ i → map item_tree done ≡ map (λ c. item_shifted by c) (map item_tree (take i is)) →
    item_trees done ≡ items_shifted by (item_trees is)
items_at_end by is done i l h = ap items_of (h ∙ ap (λ xs. map (λ c. item_shifted by c) (map item_tree xs)) (take_all i is l)) ∙
    list_items_shifted by (map item_tree is)

pub arms_at_end : (by : ℕ) (arms done : List Arm) (i : ℕ) → length arms ≤ i → map arm_tree done ≡ map (λ a. arm_shifted by a) (map arm_tree (take i arms)) →
    arm_trees done ≡ arms_shifted by (arm_trees arms)
arms_at_end by arms done i l h = ap arms_of (h ∙ ap (λ xs. map (λ a. arm_shifted by a) (map arm_tree xs)) (take_all i arms l)) ∙
    list_arms_shifted by (map arm_tree arms)
