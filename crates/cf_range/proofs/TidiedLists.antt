-- Lists of codes, items and arms, tidied one by one.
use Rattle.std.proofs.Common.{◌≡◌, ℕ, suc, ◌+◌, Bool, true, false, not, cond, List, [], ◌∷◌, map, filter, take, length, refl, ap, ◌∙◌, arith}
use Rattle.cf_tree.specs.CodeTree.{code_min, CodeTrees, code_more, ItemTrees, item_more, ArmTrees, no_arms, arm_more, codes_of, items_of, arms_of}
use Rattle.cf_tree.specs.CodeView.{code_tree, item_tree, arm_tree}
use Rattle.cf_tree.specs.declared.code.Code.{Code}
use Rattle.cf_tree.specs.declared.code.Item.{Item}
use Rattle.cf_tree.specs.declared.code.Arm.{Arm}
use Rattle.cf_range.specs.Tidied.{is_zero, nonzero, sum_of_more, sum_of, tidied, all_tidied, item_tidied, items_tidied, arm_tidied, arms_tidied, always_holds, other_items, always_gives, is_left, are_left, other_arms, entered, count_reached, reached}

pub codes_each : (cs : List Code) → codes_of (map (λ c. tidied (code_tree c)) cs) ≡ all_tidied (codes_of (map code_tree cs))
codes_each [] = refl
codes_each (c ∷ cs) = ap (code_more (tidied (code_tree c))) (codes_each cs)

pub items_each : (is : List Item) → items_of (map (λ i. item_tidied (item_tree i)) is) ≡ items_tidied (items_of (map item_tree is))
items_each [] = refl
items_each (i ∷ is) = ap (item_more (item_tidied (item_tree i))) (items_each is)

-- ---- the parts of a sum
abbrev pub counts : Code → Bool
counts c = not (is_zero (code_tree c))

part_kept : (t : Bool) (c : Code) (cs : List Code) (ds : CodeTrees) → codes_of (map code_tree cs) ≡ ds →
    codes_of (map code_tree (cond (not t) (c ∷ cs) cs)) ≡ cond t ds (code_more (code_tree c) ds)
part_kept true c cs ds e = e
part_kept false c cs ds e = ap (code_more (code_tree c)) e

pub parts_kept : (cs : List Code) → codes_of (map code_tree (filter counts cs)) ≡ nonzero (codes_of (map code_tree cs))
parts_kept [] = refl
parts_kept (c ∷ cs) = part_kept (is_zero (code_tree c)) c (filter counts cs) (nonzero (codes_of (map code_tree cs))) (parts_kept cs)

pub one_part : (cs : List Code) → length cs ≡ 1 → code_min (codes_of (map code_tree cs)) ≡ sum_of (codes_of (map code_tree cs))
one_part [] e = absurd (omega (arith, e))
one_part (c ∷ []) e = refl
one_part (c ∷ d ∷ cs) e = absurd (omega (arith, e))

pub more_parts : (cs : List Code) → (length cs ≡ 0 → ⊥) → (length cs ≡ 1 → ⊥) → sum_of_more (codes_of (map code_tree cs)) ≡ sum_of (codes_of (map code_tree cs))
more_parts [] n o = absurd (n refl)
more_parts (c ∷ []) n o = absurd (o refl)
more_parts (c ∷ d ∷ cs) n o = refl

-- ---- items and arms
abbrev pub stays : Item → Bool
stays i = not (always_holds (item_tree i))

one_kept : (t : Bool) (x : Item) (xs : List Item) (js : ItemTrees) → items_of (map item_tree xs) ≡ js →
    items_of (map item_tree (cond (not t) (x ∷ xs) xs)) ≡ cond t js (item_more (item_tree x) js)
one_kept true x xs js e = e
one_kept false x xs js e = ap (item_more (item_tree x)) e

pub others : (xs : List Item) → items_of (map item_tree (filter stays xs)) ≡ other_items (items_of (map item_tree xs))
others [] = refl
others (x ∷ xs) = one_kept (always_holds (item_tree x)) x (filter stays xs) (other_items (items_of (map item_tree xs))) (others xs)

pub arms_each : (arms : List Arm) → arms_of (map (λ a. arm_tidied (arm_tree a)) arms) ≡ arms_tidied (arms_of (map arm_tree arms))
arms_each [] = refl
arms_each (a ∷ arms) = ap (arm_more (arm_tidied (arm_tree a))) (arms_each arms)

abbrev pub enters : Arm → Bool
enters a = not (is_left (arm_tree a))

arm_kept : (t : Bool) (a : Arm) (arms : List Arm) (bs : ArmTrees) → arms_of (map arm_tree arms) ≡ bs →
    arms_of (map arm_tree (cond (not t) (a ∷ arms) arms)) ≡ cond t bs (arm_more (arm_tree a) bs)
arm_kept true a arms bs e = e
arm_kept false a arms bs e = ap (arm_more (arm_tree a)) e

each_entered : (arms : List Arm) → arms_of (map arm_tree (filter enters arms)) ≡ other_arms (arms_of (map arm_tree arms))
each_entered [] = refl
each_entered (a ∷ arms) = arm_kept (is_left (arm_tree a)) a (filter enters arms) (other_arms (arms_of (map arm_tree arms))) (each_entered arms)

-- where an arm is not left at once
pub arms_kept : (arms : List Arm) → are_left (arms_of (map arm_tree arms)) ≡ false →
    arms_of (map arm_tree (filter enters arms)) ≡ entered (arms_of (map arm_tree arms))
arms_kept arms t = each_entered arms ∙ by (are_left (arms_of (map arm_tree arms))) (arms_of (map arm_tree arms)) (other_arms (arms_of (map arm_tree arms))) t
  where
    by : (t : Bool) (all some : ArmTrees) → t ≡ false → some ≡ cond t all some
    by true all some e = cc
    by false all some e = refl

one_more : (n : ℕ) → 1 + n ≡ suc n
one_more n = omega arith

take_none : (arms : List Arm) → take 0 arms ≡ []
take_none [] = refl
take_none (a ∷ arms) = refl

first_taken : (t : Bool) (a : Arm) (arms : List Arm) (n : ℕ) → arms_of (map arm_tree (take n arms)) ≡ reached (arms_of (map arm_tree arms)) →
    arms_of (map arm_tree (take (cond t 1 (1 + n)) (a ∷ arms))) ≡ arm_more (arm_tree a) (cond t no_arms (reached (arms_of (map arm_tree arms))))
first_taken true a arms n e = ap (λ more. arms_of (map arm_tree (a ∷ more))) (take_none arms)
first_taken false a arms n e = ap (λ k. arms_of (map arm_tree (take k (a ∷ arms)))) (one_more n) ∙ ap (arm_more (arm_tree a)) e

-- the arms that may be reached are the first of all
pub reached_taken : (arms : List Arm) → arms_of (map arm_tree (take (count_reached (arms_of (map arm_tree arms))) arms)) ≡ reached (arms_of (map arm_tree arms))
reached_taken [] = refl
reached_taken (a ∷ arms) = first_taken (always_gives (arm_tree a)) a arms (count_reached (arms_of (map arm_tree arms))) (reached_taken arms)
