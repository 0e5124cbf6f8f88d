-- How an arm is gone through: marks of the levels that are used, from the last item to the first, and then the falls of the levels that stay.
use Rattle.std.specs.Prelude.{ℕ, zero, suc, ◌+◌, ◌-◌, nat_eq, Bool, true, false, ◌||◌, List, [], ◌∷◌, ◌++◌, drop, if◌then◌else◌}
use Rattle.std.specs.List.{slice_index_or}
use Rattle.cf_tree.specs.CodeTree.{CodeTree, code_lit, code_truth, code_var, code_set_of, code_tuple, code_sum, code_sub, code_mul, code_neg, code_div, code_mod, code_min, code_max, code_compare, code_divides, code_and, code_or, code_not, code_union, code_inter, code_diff, code_subset, code_card, code_slice, code_fresh, code_if, code_let, code_solve, CodeTrees, no_codes, code_more, ItemTree, let_item, need_item, ItemTrees, no_items, item_more, ArmTree, arm_of, ArmTrees, no_arms, arm_more}
use Rattle.cf_pass.specs.Parts.{count_lets}
use Rattle.cf_pass.specs.Lets.{all_moved, item_moved, Rest, rest_uses, behind, lets_dropped, item_count, arm_dropped, arm_gone}

-- one mark for each of k levels from x on
abbrev pub marks_of : (ℕ → Bool) → ℕ → ℕ → List Bool
marks_of u x zero = []
marks_of u x (suc k) = u x ∷ marks_of u (suc x) k

-- level y marked among the first k marks, which are of the levels from x on
abbrev pub level_marked : ℕ → ℕ → ℕ → List Bool → List Bool
level_marked x zero y bs = bs
level_marked x (suc k) y [] = []
level_marked x (suc k) y (b ∷ bs) = (b || nat_eq x y) ∷ level_marked (suc x) k y bs

-- so each level of a code
abbrev mutual
  pub marked : ℕ → ℕ → CodeTree → List Bool → List Bool
  marked x n (code_lit k) bs = bs
  marked x n (code_truth t) bs = bs
  marked x n (code_var y) bs = level_marked x n y bs
  marked x n (code_set_of cs) bs = all_marked x n cs bs
  marked x n (code_tuple cs) bs = all_marked x n cs bs
  marked x n (code_sum cs) bs = all_marked x n cs bs
  marked x n (code_sub a b) bs = marked x n b (marked x n a bs)
  marked x n (code_mul a b) bs = marked x n b (marked x n a bs)
  marked x n (code_neg a) bs = marked x n a bs
  marked x n (code_div a k) bs = marked x n a bs
  marked x n (code_mod a k) bs = marked x n a bs
  marked x n (code_min cs) bs = all_marked x n cs bs
  marked x n (code_max cs) bs = all_marked x n cs bs
  marked x n (code_compare o a b) bs = marked x n b (marked x n a bs)
  marked x n (code_divides k a) bs = marked x n a bs
  marked x n (code_and a b) bs = marked x n b (marked x n a bs)
  marked x n (code_or a b) bs = marked x n b (marked x n a bs)
  marked x n (code_not a) bs = marked x n a bs
  marked x n (code_union cs) bs = all_marked x n cs bs
  marked x n (code_inter cs) bs = all_marked x n cs bs
  marked x n (code_diff a b) bs = marked x n b (marked x n a bs)
  marked x n (code_subset a b) bs = marked x n b (marked x n a bs)
  marked x n (code_card a) bs = marked x n a bs
  marked x n (code_slice a b c) bs = marked x n c (marked x n b (marked x n a bs))
  marked x n (code_fresh a b) bs = marked x n b (marked x n a bs)
  marked x n (code_if a b c) bs = marked x n c (marked x n b (marked x n a bs))
  marked x n (code_let first m a b) bs = marked x n b (marked x n a bs)
  marked x n (code_solve m arms) bs = bs

  pub all_marked : ℕ → ℕ → CodeTrees → List Bool → List Bool
  all_marked x n no_codes bs = bs
  all_marked x n (code_more c cs) bs = all_marked x n cs (marked x n c bs)

-- the marks before an item behind which n lets were marked, by those behind it: a let that is not marked marks nothing
abbrev pub item_marked : ℕ → ℕ → ItemTree → List Bool → List Bool
item_marked x n (need_item c) bs = marked x n c bs
item_marked x n (let_item c) bs = if slice_index_or bs (n - 1) false then marked x (n - 1) c bs else bs

-- how many lets an item is
abbrev pub lets_of : ItemTree → ℕ
lets_of (let_item c) = 1
lets_of (need_item c) = 0

-- how many lets stand before an item, by how many stand before the next
abbrev pub lets_before : ItemTree → ℕ → ℕ
lets_before (need_item c) n = n
lets_before (let_item c) n = n - 1

-- so all items, from the last to the first, of which n are lets
abbrev pub items_marked : ℕ → ℕ → ItemTrees → List Bool → List Bool
items_marked x n no_items bs = bs
items_marked x n (item_more i is) bs = item_marked x (n - count_lets is) i (items_marked x n is bs)

-- which lets of the rest of an arm stay, whose first let has level x
abbrev pub lets_stay : ℕ → ItemTrees → CodeTrees → List Bool
lets_stay x no_items gs = []
lets_stay x (item_more (need_item c) is) gs = lets_stay x is gs
lets_stay x (item_more (let_item c) is) gs = rest_uses x (lets_dropped (suc x) is gs) ∷ lets_stay (suc x) is gs

-- level y, where so many lets are dropped before each let from level x on, and d in all
abbrev pub lowered : ℕ → List ℕ → ℕ → ℕ → ℕ
lowered x gone d y = y - slice_index_or gone (y - x) d

-- Where each let to come stays or not: whether the next one stays, and behind it how many lets are dropped before each let and in all.
abbrev pub next_stays : List Bool → Bool
next_stays [] = false
next_stays (f ∷ fs) = f

abbrev pub next_gone : List Bool → List ℕ → ℕ → List ℕ
next_gone [] gone d = gone
next_gone (f ∷ fs) gone d = gone ++ d ∷ []

abbrev pub next_dropped : List Bool → ℕ → ℕ
next_dropped [] d = d
next_dropped (f ∷ fs) d = if f then d else suc d

-- the same of the next item, and which lets to come stay behind it
abbrev pub item_stays : List Bool → ItemTree → Bool
item_stays fs (need_item c) = true
item_stays fs (let_item c) = next_stays fs

abbrev pub item_gone : List Bool → ItemTree → List ℕ → ℕ → List ℕ
item_gone fs (need_item c) gone d = gone
item_gone fs (let_item c) gone d = next_gone fs gone d

abbrev pub item_dropped : List Bool → ItemTree → ℕ → ℕ
item_dropped fs (need_item c) d = d
item_dropped fs (let_item c) d = next_dropped fs d

abbrev pub item_rest : List Bool → ItemTree → List Bool
item_rest fs (need_item c) = fs
item_rest fs (let_item c) = drop 1 fs

-- an item before the rest of an arm, where it stays
abbrev pub behind_if : Bool → ItemTree → Rest → Rest
behind_if b i r = if b then behind i r else r

-- what is left of the rest of an arm, behind lets of which d are dropped, where each let to come stays or not
abbrev pub left : ℕ → List ℕ → ℕ → List Bool → ItemTrees → CodeTrees → Rest
left x gone d fs no_items gs = record { items = no_items; gives = all_moved (lowered x gone d) gs }
left x gone d fs (item_more i is) gs =
    behind_if (item_stays fs i) (item_moved (lowered x gone d) i) (left x (item_gone fs i gone d) (item_dropped fs i d) (item_rest fs i) is gs)

-- an arm whose first let has level x, without the lets that it does not use, and how many items that are
abbrev pub settled : ℕ → ArmTree → ArmTree
settled x (arm_of bounds is gs) = arm_of bounds (lets_dropped x is gs).items (lets_dropped x is gs).gives

abbrev pub removed_from : ℕ → ArmTree → ℕ
removed_from x (arm_of bounds is gs) = item_count is - item_count (lets_dropped x is gs).items

-- the first i arms without the lets that they do not use
abbrev pub dropped_to : ℕ → ℕ → ArmTrees → ArmTrees
dropped_to n zero arms = arms
dropped_to n (suc i) no_arms = no_arms
dropped_to n (suc i) (arm_more a arms) = arm_more (arm_dropped n a) (dropped_to n i arms)

-- how many items are removed from the first i arms
abbrev pub gone_to : ℕ → ℕ → ArmTrees → ℕ
gone_to n zero arms = 0
gone_to n (suc i) no_arms = 0
gone_to n (suc i) (arm_more a arms) = arm_gone n a + gone_to n i arms

-- a solve of which the first i arms are so
abbrev pub form_to : ℕ → ℕ → CodeTree → CodeTree
form_to n i (code_solve k arms) = code_solve k (dropped_to n i arms)
form_to n i c = c
