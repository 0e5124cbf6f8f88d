-- Lists of codes, items and arms, made anew one by one.
use Rattle.std.proofs.Common.{◌≡◌, ◌<◌, ◌≤◌, ℕ, zero, suc, ◌+◌, ◌-◌, Bool, true, false, cond, ◌&&◌, List, [], ◌∷◌, ◌++◌, length, map, drop, get_or, refl, sym, ap, ◌∙◌, arith}
use Rattle.std.proofs.lemmas.List.{append_assoc, drop_more}
use Rattle.cf_tree.specs.CodeTree.{CodeTree, ItemTree, ItemTrees, let_item, need_item, ArmTree, arm_of, code_more, item_more, arm_more, codes_of, items_of, arms_of, count}
use Rattle.cf_tree.specs.CodeView.{code_tree, item_tree, arm_tree}
use Rattle.cf_tree.specs.declared.code.Code.{Code}
use Rattle.cf_tree.specs.declared.code.Item.{Item}
use Rattle.cf_tree.specs.declared.code.Arm.{Arm}
use Rattle.cf_range.specs.declared.range.Range.{Range}
use Rattle.cf_range.specs.CodeRanges.{range_of}
use Rattle.cf_range.specs.Ranges.{whole}
use Rattle.cf_range.specs.Put.{put, all_put, item_put, items_put, arm_put, arms_put}
use Rattle.cf_range.specs.Settled.{with_wholes, ranges_behind, arm_uses, may_go, reads_well, goes, Rest, arm_with, rest_uses, rest_put, behind, item_before, lets_dropped, items_dropped, settled, all_settled, item_settled, items_settled, arm_settled, arms_settled}

pub codes_put : (x : ℕ) (v : CodeTree) (cs : List Code) → codes_of (map (λ c. put x v (code_tree c)) cs) ≡ all_put x v (codes_of (map code_tree cs))
codes_put x v [] = refl
codes_put x v (c ∷ cs) = ap (code_more (put x v (code_tree c))) (codes_put x v cs)

pub items_put_each : (x : ℕ) (v : CodeTree) (is : List Item) →
    items_of (map (λ i. item_put x v (item_tree i)) is) ≡ items_put x v (items_of (map item_tree is))
items_put_each x v [] = refl
items_put_each x v (i ∷ is) = ap (item_more (item_put x v (item_tree i))) (items_put_each x v is)

pub arms_put_each : (x : ℕ) (v : CodeTree) (arms : List Arm) →
    arms_of (map (λ a. arm_put x v (arm_tree a)) arms) ≡ arms_put x v (arms_of (map arm_tree arms))
arms_put_each x v [] = refl
arms_put_each x v (a ∷ arms) = ap (arm_more (arm_put x v (arm_tree a))) (arms_put_each x v arms)

pub codes_settled : (rs : List Range) (cs : List Code) →
    codes_of (map (λ c. settled rs (code_tree c)) cs) ≡ all_settled rs (codes_of (map code_tree cs))
codes_settled rs [] = refl
codes_settled rs (c ∷ cs) = ap (code_more (settled rs (code_tree c))) (codes_settled rs cs)

pub arms_settled_each : (rs : List Range) (arms : List Arm) →
    arms_of (map (λ a. arm_settled rs (arm_tree a)) arms) ≡ arms_settled rs (arms_of (map arm_tree arms))
arms_settled_each rs [] = refl
arms_settled_each rs (a ∷ arms) = ap (arm_more (arm_settled rs (arm_tree a))) (arms_settled_each rs arms)

-- items settled one after another, each behind those before it
abbrev pub settled_list : List Range → List Item → List ItemTree
settled_list rs [] = []
settled_list rs (i ∷ is) = item_settled rs (item_tree i) ∷ settled_list (ranges_behind rs (item_tree i)) is

pub items_settled_each : (rs : List Range) (is : List Item) → items_of (settled_list rs is) ≡ items_settled rs (items_of (map item_tree is))
items_settled_each rs [] = refl
items_settled_each rs (i ∷ is) = ap (item_more (item_settled rs (item_tree i))) (items_settled_each (ranges_behind rs (item_tree i)) is)

settled_more : (done : List ItemTree) (known inner : List Range) (i : Item) (new : ItemTree) (rest : List Item) →
    new ≡ item_settled known (item_tree i) → inner ≡ ranges_behind known (item_tree i) →
    (done ++ new ∷ []) ++ settled_list inner rest ≡ done ++ settled_list known (i ∷ rest)
settled_more done known inner i new rest e f = rw (e, f) (append_assoc done (item_settled known (item_tree i) ∷ []) (settled_list (ranges_behind known (item_tree i)) rest))

-- the next item is settled
pub settled_next : (rs known inner : List Range) (items : List Item) (i : ℕ) (x d new : Item) (all more : List Item) → i < length items → x ≡ get_or items i d →
    more ≡ all ++ new ∷ [] → item_tree new ≡ item_settled known (item_tree x) → inner ≡ ranges_behind known (item_tree x) →
    map item_tree all ++ settled_list known (drop i items) ≡ settled_list rs items →
    map item_tree more ++ settled_list inner (drop (i + 1) items) ≡ settled_list rs items
settled_next rs known inner items i x d new all more l is pushed e f h =
    let rest = drop (i + 1) items in
    ap (λ ys. ys ++ settled_list inner rest) (ap (map item_tree) pushed ∙ map_more all new)
    ∙ settled_more (map item_tree all) known inner x (item_tree new) rest e f
    ∙ ap (λ left. map item_tree all ++ settled_list known left) (sym (drop_more items i d l ∙ ap (λ y. y ∷ rest) (sym is)))
    ∙ h
  where
    map_more : (ys : List Item) (y : Item) → map item_tree (ys ++ y ∷ []) ≡ map item_tree ys ++ item_tree y ∷ []
    map_more [] y = refl
    map_more (z ∷ ys) y = ap (λ zs. item_tree z ∷ zs) (map_more ys y)

drop_none : {A : Type 0} (xs : List A) (i : ℕ) → length xs ≤ i → drop i xs ≡ []
drop_none [] zero h = refl
drop_none [] (suc i) h = refl
drop_none (x ∷ xs) zero h = absurd (omega (arith, h))
drop_none (x ∷ xs) (suc i) h = drop_none xs i (omega (arith, h))

append_none : {A : Type 0} (xs : List A) → xs ++ [] ≡ xs
append_none [] = refl
append_none (x ∷ xs) = ap (λ ys. x ∷ ys) (append_none xs)

pub settled_end : (rs : List Range) (items : List Item) (i : ℕ) (all : List Item) (known : List Range) → length items ≤ i →
    map item_tree all ++ settled_list known (drop i items) ≡ settled_list rs items → items_of (map item_tree all) ≡ items_settled rs (items_of (map item_tree items))
settled_end rs items i all known h e =
    ap items_of (sym (append_none (map item_tree all)) ∙ ap (λ left. map item_tree all ++ settled_list known left) (sym (drop_none items i h)) ∙ e)
    ∙ items_settled_each rs items

-- ---- ranges
pub wholes_none : (rs : List Range) (n : ℕ) → n ≡ 0 → with_wholes rs n ≡ rs
wholes_none rs n e = rw e refl

pub wholes_more : (rs : List Range) (n : ℕ) → 0 < n → with_wholes (rs ++ whole ∷ []) (n - 1) ≡ with_wholes rs n
wholes_more rs zero h = absurd (omega (arith, h))
wholes_more rs (suc n) h = ap (with_wholes (rs ++ whole ∷ [])) (less n)
  where
    less : (n : ℕ) → suc n - 1 ≡ n
    less n = omega arith

one_more : (n : ℕ) → 1 + n ≡ suc n
one_more n = omega arith

pub count_is : (cs : List Code) → count (codes_of (map code_tree cs)) ≡ length cs
count_is [] = refl
count_is (c ∷ cs) = ap (λ n. 1 + n) (count_is cs) ∙ one_more (length cs)

-- ---- items of an arm, from the last to the first
pub need_dropped : (rs : List Range) (is : ItemTrees) (v w : CodeTree) (given arm new : ArmTree) → w ≡ v → arm ≡ items_dropped rs is given →
    new ≡ item_before (need_item w) arm → new ≡ items_dropped rs (item_more (need_item v) is) given
need_dropped rs is v w (arm_of bounds js gs) arm new e f g = rw (g, f, e) refl

pub let_dropped : (rs inner : List Range) (is : ItemTrees) (v : CodeTree) (given arm new : ArmTree) (t : Bool) (n : ℕ) → t ≡ may_go rs v → n ≡ length rs →
    inner ≡ rs ++ range_of rs v ∷ [] → arm ≡ items_dropped inner is given →
    new ≡ cond (t && reads_well (arm_uses n arm) v) (arm_put n v arm) (item_before (let_item v) arm) →
    new ≡ items_dropped rs (item_more (let_item v) is) given
let_dropped rs inner is v (arm_of bounds js gs) arm new t n e f g h k =
    let r = lets_dropped (rs ++ range_of rs v ∷ []) is gs in rw (k, h, g, f, e) (by r (goes rs v (rest_uses (length rs) r)))
  where
    by : (r : Rest) (b : Bool) →
        cond b (arm_put (length rs) v (arm_with bounds r)) (item_before (let_item v) (arm_with bounds r))
        ≡ arm_with bounds (cond b (rest_put (length rs) v r) (behind (let_item v) r))
    by r true = refl
    by r false = refl
