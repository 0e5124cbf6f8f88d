-- The items up to the last need lead somewhere exactly where all items do.
use Rattle.std.proofs.Common.{◌≡◌, inl, inr, true, false, ℕ, ◌+◌, ◌<◌, ◌≤◌, List, [], ◌∷◌, ◌++◌, Some, map, take, length, get_or, refl, sym, ap, ◌∙◌}
use Rattle.std.proofs.lemmas.List.{map_more, take_all}
use Rattle.cf_tree.specs.declared.base.Base.{Base}
use Rattle.cf_tree.specs.declared.code.Arm.{Arm}
use Rattle.cf_tree.specs.declared.code.Item.{Item}
use Rattle.cf_tree.specs.CodeTree.{CodeTree, ItemTree, let_item, need_item, ItemTrees, no_items, item_more, items_of, ArmTree, arm_of, ArmTrees, no_arms}
use Rattle.cf_tree.specs.CodeTree.{arm_more, arms_of}
use Rattle.cf_tree.specs.Meaning.{Got, got, then_gives, gives_only, path, items_path, item_path}
use Rattle.cf_tree.specs.RelTree.{RelTree}
use Rattle.cf_tree.specs.Solving.{HoldSomewhere, Solves}
use Rattle.cf_tree.specs.Typing.{HasNoSolve, ItemsHaveNoSolve, ArmsHave}
use Rattle.cf_tree.specs.Values.{Value}
use Rattle.cf_tree.proofs.SolvingLemmas.{got_path, got_is}
use Rattle.cf_tree.specs.CodeView.{item_tree, arm_tree, arm_trees}
use Rattle.cf_tree.specs.RelView.{rel_tree}
use Rattle.cf_choose.specs.declared.solved.SolvedParts.{SolvedParts}
use Rattle.cf_choose.specs.Solved.{IsSolved}
use Rattle.cf_choose.specs.Precondition.{is_need, let_before, to_last_need, needs_of, all_needs, IsPrecondition}
use Rattle.cf_choose.proofs.ItemLemmas.{split_some}

-- the items lead somewhere
abbrev Reaches : ItemTrees → List Value → Type 0
Reaches is env = (e : List Value) × ((items_path is env).gives ≡ got (Some e))

step : (i : ItemTree) (is : ItemTrees) (env d : List Value) → (item_path i env).gives ≡ got (Some d) → Reaches is d → Reaches (item_more i is) env
step i is env d h r = (r.0, rw h r.1)

split : (i : ItemTree) (is : ItemTrees) (env : List Value) → Reaches (item_more i is) env → (d : List Value) × ((item_path i env).gives ≡ got (Some d)) ×
    Reaches is d
split i is env r = let s = split_some (item_path i env).gives (items_path is) r.0 r.1 in (s.0, s.1, (r.0, s.2))

let_forth : (c : CodeTree) (is : ItemTrees) (env d : List Value) → (item_path (let_item c) env).gives ≡ got (Some d) → Reaches is d →
    Reaches (let_before c is) env
let_forth c no_items env d h r = (env, refl)
let_forth c (item_more i is) env d h r = step (let_item c) (item_more i is) env d h r

pub bound : (g : Got (List Value)) (env xs : List Value) → g ≡ got xs → then_gives g (λ ys. (gives_only (Some (env ++ ys))).gives) ≡ got (Some (env ++ xs))
bound g env xs e = rw e refl

let_gives : (c : CodeTree) (env : List Value) → HasNoSolve c → (d : List Value) × ((item_path (let_item c) env).gives ≡ got (Some d))
let_gives c env s = let g = got_is (path c env).gives (got_path c env s) in (env ++ g.0, bound (path c env).gives env g.0 g.1)

let_back : (c : CodeTree) (is : ItemTrees) (env : List Value) → HasNoSolve c → Reaches (let_before c is) env → (d : List Value) ×
    ((item_path (let_item c) env).gives ≡ got (Some d)) × Reaches is d
let_back c no_items env s r = let g = let_gives c env s in (g.0, g.1, (g.0, refl))
let_back c (item_more i is) env s r = split (let_item c) (item_more i is) env r

forth : (is : ItemTrees) (env : List Value) → Reaches is env → Reaches (to_last_need is) env
forth no_items env r = r
forth (item_more (let_item c) is) env r = let s = split (let_item c) is env r in let_forth c (to_last_need is) env s.0 s.1 (forth is s.0 s.2)
forth (item_more (need_item c) is) env r = let s = split (need_item c) is env r in step (need_item c) (to_last_need is) env s.0 s.1 (forth is s.0 s.2)

back : (is : ItemTrees) (env : List Value) → ItemsHaveNoSolve is → Reaches (to_last_need is) env → Reaches is env
back no_items env s r = r
back (item_more (let_item c) is) env s r = let b = let_back c (to_last_need is) env s.0 r in step (let_item c) is env b.0 b.1 (back is b.0 s.1 b.2)
back (item_more (need_item c) is) env s r = let b = split (need_item c) (to_last_need is) env r in step (need_item c) is env b.0 b.1 (back is b.0 s.1 b.2)

needs_forth : (arms : ArmTrees) (env : List Value) → HoldSomewhere arms env → HoldSomewhere (all_needs arms) env
needs_forth no_arms env h = h
needs_forth (arm_more (arm_of bounds is gs) arms) env (inl h) = let r = forth is _ (h.1, h.2.1) in inl (h.0, r.0, (h.2.0, r.1))
needs_forth (arm_more (arm_of bounds is gs) arms) env (inr h) = inr (needs_forth arms env h)

needs_back : (arms : ArmTrees) (scope bs : List Base) (env : List Value) → ArmsHave arms scope bs → HoldSomewhere (all_needs arms) env → HoldSomewhere arms env
needs_back no_arms scope bs env t h = h
needs_back (arm_more (arm_of bounds is gs) arms) scope bs env t (inl h) = let r = back is _ t.1 (h.1, h.2.1) in inl (h.0, r.0, (h.2.0, r.1))
needs_back (arm_more (arm_of bounds is gs) arms) scope bs env t (inr h) = inr (needs_back arms scope bs env t.4 h)

-- the needs of arms that solve a relation are its precondition
pub precondition : (scope outputs : List Base) (rel : RelTree) (arms : ArmTrees) → Solves scope outputs rel arms → ArmsHave arms scope outputs →
    IsPrecondition scope outputs rel (all_needs arms)
precondition scope outputs rel arms s t env h = (
  λ n. (s.holds env h).0 (needs_back arms scope outputs env t n),
  λ x. needs_forth arms env ((s.holds env h).1 x),
)

each_needs : (arms : List ArmTree) → all_needs (arms_of arms) ≡ arms_of (map needs_of arms)
each_needs [] = refl
each_needs (a ∷ arms) = rw (each_needs arms) refl

pub needs_each : (all arms : List Arm) (i : ℕ) → length arms ≤ i → map arm_tree all ≡ map needs_of (map arm_tree (take i arms)) →
    arm_trees all ≡ all_needs (arm_trees arms)
needs_each all arms i l e = ap arms_of (e ∙ ap (λ xs. map needs_of (map arm_tree xs)) (take_all i arms l)) ∙ sym (each_needs (map arm_tree arms))

-- the precondition of a solved choose
pub precondition_of : (s : SolvedParts) (arms : ArmTrees) → IsSolved s → arms ≡ all_needs (arm_trees s.arms.items) →
    IsPrecondition s.scope.items s.outputs.items (rel_tree s.rel) arms
precondition_of s arms h e = rw e (precondition s.scope.items s.outputs.items (rel_tree s.rel) (arm_trees s.arms.items) h.solve.solves h.solve.typed)

-- ---- lists that grow at their end
some_before : (c : CodeTree) (is : List ItemTree) (i : ItemTree) → let_before c (items_of (is ++ i ∷ [])) ≡ item_more (let_item c) (items_of (is ++ i ∷ []))
some_before c [] i = refl
some_before c (j ∷ is) i = refl

pub need_behind : (is : List ItemTree) (c : CodeTree) → to_last_need (items_of (is ++ need_item c ∷ [])) ≡ items_of (is ++ need_item c ∷ [])
need_behind [] c = refl
need_behind (let_item d ∷ is) c = rw (need_behind is c) (some_before d is (need_item c))
need_behind (need_item d ∷ is) c = rw (need_behind is c) refl

pub let_behind : (is : List ItemTree) (c : CodeTree) → to_last_need (items_of (is ++ let_item c ∷ [])) ≡ to_last_need (items_of is)
let_behind [] c = refl
let_behind (let_item d ∷ is) c = rw (let_behind is c) refl
let_behind (need_item d ∷ is) c = rw (let_behind is c) refl

-- ---- items counted one by one
trees_more : (items : List Item) (i : ℕ) (x : Item) → i < length items → x ≡ get_or items i x →
    map item_tree (take (i + 1) items) ≡ map item_tree (take i items) ++ item_tree x ∷ []
trees_more items i x l e = map_more item_tree items i x l ∙ ap (λ y. map item_tree (take i items) ++ item_tree y ∷ []) (sym e)

let_counted : (items : List Item) (i count : ℕ) (x : Item) (c : CodeTree) → i < length items → x ≡ get_or items i x → item_tree x ≡ let_item c →
    items_of (map item_tree (take count items)) ≡ to_last_need (items_of (map item_tree (take i items))) →
    items_of (map item_tree (take count items)) ≡ to_last_need (items_of (map item_tree (take (i + 1) items)))
let_counted items i count x c l e t h = rw (trees_more items i x l e, t, let_behind (map item_tree (take i items)) c) h

need_counted : (items : List Item) (i : ℕ) (x : Item) (c : CodeTree) → i < length items → x ≡ get_or items i x → item_tree x ≡ need_item c →
    items_of (map item_tree (take (i + 1) items)) ≡ to_last_need (items_of (map item_tree (take (i + 1) items)))
need_counted items i x c l e t = rw (trees_more items i x l e, t, need_behind (map item_tree (take i items)) c) refl

a_let : (t : ItemTree) → is_need t ≡ false → (c : CodeTree) × (t ≡ let_item c)
a_let (let_item c) h = (c, refl)
a_let (need_item c) h = cc

a_need : (t : ItemTree) → is_need t ≡ true → (c : CodeTree) × (t ≡ need_item c)
a_need (let_item c) h = cc
a_need (need_item c) h = (c, refl)

pub passed : (items : List Item) (i count : ℕ) (x : Item) → i < length items → x ≡ get_or items i x → is_need (item_tree x) ≡ false →
    items_of (map item_tree (take count items)) ≡ to_last_need (items_of (map item_tree (take i items))) →
    items_of (map item_tree (take count items)) ≡ to_last_need (items_of (map item_tree (take (i + 1) items)))
passed items i count x l e n h = let a = a_let (item_tree x) n in let_counted items i count x a.0 l e a.1 h

pub met : (items : List Item) (i : ℕ) (x : Item) → i < length items → x ≡ get_or items i x → is_need (item_tree x) ≡ true →
    items_of (map item_tree (take (i + 1) items)) ≡ to_last_need (items_of (map item_tree (take (i + 1) items)))
met items i x l e n = let a = a_need (item_tree x) n in need_counted items i x a.0 l e a.1
