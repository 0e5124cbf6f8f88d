-- Going through the items of an arm from the last to the first marks what is used, and leaves which lets stay.
use Rattle.std.proofs.Common.{◌≡◌, ◌<◌, ◌≤◌, ℕ, zero, suc, ◌+◌, ◌-◌, nat_eq, Bool, true, false, cond, ◌||◌, List, [], ◌∷◌, ◌++◌, length, take, drop, replicate, get_or, ◌⊎◌, inl, inr, refl, sym, ap, ◌∙◌, arith}
use Rattle.std.proofs.lemmas.Bool.Decides.{nat_tests}
use Rattle.std.proofs.lemmas.Bool.{cases_lt}
use Rattle.std.proofs.Math.ListN.{set}
use Rattle.cf_tree.specs.declared.code.Item.{Item}
use Rattle.cf_tree.specs.CodeTree.{CodeTree, CodeTrees, ItemTree, let_item, need_item, ItemTrees, no_items, item_more}
use Rattle.cf_tree.specs.CodeView.{item_tree, item_trees}
use Rattle.cf_pass.specs.Parts.{count_lets, behind_item}
use Rattle.cf_pass.specs.Lets.{uses, any_uses, items_use, fallen, Rest, rest_uses, rest_moved, behind, lets_dropped}
use Rattle.cf_pass.specs.LetSteps.{marks_of, level_marked, marked, all_marked, item_marked, items_marked, lets_before, lets_stay}
use Rattle.cf_pass.proofs.LetLemmas.{fallen_above, fallen_below}
use Rattle.cf_pass.proofs.LetMoves.{items_moved_use, all_moved_uses, or_none, marks_same, marked_marks, all_marked_marks}

-- ---- a use of a level that lies below a let
apart : (x y : ℕ) → x < y → nat_eq x y ≡ false
apart x y h = grind (arith, nat_tests)

beyond : (x y : ℕ) → y < x → nat_eq x y ≡ false
beyond x y h = grind (arith, nat_tests)

alike : (x y : ℕ) → x ≡ y → nat_eq x y ≡ true
alike x y h = grind (arith, nat_tests)

fallen_uses : (x z : ℕ) → x < z → (y : ℕ) → nat_eq x (fallen z y) ≡ nat_eq x y
fallen_uses x z l y = by (cases_lt z y)
  where
    by : (z < y) ⊎ (y ≤ z) → nat_eq x (fallen z y) ≡ nat_eq x y
    by (inl h) = ap (λ w. nat_eq x w) (fallen_above z y h) ∙ apart x (y - 1) (omega (arith, h, l)) ∙ sym (apart x y (omega (arith, h, l)))
    by (inr h) = ap (λ w. nat_eq x w) (fallen_below z y h)

moved_rest_uses : (x z : ℕ) → x < z → (r : Rest) → rest_uses x (rest_moved (fallen z) r) ≡ rest_uses x r
moved_rest_uses x z l r = rw (items_moved_use (fallen z) x (fallen_uses x z l) r.items, all_moved_uses (fallen z) x (fallen_uses x z l) r.gives) refl

-- ---- the last mark
marks_last : (u : ℕ → Bool) (x k : ℕ) (fs : List Bool) → marks_of u x (suc k) ++ fs ≡ marks_of u x k ++ (u (x + k) ∷ fs)
marks_last u x zero fs = let e : x ≡ x + 0 = omega arith in ap (λ y. u y ∷ fs) e
marks_last u x (suc k) fs =
    let e : suc x + k ≡ x + suc k = omega arith in
    ap (λ bs. u x ∷ bs) (marks_last u (suc x) k fs ∙ ap (λ y. marks_of u (suc x) k ++ (u y ∷ fs)) e)

last_is : (u : ℕ → Bool) (x k : ℕ) (b : Bool) (fs : List Bool) → get_or (marks_of u x k ++ (b ∷ fs)) k false ≡ b
last_is u x zero b fs = refl
last_is u x (suc k) b fs = last_is u (suc x) k b fs

-- ---- one item
or_turn : (t u v : Bool) → ((t || u) || v) ≡ ((v || t) || u)
or_turn true u true = refl
or_turn true u false = refl
or_turn false u true = turned u
  where
    turned : (u : Bool) → (u || true) ≡ true
    turned true = refl
    turned false = refl
or_turn false u false = or_none u

-- the marks of the lets before some items, and which of the lets behind stay
abbrev pub state_of : ℕ → CodeTrees → ℕ → ItemTrees → List Bool
state_of x gs k is = marks_of (λ y. rest_uses y (lets_dropped (x + k) is gs)) x k ++ lets_stay (x + k) is gs

used_more : (x k : ℕ) (c : CodeTree) (r : Rest) (fs : List Bool) (j : ItemTree)
    → ((y : ℕ) → rest_uses y (behind j r) ≡ ((uses y c || items_use y r.items) || any_uses y r.gives)) →
    marked x k c (marks_of (λ y. rest_uses y r) x k ++ fs) ≡ marks_of (λ y. rest_uses y (behind j r)) x k ++ fs
used_more x k c r fs j e =
    marked_marks x k fs c (λ y. rest_uses y r)
    ∙ ap (λ bs. bs ++ fs) (marks_same _ _ x k (λ y l. or_turn (items_use y r.items) (any_uses y r.gives) (uses y c) ∙ sym (e y)))

let_marked : (x k : ℕ) (c : CodeTree) (r : Rest) (fs bs : List Bool) (b : Bool) → bs ≡ marks_of (λ y. rest_uses y r) x k ++ (b ∷ fs) →
    cond (get_or bs k false) (marked x k c bs) bs
    ≡ marks_of (λ y. rest_uses y (cond b (behind (let_item c) r) (rest_moved (fallen (x + k)) r))) x k ++ (b ∷ fs)
let_marked x k c r fs bs true e =
    rw (e, last_is (λ y. rest_uses y r) x k true fs) (used_more x k c r (true ∷ fs) (let_item c) (λ y. refl))
let_marked x k c r fs bs false e =
    rw (e, last_is (λ y. rest_uses y r) x k false fs)
    (ap (λ bs. bs ++ (false ∷ fs)) (marks_same _ _ x k (λ y l. sym (moved_rest_uses y (x + k) l r))))

item_step : (x k : ℕ) (j : ItemTree) (is : ItemTrees) (gs : CodeTrees) →
    item_marked x (behind_item j k) j (state_of x gs (behind_item j k) is) ≡ state_of x gs k (item_more j is)
item_step x k (need_item c) is gs = used_more x k c (lets_dropped (x + k) is gs) (lets_stay (x + k) is gs) (need_item c) (λ y. refl)
item_step x k (let_item c) is gs =
    let m : suc k - 1 ≡ k = omega arith in
    let e : x + suc k ≡ suc (x + k) = omega arith in
    let r = lets_dropped (suc (x + k)) is gs in
    let fs = lets_stay (suc (x + k)) is gs in
    let bs = state_of x gs (suc k) is in
    ap (λ n. cond (get_or bs n false) (marked x n c bs) bs) m
    ∙ let_marked x k c r fs bs (rest_uses (x + k) r)
    (ap (λ z. marks_of (λ y. rest_uses y (lets_dropped z is gs)) x (suc k) ++ lets_stay z is gs) e ∙ marks_last (λ y. rest_uses y r) x k fs)

-- ---- all items
marks_are : (is : ItemTrees) (x k n : ℕ) (gs : CodeTrees) → n ≡ k + count_lets is → items_marked x n is (state_of x gs n no_items) ≡ state_of x gs k is
marks_are no_items x k n gs e = let same : n ≡ k = omega (arith, e) in ap (λ m. state_of x gs m no_items) same
marks_are (item_more (let_item c) is) x k n gs e =
    let h : n ≡ suc k + count_lets is = omega (arith, e) in
    let before : n - count_lets is ≡ suc k = omega (arith, e) in
    ap (λ bs. item_marked x (n - count_lets is) (let_item c) bs) (marks_are is x (suc k) n gs h)
    ∙ ap (λ m. item_marked x m (let_item c) (state_of x gs (suc k) is)) before ∙ item_step x k (let_item c) is gs
marks_are (item_more (need_item c) is) x k n gs e =
    let before : n - count_lets is ≡ k = omega (arith, e) in
    ap (λ bs. item_marked x (n - count_lets is) (need_item c) bs) (marks_are is x k n gs e)
    ∙ ap (λ m. item_marked x m (need_item c) (state_of x gs k is)) before ∙ item_step x k (need_item c) is gs

unmarked : (x n : ℕ) → replicate n false ≡ marks_of (λ y. false) x n ++ []
unmarked x zero = refl
unmarked x (suc n) = ap (λ bs. false ∷ bs) (unmarked (suc x) n)

pub stay_marked : (x : ℕ) (is : ItemTrees) (gs : CodeTrees) (n : ℕ) → n ≡ count_lets is →
    items_marked x n is (all_marked x n gs (replicate n false)) ≡ lets_stay x is gs
stay_marked x is gs n e =
    let h : n ≡ 0 + count_lets is = omega (arith, e) in
    let first : x + 0 ≡ x = omega arith in
    ap (λ bs. items_marked x n is bs) (ap (λ bs. all_marked x n gs bs) (unmarked x n) ∙ all_marked_marks x n [] gs (λ y. false))
    ∙ marks_are is x 0 n gs h ∙ ap (λ z. lets_stay z is gs) first

take_none : (n : ℕ) → take {A = Bool} n [] ≡ []
take_none zero = refl
take_none (suc n) = refl

-- as many marks as there are lets
pub fresh_marks : (n len : ℕ) (old new : List Bool) → old ≡ [] → len ≡ 0 → new ≡ take n old ++ replicate (n - len) false → new ≡ replicate n false
fresh_marks n len old new e l h =
    let all : n - 0 ≡ n = omega arith in
    h ∙ ap (λ bs. take n bs ++ replicate (n - len) false) e ∙ ap (λ m. take {A = Bool} n [] ++ replicate (n - m) false) l
    ∙ ap (λ bs. bs ++ replicate (n - 0) false) (take_none n) ∙ ap (λ m. replicate m false) all

-- ---- items in a vector
pub drop_step : (xs : List Item) (i : ℕ) (d : Item) → i < length xs →
    item_trees (drop i xs) ≡ item_more (item_tree (get_or xs i d)) (item_trees (drop (suc i) xs))
drop_step [] i d l = absurd (omega (arith, l))
drop_step (y ∷ xs) zero d l = refl
drop_step (y ∷ xs) (suc i) d l = drop_step xs i d (omega (arith, l))

-- the marks of one item more, and how many lets stand before it
pub mark_step : (x n : ℕ) (xs : List Item) (i : ℕ) (d : Item) (bs old : List Bool) (known : ℕ) → i < length xs →
    known ≡ n - count_lets (item_trees (drop (suc i) xs)) → bs ≡ items_marked x n (item_trees (drop (suc i) xs)) old →
    item_marked x known (item_tree (get_or xs i d)) bs ≡ items_marked x n (item_trees (drop i xs)) old
mark_step x n xs i d bs old known l e h =
    ap (λ m. item_marked x m (item_tree (get_or xs i d)) bs) e
    ∙ ap (λ s. item_marked x (n - count_lets (item_trees (drop (suc i) xs))) (item_tree (get_or xs i d)) s) h
    ∙ ap (λ is. items_marked x n is old) (sym (drop_step xs i d l))

before_item : (j : ItemTree) (is : ItemTrees) (n : ℕ) → lets_before j (n - count_lets is) ≡ n - count_lets (item_more j is)
before_item (need_item c) is n = refl
before_item (let_item c) is n = omega arith

pub before_step : (n : ℕ) (xs : List Item) (i : ℕ) (d : Item) (known : ℕ) → i < length xs →
    known ≡ n - count_lets (item_trees (drop (suc i) xs)) → lets_before (item_tree (get_or xs i d)) known ≡ n - count_lets (item_trees (drop i xs))
before_step n xs i d known l e =
    ap (λ m. lets_before (item_tree (get_or xs i d)) m) e ∙ before_item (item_tree (get_or xs i d)) (item_trees (drop (suc i) xs)) n
    ∙ ap (λ is. n - count_lets is) (sym (drop_step xs i d l))

pub none_left : (xs : List Item) → drop (length xs) xs ≡ []
none_left [] = refl
none_left (y ∷ xs) = none_left xs

-- ---- one mark
no_mark : (b t : Bool) → t ≡ false → (b || t) ≡ b
no_mark b t e = rw e (or_none b)

pub mark_low : (x k y : ℕ) (bs : List Bool) → y < x → level_marked x k y bs ≡ bs
mark_low x zero y bs l = refl
mark_low x (suc k) y [] l = refl
mark_low x (suc k) y (b ∷ bs) l = rw (no_mark b (nat_eq x y) (beyond x y l), mark_low (suc x) k y bs (omega (arith, l))) refl

pub mark_high : (x k y : ℕ) (bs : List Bool) → x + k ≤ y → level_marked x k y bs ≡ bs
mark_high x zero y bs l = refl
mark_high x (suc k) y [] l = refl
mark_high x (suc k) y (b ∷ bs) l = rw (no_mark b (nat_eq x y) (apart x y (omega (arith, l))), mark_high (suc x) k y bs (omega (arith, l))) refl

has_mark : (b t : Bool) → t ≡ true → (b || t) ≡ true
has_mark true t e = refl
has_mark false t e = e

pub mark_at : (x k y i : ℕ) (bs : List Bool) → i < k → y ≡ x + i → level_marked x k y bs ≡ set bs i true
mark_at x zero y i bs l e = absurd (omega (arith, l))
mark_at x (suc k) y i [] l e = refl
mark_at x (suc k) y zero (b ∷ bs) l e =
    let same : x ≡ y = omega (arith, e) in rw (has_mark b (nat_eq x y) (alike x y same), mark_low (suc x) k y bs (omega (arith, e))) refl
mark_at x (suc k) y (suc i) (b ∷ bs) l e =
    rw (no_mark b (nat_eq x y) (apart x y (omega (arith, e))), mark_at (suc x) k y i bs (omega (arith, l)) (omega (arith, e))) refl

pub set_past : (bs : List Bool) (i : ℕ) (b : Bool) → length bs ≤ i → set bs i b ≡ bs
set_past [] i b l = refl
set_past (c ∷ bs) zero b l = absurd (omega (arith, l))
set_past (c ∷ bs) (suc i) b l = ap (λ cs. c ∷ cs) (set_past bs i b (omega (arith, l)))
