-- The lets of an arm dropped one after the other from the first, each later code moved once, leave what the definition leaves.
use Rattle.std.proofs.Common.{◌≡◌, ◌<◌, ◌≤◌, ℕ, zero, suc, ◌+◌, ◌-◌, Bool, true, false, cond, List, [], ◌∷◌, ◌++◌, length, drop, get_or, ◌⊎◌, inl, inr, length-append, refl, sym, ap, subst, ◌∙◌, arith}
use Rattle.std.proofs.lemmas.Bool.{cases_lt}
use Rattle.cf_tree.specs.CodeTree.{CodeTree, CodeTrees, let_item, need_item, ItemTrees, no_items, item_more}
use Rattle.cf_pass.specs.Lets.{moved, items_moved, fallen, Rest, rest_uses, rest_moved, behind, lets_dropped, item_count}
use Rattle.cf_pass.specs.LetSteps.{lets_stay, lowered, left}
use Rattle.cf_pass.proofs.LetLemmas.{fallen_above, fallen_below}
use Rattle.cf_pass.proofs.LetMoves.{rest_moved_twice, rest_moved_self}

-- ---- one let more
more_in : (gone : List ℕ) (d i : ℕ) → get_or (gone ++ d ∷ []) i d ≡ get_or gone i d
more_in [] d zero = refl
more_in [] d (suc i) = refl
more_in (n ∷ gone) d zero = refl
more_in (n ∷ gone) d (suc i) = more_in gone d i

more_low : (gone : List ℕ) (d e i : ℕ) → i ≤ length gone → get_or (gone ++ d ∷ []) i e ≡ get_or gone i d
more_low [] d e zero l = refl
more_low [] d e (suc i) l = absurd (omega (arith, l))
more_low (n ∷ gone) d e zero l = refl
more_low (n ∷ gone) d e (suc i) l = more_low gone d e i (omega (arith, l))

past : (gone : List ℕ) (d i : ℕ) → length gone ≤ i → get_or gone i d ≡ d
past [] d i l = refl
past (n ∷ gone) d zero l = absurd (omega (arith, l))
past (n ∷ gone) d (suc i) l = past gone d i (omega (arith, l))

-- ---- levels
lowered_stays : (x : ℕ) (gone : List ℕ) (d y : ℕ) → lowered x (gone ++ d ∷ []) d y ≡ lowered x gone d y
lowered_stays x gone d y = ap (λ n. y - n) (more_in gone d (y - x))

lowered_falls : (x : ℕ) (gone : List ℕ) (d y : ℕ) → lowered x gone d (fallen (x + length gone) y) ≡ lowered x (gone ++ d ∷ []) (suc d) y
lowered_falls x gone d y = by (cases_lt (x + length gone) y)
  where
    by : (x + length gone < y) ⊎ (y ≤ x + length gone) → lowered x gone d (fallen (x + length gone) y) ≡ lowered x (gone ++ d ∷ []) (suc d) y
    by (inl h) =
        let one : (y - 1) - d ≡ y - suc d = omega arith in
        ap (λ z. lowered x gone d z) (fallen_above (x + length gone) y h) ∙ ap (λ n. (y - 1) - n) (past gone d ((y - 1) - x) (omega (arith, h))) ∙ one
        ∙ ap (λ n. y - n) (sym (past (gone ++ d ∷ []) (suc d) (y - x) (omega (arith, h, length-append gone (d ∷ [])))))
    by (inr h) =
        ap (λ z. lowered x gone d z) (fallen_below (x + length gone) y h) ∙ ap (λ n. y - n) (sym (more_low gone d (suc d) (y - x) (omega (arith, h))))

lowered_none : (x y : ℕ) → lowered x [] 0 y ≡ y
lowered_none x y = omega arith

same_rest : (f h : ℕ → ℕ) → ((y : ℕ) → f y ≡ h y) → (r : Rest) → rest_moved f r ≡ rest_moved h r
same_rest f h e r = ap (λ s. rest_moved f s) (sym (rest_moved_self (λ y. y) (λ y. refl) r.items r.gives)) ∙ rest_moved_twice f (λ y. y) h e r.items r.gives

-- ---- what is left
let_left : (x : ℕ) (gone : List ℕ) (d : ℕ) (c : CodeTree) (is : ItemTrees) (gs : CodeTrees) (r : Rest) (fs : List Bool) (b : Bool) →
    ((e : ℕ) → left x (gone ++ d ∷ []) e fs is gs ≡ rest_moved (lowered x (gone ++ d ∷ []) e) r) →
    left x gone d (b ∷ fs) (item_more (let_item c) is) gs
    ≡ rest_moved (lowered x gone d) (cond b (behind (let_item c) r) (rest_moved (fallen (x + length gone)) r))
let_left x gone d c is gs r fs true h =
    ap (λ s. behind (let_item (moved (lowered x gone d) c)) s) (h d ∙ same_rest (lowered x (gone ++ d ∷ []) d) (lowered x gone d) (lowered_stays x gone d) r)
let_left x gone d c is gs r fs false h =
    h (suc d) ∙ sym (rest_moved_twice (lowered x gone d) (fallen (x + length gone)) (lowered x (gone ++ d ∷ []) (suc d)) (lowered_falls x gone d) r.items
    r.gives)

left_from : (is : ItemTrees) (x : ℕ) (gone : List ℕ) (d : ℕ) (gs : CodeTrees) →
    left x gone d (lets_stay (x + length gone) is gs) is gs ≡ rest_moved (lowered x gone d) (lets_dropped (x + length gone) is gs)
left_from no_items x gone d gs = refl
left_from (item_more (need_item c) is) x gone d gs = ap (λ s. behind (need_item (moved (lowered x gone d) c)) s) (left_from is x gone d gs)
left_from (item_more (let_item c) is) x gone d gs =
    let e : x + length (gone ++ d ∷ []) ≡ suc (x + length gone) = omega (arith, length-append gone (d ∷ [])) in
    let_left x gone d c is gs (lets_dropped (suc (x + length gone)) is gs) (lets_stay (suc (x + length gone)) is gs)
    (rest_uses (x + length gone) (lets_dropped (suc (x + length gone)) is gs))
    (λ d'. subst (λ z. left x (gone ++ d ∷ []) d' (lets_stay z is gs) is gs ≡ rest_moved (lowered x (gone ++ d ∷ []) d') (lets_dropped z is gs)) e
    (left_from is x (gone ++ d ∷ []) d' gs))

pub left_is : (is : ItemTrees) (x : ℕ) (gs : CodeTrees) → left x [] 0 (lets_stay x is gs) is gs ≡ lets_dropped x is gs
left_is is x gs =
    let e : x + length {A = ℕ} [] ≡ x = omega arith in
    let r = lets_dropped x is gs in
    subst (λ z. left x [] 0 (lets_stay z is gs) is gs ≡ rest_moved (lowered x [] 0) (lets_dropped z is gs)) e (left_from is x [] 0 gs)
    ∙ rest_moved_self (lowered x [] 0) (lowered_none x) r.items r.gives

-- the same, where nothing is dropped so far
pub left_whole : (x : ℕ) (gone : List ℕ) (d : ℕ) (stay : List Bool) (is : ItemTrees) (gs : CodeTrees) (r : Rest) → gone ≡ [] → d ≡ 0 →
    stay ≡ lets_stay x is gs → left x gone d (drop (length gone) stay) is gs ≡ r → lets_dropped x is gs ≡ r
left_whole x gone d stay is gs r eg ed es h =
    let a = subst (λ g. left x g d (drop (length g) stay) is gs ≡ r) eg h in
    let b = subst (λ n. left x [] n stay is gs ≡ r) ed a in
    sym (left_is is x gs) ∙ subst (λ fs. left x [] 0 fs is gs ≡ r) es b

-- ---- how many items are left
moved_as_many : (f : ℕ → ℕ) (is : ItemTrees) → item_count (items_moved f is) ≡ item_count is
moved_as_many f no_items = refl
moved_as_many f (item_more i is) = ap suc (moved_as_many f is)

no_more : (x : ℕ) (c : CodeTree) (r : Rest) (n : ℕ) (b : Bool) → item_count r.items ≤ n →
    item_count (cond b (behind (let_item c) r) (rest_moved (fallen x) r)).items ≤ suc n
no_more x c r n true l = omega (arith, l)
no_more x c r n false l = omega (arith, l, moved_as_many (fallen x) r.items)

pub left_fewer : (is : ItemTrees) (x : ℕ) (gs : CodeTrees) → item_count (lets_dropped x is gs).items ≤ item_count is
left_fewer no_items x gs = omega arith
left_fewer (item_more (need_item c) is) x gs = omega (arith, left_fewer is x gs)
left_fewer (item_more (let_item c) is) x gs =
    no_more x c (lets_dropped (suc x) is gs) (item_count is) (rest_uses x (lets_dropped (suc x) is gs)) (left_fewer is (suc x) gs)
