-- Items that stay move to the front of a vector, and codes are moved in place, one after the other.
use Rattle.std.proofs.Common.{◌≡◌, ◌<◌, ◌≤◌, ℕ, zero, suc, Bool, true, false, cond, List, [], ◌∷◌, ◌++◌, length, take, drop, get_or, refl, sym, ap, ◌∙◌, arith}
use Rattle.std.proofs.Math.ListN.{set}
use Rattle.cf_tree.specs.declared.code.Code.{Code}
use Rattle.cf_tree.specs.declared.code.Item.{Item}
use Rattle.cf_tree.specs.CodeTree.{CodeTree, CodeTrees, no_codes, code_more, ItemTrees, no_items, item_more}
use Rattle.cf_tree.specs.CodeView.{code_tree, code_trees, item_tree, item_trees}
use Rattle.cf_pass.specs.Lets.{moved, all_moved, item_moved, Rest, behind, item_count}
use Rattle.cf_pass.specs.LetSteps.{lowered, item_stays, item_gone, item_dropped, item_rest, behind_if, left}
use Rattle.cf_pass.proofs.LetMarks.{drop_step}

-- ---- an element that is set
take_low : {A : Type 0} (xs : List A) (k i : ℕ) (v : A) → k ≤ i → take k (set xs i v) ≡ take k xs
take_low [] k i v l = refl
take_low (x ∷ xs) zero i v l = refl
take_low (x ∷ xs) (suc k) zero v l = absurd (omega (arith, l))
take_low (x ∷ xs) (suc k) (suc i) v l = ap (λ ys. x ∷ ys) (take_low xs k i v (omega (arith, l)))

drop_set : {A : Type 0} (xs : List A) (m i : ℕ) (v : A) → i < m → drop m (set xs i v) ≡ drop m xs
drop_set xs zero i v l = absurd (omega (arith, l))
drop_set [] (suc m) i v l = refl
drop_set (x ∷ xs) (suc m) zero v l = refl
drop_set (x ∷ xs) (suc m) (suc i) v l = drop_set xs m i v (omega (arith, l))

set_at : {A : Type 0} (xs : List A) (i : ℕ) (v : A) → i < length xs → take 1 (drop i (set xs i v)) ≡ v ∷ []
set_at [] i v l = absurd (omega (arith, l))
set_at (x ∷ xs) zero v l = refl
set_at (x ∷ xs) (suc i) v l = set_at xs i v (omega (arith, l))

-- ---- items before a rest
abbrev pub join : ItemTrees → Rest → Rest
join no_items r = r
join (item_more i is) r = behind i (join is r)

abbrev pub rest_of : ItemTrees → CodeTrees → Rest
rest_of is gs = record { items = is; gives = gs }

pub join_end : (is : ItemTrees) (gs : CodeTrees) → join is (rest_of no_items gs) ≡ rest_of is gs
join_end no_items gs = refl
join_end (item_more i is) gs = ap (λ r. behind i r) (join_end is gs)

join_one : (xs : List Item) (x : Item) (r : Rest) → join (item_trees (xs ++ x ∷ [])) r ≡ join (item_trees xs) (behind (item_tree x) r)
join_one [] x r = refl
join_one (y ∷ xs) x r = ap (λ s. behind (item_tree y) s) (join_one xs x r)

-- an item that is set, and kept where it stays
join_kept : (b : Bool) (xs zs : List Item) (i kept kept' : ℕ) (x : Item) (r : Rest) → i < length xs → kept ≤ i →
    take kept' zs ≡ take kept (set xs i x) ++ cond b (take 1 (drop i (set xs i x))) [] →
    join (item_trees (take kept' zs)) r ≡ join (item_trees (take kept xs)) (behind_if b (item_tree x) r)
join_kept true xs zs i kept kept' x r l m e =
    ap (λ ys. join (item_trees ys) r) (e ∙ ap (λ ys. take kept (set xs i x) ++ ys) (set_at xs i x l) ∙ ap (λ ys. ys ++ x ∷ []) (take_low xs kept i x m))
    ∙ join_one (take kept xs) x r
join_kept false xs zs i kept kept' x r l m e =
    ap (λ ys. join (item_trees ys) r) (e ∙ nothing_more (take kept (set xs i x)) ∙ take_low xs kept i x m)
  where
    nothing_more : (ys : List Item) → ys ++ [] ≡ ys
    nothing_more [] = refl
    nothing_more (y ∷ ys) = ap (λ ws. y ∷ ws) (nothing_more ys)

-- one item more
pub settle_step : (gs : CodeTrees) (xs zs : List Item) (i kept kept' : ℕ) (d0 x' : Item) (b : Bool) (x : ℕ) (gone gone' : List ℕ) (d d' : ℕ)
    (stay : List Bool) →
    i < length xs → kept ≤ i →
    b ≡ item_stays (drop (length gone) stay) (item_tree (get_or xs i d0)) →
    item_tree x' ≡ item_moved (lowered x gone d) (item_tree (get_or xs i d0)) →
    gone' ≡ item_gone (drop (length gone) stay) (item_tree (get_or xs i d0)) gone d →
    d' ≡ item_dropped (drop (length gone) stay) (item_tree (get_or xs i d0)) d →
    drop (length gone') stay ≡ item_rest (drop (length gone) stay) (item_tree (get_or xs i d0)) →
    take kept' zs ≡ take kept (set xs i x') ++ cond b (take 1 (drop i (set xs i x'))) [] →
    drop (suc i) zs ≡ drop (suc i) (set xs i x') →
    join (item_trees (take kept' zs)) (left x gone' d' (drop (length gone') stay) (item_trees (drop (suc i) zs)) gs)
    ≡ join (item_trees (take kept xs)) (left x gone d (drop (length gone) stay) (item_trees (drop i xs)) gs)
settle_step gs xs zs i kept kept' d0 x' b x gone gone' d d' stay l m eb ex eg ed es et er =
    let fs = drop (length gone) stay in
    let j = item_tree (get_or xs i d0) in
    join_kept b xs zs i kept kept' x' (left x gone' d' (drop (length gone') stay) (item_trees (drop (suc i) zs)) gs) l m et
    ∙ ap (λ ys. join (item_trees (take kept xs)) (behind_if b (item_tree x') (left x gone' d' (drop (length gone') stay) (item_trees ys) gs)))
    (er ∙ drop_set xs (suc i) i x' (omega arith))
    ∙ ap (λ ws. join (item_trees (take kept xs)) (behind_if b (item_tree x') (left x gone' d' ws (item_trees (drop (suc i) xs)) gs))) es
    ∙ ap (λ n. join (item_trees (take kept xs)) (behind_if b (item_tree x') (left x gone' n (item_rest fs j) (item_trees (drop (suc i) xs)) gs))) ed
    ∙ ap (λ ns. join (item_trees (take kept xs))
    (behind_if b (item_tree x') (left x ns (item_dropped fs j d) (item_rest fs j) (item_trees (drop (suc i) xs)) gs))) eg
    ∙ ap (λ t. join (item_trees (take kept xs)) (behind_if b t (left x (item_gone fs j gone d) (item_dropped fs j d) (item_rest fs j)
    (item_trees (drop (suc i) xs)) gs))) ex
    ∙ ap (λ t. join (item_trees (take kept xs)) (behind_if t (item_moved (lowered x gone d) j) (left x (item_gone fs j gone d) (item_dropped fs j d)
    (item_rest fs j) (item_trees (drop (suc i) xs)) gs))) eb
    ∙ ap (λ is. join (item_trees (take kept xs)) (left x gone d fs is gs)) (sym (drop_step xs i d0 l))

pub as_many_items : (xs : List Item) → item_count (item_trees xs) ≡ length xs
as_many_items [] = refl
as_many_items (x ∷ xs) = ap suc (as_many_items xs)

-- ---- codes in a vector
abbrev pub moved_to : (ℕ → ℕ) → ℕ → CodeTrees → CodeTrees
moved_to f zero cs = cs
moved_to f (suc i) no_codes = no_codes
moved_to f (suc i) (code_more c cs) = code_more (moved f c) (moved_to f i cs)

same_codes : (c d : CodeTree) (cs ds : CodeTrees) → code_more c cs ≡ code_more d ds → (c ≡ d) × (cs ≡ ds)
same_codes c d cs ds e = (cc, cc)

pub codes_on : (f : ℕ → ℕ) (cs : CodeTrees) (xs : List Code) (i : ℕ) (d x : Code) → code_trees xs ≡ moved_to f i cs → i < length xs →
    code_tree x ≡ moved f (code_tree (get_or xs i d)) → code_trees (set xs i x) ≡ moved_to f (suc i) cs
codes_on f cs [] i d x e l h = absurd (omega (arith, l))
codes_on f no_codes (y ∷ xs) zero d x e l h = cc
codes_on f no_codes (y ∷ xs) (suc i) d x e l h = cc
codes_on f (code_more c cs) (y ∷ xs) zero d x e l h = let p = same_codes _ _ _ _ e in rw (h, p.0, p.1) refl
codes_on f (code_more c cs) (y ∷ xs) (suc i) d x e l h =
    let p = same_codes _ _ _ _ e in rw (p.0, codes_on f cs xs i d x p.1 (omega (arith, l)) h) refl

pub codes_all : (f : ℕ → ℕ) (cs : CodeTrees) (xs : List Code) → code_trees xs ≡ moved_to f (length xs) cs → code_trees xs ≡ all_moved f cs
codes_all f no_codes [] e = refl
codes_all f no_codes (y ∷ xs) e = cc
codes_all f (code_more c cs) [] e = cc
codes_all f (code_more c cs) (y ∷ xs) e = let p = same_codes _ _ _ _ e in rw (p.0, codes_all f cs xs p.1) refl
