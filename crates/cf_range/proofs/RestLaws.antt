-- What is left of an arm from some item on, as one path.
use Rattle.std.proofs.Common.{◌≡◌, ℕ, ◌≤◌, max, Bool, true, false, cond, Option, Some, None, List, [], ◌++◌, refl, sym, ap, ◌∙◌, arith}
use Rattle.cf_num.specs.Limit.{limit}
use Rattle.cf_tree.specs.CodeTree.{CodeTree, CodeTrees, let_item, need_item, ItemTrees, no_items, item_more}
use Rattle.cf_tree.specs.Meaning.{Got, got, none_at, Path, then_path, gives_only, if_some, path, all_path, items_path, truth_in}
use Rattle.cf_tree.specs.Values.{Value}
use Rattle.cf_range.specs.Alike.{Alike}
use Rattle.cf_range.proofs.AlikeLemmas.{alike_refl, alike_same, alike_trans, alike_then, alike_one, alike_cond, met_before}

abbrev pub give_path : CodeTrees → List Value → Path (Option (List Value))
give_path gs env = then_path (all_path gs env []) (λ vs. gives_only (Some vs))

abbrev pub rest_path : ItemTrees → CodeTrees → List Value → Path (Option (List Value))
rest_path is gs env = then_path (items_path is env) (λ next. if_some next (give_path gs))

abbrev met : {A : Type 0} → ℕ → Path A → Path A
met k p = record { gives = p.gives; peak = max k p.peak }

abbrev path_of : {A : Type 0} → Got A → ℕ → Path A
path_of g k = record { gives = g; peak = k }

met_then : {A B : Type 0} (k : ℕ) (p : Path A) (f : A → Path B) → then_path (met k p) f ≡ met k (then_path p f)
met_then {A = A} k p f = by p.gives p.peak
  where
    grouped : (a b c : ℕ) → max (max a b) c ≡ max a (max b c)
    grouped a b c = omega arith

    by : (g : Got A) (m : ℕ) → then_path (path_of g (max k m)) f ≡ met k (then_path (path_of g m) f)
    by (got x) m = ap (path_of (f x).gives) (grouped k m (f x).peak)
    by (none_at n) m = refl

met_zero : {A : Type 0} (k : ℕ) (p : Path A) → met (max k 0) p ≡ met k p
met_zero k p = ap (λ n. met n p) (none k)
  where
    none : (k : ℕ) → max k 0 ≡ k
    none k = omega arith

-- ---- the first item, and then the others
pub let_first : (c : CodeTree) (is : ItemTrees) (gs : CodeTrees) (env : List Value) →
    rest_path (item_more (let_item c) is) gs env ≡ then_path (path c env) (λ x. rest_path is gs (env ++ x))
let_first c is gs env = by (path c env).gives (path c env).peak
  where
    by : (g : Got (List Value)) (k : ℕ) →
        then_path (then_path (then_path (path_of g k) (λ x. gives_only (Some (env ++ x)))) (λ next. if_some next (items_path is))) (λ next. if_some next (give_path gs))
        ≡ then_path (path_of g k) (λ x. rest_path is gs (env ++ x))
    by (got x) k = met_then (max k 0) (items_path is (env ++ x)) (λ next. if_some next (give_path gs)) ∙ met_zero k (rest_path is gs (env ++ x))
    by (none_at n) k = refl

abbrev pub need_path : Bool → ItemTrees → CodeTrees → List Value → Path (Option (List Value))
need_path t is gs env = cond t (rest_path is gs env) (gives_only None)

pub need_first : (c : CodeTree) (is : ItemTrees) (gs : CodeTrees) (env : List Value) →
    rest_path (item_more (need_item c) is) gs env ≡ then_path (path c env) (λ x. need_path (truth_in x) is gs env)
need_first c is gs env = by (path c env).gives (path c env).peak
  where
    none : (k : ℕ) → max (max (max k 0) 0) 0 ≡ max k 0
    none k = omega arith

    on_truth : (t : Bool) (k : ℕ) →
        then_path (then_path (path_of (got (cond t (Some env) None)) (max k 0)) (λ next. if_some next (items_path is))) (λ next. if_some next (give_path gs))
        ≡ met k (need_path t is gs env)
    on_truth true k = met_then (max k 0) (items_path is env) (λ next. if_some next (give_path gs)) ∙ met_zero k (rest_path is gs env)
    on_truth false k = ap (path_of (got None)) (none k)

    by : (g : Got (List Value)) (k : ℕ) →
        then_path (then_path (then_path (path_of g k) (λ x. gives_only (cond (truth_in x) (Some env) None))) (λ next. if_some next (items_path is)))
        (λ next. if_some next (give_path gs))
        ≡ then_path (path_of g k) (λ x. need_path (truth_in x) is gs env)
    by (got x) k = on_truth (truth_in x) k
    by (none_at n) k = refl

-- ---- what follows alike
pub give_alike : (gs hs : CodeTrees) (env inner : List Value) → Alike (all_path gs env []) (all_path hs inner []) →
    Alike (give_path gs env) (give_path hs inner)
give_alike gs hs env inner h = alike_one (all_path gs env []) (all_path hs inner []) (λ vs. gives_only (Some vs)) h

pub none_alike : (gs hs : CodeTrees) (env inner : List Value) → Alike (give_path gs env) (give_path hs inner) →
    Alike (rest_path no_items gs env) (rest_path no_items hs inner)
none_alike gs hs env inner h =
    let back = met_before 0 (give_path hs inner) (give_path gs env) (omega arith) (h.1, h.0) in
    met_before 0 (give_path gs env) (rest_path no_items hs inner) (omega arith) (back.1, back.0)

pub lets_alike : (c d : CodeTree) (is js : ItemTrees) (gs hs : CodeTrees) (env inner : List Value) → Alike (path c env) (path d inner) →
    ((x : List Value) → (path c env).gives ≡ got x → (path c env).peak ≤ limit → Alike (rest_path is gs (env ++ x)) (rest_path js hs (inner ++ x))) →
    Alike (rest_path (item_more (let_item c) is) gs env) (rest_path (item_more (let_item d) js) hs inner)
lets_alike c d is js gs hs env inner h k =
    alike_trans (rest_path (item_more (let_item c) is) gs env) (then_path (path c env) (λ x. rest_path is gs (env ++ x)))
    (rest_path (item_more (let_item d) js) hs inner)
    (alike_same _ _ (let_first c is gs env))
    (alike_trans (then_path (path c env) (λ x. rest_path is gs (env ++ x))) (then_path (path d inner) (λ x. rest_path js hs (inner ++ x)))
    (rest_path (item_more (let_item d) js) hs inner)
    (alike_then (path c env) (path d inner) _ _ h k)
    (alike_same _ _ (sym (let_first d js hs inner))))

pub needs_alike : (c d : CodeTree) (is js : ItemTrees) (gs hs : CodeTrees) (env inner : List Value) → Alike (path c env) (path d inner) →
    Alike (rest_path is gs env) (rest_path js hs inner) →
    Alike (rest_path (item_more (need_item c) is) gs env) (rest_path (item_more (need_item d) js) hs inner)
needs_alike c d is js gs hs env inner h k =
    alike_trans (rest_path (item_more (need_item c) is) gs env) (then_path (path c env) (λ x. need_path (truth_in x) is gs env))
    (rest_path (item_more (need_item d) js) hs inner)
    (alike_same _ _ (need_first c is gs env))
    (alike_trans (then_path (path c env) (λ x. need_path (truth_in x) is gs env)) (then_path (path d inner) (λ x. need_path (truth_in x) js hs inner))
    (rest_path (item_more (need_item d) js) hs inner)
    (alike_then (path c env) (path d inner) _ _ h
    (λ x e l. alike_cond (truth_in x) (rest_path is gs env) (rest_path js hs inner) (gives_only None) (gives_only None) k (alike_refl (gives_only None))))
    (alike_same _ _ (sym (need_first d js hs inner))))
