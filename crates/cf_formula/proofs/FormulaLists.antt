-- The loops over lists of formulas.
use Rattle.std.proofs.Common.{◌≡◌, ℕ, ◌<◌, ◌≤◌, ◌+◌, List, [], ◌∷◌, ◌++◌, map, Bool, true, false, cond, not, ◌||◌, refl, sym, ◌∙◌, ap, arith, zero, suc, append_assoc, get_or, length, take, drop, drop-cons, add-one, reverse}
use Rattle.std.specs.Prelude.{filter}
use Rattle.std.specs.List.{list_any}
use Rattle.std.proofs.Math.ListN.{drop_of_length-le}
use Rattle.std.proofs.lemmas.List.{append-nil, reverse-append, reverse-reverse}
use Rattle.cf_linear.proofs.BoolLemmas.{on_bool}
use Rattle.cf_formula.specs.declared.formula.Formula.{Formula as DeclaredFormula}
use Rattle.cf_formula.specs.Formulas.{Formula, both, either}
use Rattle.cf_formula.specs.FormulaView.{formula_tree, formula_trees, IsMoved}
use Rattle.cf_formula.specs.Members.{same_formula, is_among, distinct_formulas, unmarked, all_of, any_of}

-- ---- places
pub tree_at : (fs : List DeclaredFormula) (i : ℕ) (f : DeclaredFormula) → i < length fs → f ≡ get_or fs i f →
    formula_trees (drop i fs) ≡ formula_tree f ∷ formula_trees (drop (i + 1) fs)
tree_at fs i f h e =
    let d : drop i fs ≡ get_or fs i f ∷ drop (i + 1) fs = rw (add-one, drop-cons fs i f) refl in
    ap formula_trees d ∙ ap (λ g. formula_tree g ∷ formula_trees (drop (i + 1) fs)) (sym e)

pub place_tree : (fs : List DeclaredFormula) (i : ℕ) (f : DeclaredFormula) → i < length fs → f ≡ get_or fs i f →
    formula_trees (take (i + 1) fs) ≡ formula_trees (take i fs) ++ (formula_tree f ∷ [])
place_tree [] i f h e = absurd (omega arith)
place_tree (g ∷ fs) zero f h e = ap (λ d. formula_tree d ∷ []) (sym e)
place_tree (g ∷ fs) (suc i) f h e = let k = rw add-one at (place_tree fs i f (omega arith) e) in rw add-one (ap (λ ts. formula_tree g ∷ ts) k)

pub among_next : (fs : List DeclaredFormula) (f : Formula) (i : ℕ) (g : DeclaredFormula) → i < length fs → g ≡ get_or fs i g →
    is_among (formula_trees (drop i fs)) f ≡ (same_formula f (formula_tree g) || is_among (formula_trees (drop (i + 1) fs)) f)
among_next fs f i g h e = ap (λ gs. is_among gs f) (tree_at fs i g h e)

pub among_end : (fs : List DeclaredFormula) (f : Formula) (i : ℕ) → length fs ≤ i → is_among (formula_trees (drop i fs)) f ≡ false
among_end fs f i h = rw (drop_of_length-le fs h) refl

-- ---- the last one is the next of those that are left
pub trees-append : (fs gs : List DeclaredFormula) → formula_trees (fs ++ gs) ≡ formula_trees fs ++ formula_trees gs
trees-append [] gs = refl
trees-append (f ∷ fs) gs = ap (λ ts. formula_tree f ∷ ts) (trees-append fs gs)

pub last_next : (before left : List DeclaredFormula) (f : DeclaredFormula) → before ≡ left ++ (f ∷ []) →
    formula_trees (reverse before) ≡ formula_tree f ∷ formula_trees (reverse left)
last_next before left f e = ap (λ fs. formula_trees (reverse fs)) e ∙ ap formula_trees (reverse-append left (f ∷ []))

pub all_left : (fs left : List DeclaredFormula) → left ≡ reverse fs → formula_trees (reverse left) ≡ formula_trees fs
all_left fs left e = ap (λ gs. formula_trees (reverse gs)) e ∙ ap formula_trees (reverse-reverse fs)

kept_tree : (kept : List DeclaredFormula) (f : DeclaredFormula) (b : Bool) →
    formula_trees (kept ++ cond b (f ∷ []) []) ≡ formula_trees kept ++ cond b (formula_tree f ∷ []) []
kept_tree kept f true = trees-append kept (f ∷ [])
kept_tree kept f false = trees-append kept []

-- ---- equal ones once: what was kept may stand in any order
pub any_append : (p : Formula → Bool) (xs ys : List Formula) → list_any p (xs ++ ys) ≡ (list_any p xs || list_any p ys)
any_append p [] ys = refl
any_append p (x ∷ xs) ys = on_bool (p x) (λ e. rw e refl) (λ e. rw e (any_append p xs ys))

pub any_one : (p : Formula → Bool) (x : Formula) → list_any p (x ∷ []) ≡ p x
any_one p x = on_bool (p x) (λ e. rw e refl) (λ e. rw e refl)

pub distinct_same : (s t fs : List Formula) → ((f : Formula) → is_among s f ≡ is_among t f) → distinct_formulas s fs ≡ distinct_formulas t fs
distinct_same s t [] h = refl
distinct_same s t (f ∷ fs) h =
    rw (h f, distinct_same s t fs h, distinct_same (f ∷ s) (f ∷ t) fs (λ g. ap (λ b. same_formula g f || b) (h g))) refl

-- what was kept, and what is new of those that are left
pub distinct_with : List Formula → List Formula → List Formula
distinct_with kept fs = kept ++ distinct_formulas kept fs

distinct_end : (kept : List Formula) → distinct_with kept [] ≡ kept
unfolding distinct_with
distinct_end kept = append-nil kept

last_first : (kept : List Formula) (f : Formula) (fs : List Formula) → distinct_formulas (f ∷ kept) fs ≡ distinct_formulas (kept ++ (f ∷ [])) fs
last_first kept f fs = distinct_same (f ∷ kept) (kept ++ (f ∷ [])) fs
    (λ g. swap (same_formula g f) (is_among kept g) ∙ sym (any_append (same_formula g) kept (f ∷ [])))
  where
    swap : (a b : Bool) → (a || b) ≡ (b || (a || false))
    swap true true = refl
    swap true false = refl
    swap false true = refl
    swap false false = refl

distinct_next : (kept fs : List Formula) (f : Formula) → distinct_with kept (f ∷ fs) ≡ distinct_with (kept ++ cond (not (is_among kept f)) (f ∷ []) []) fs
unfolding distinct_with
distinct_next kept fs f = on_bool (is_among kept f)
    (λ e. rw (e, append-nil kept) refl)
    (λ e. rw (e, last_first kept f fs) (sym (append_assoc kept (f ∷ []) (distinct_formulas (kept ++ (f ∷ [])) fs))))

pub distinct_start : (fs left kept : List DeclaredFormula) → left ≡ reverse fs → kept ≡ [] →
    distinct_with (formula_trees kept) (formula_trees (reverse left)) ≡ distinct_formulas [] (formula_trees fs)
unfolding distinct_with
distinct_start fs left kept e f = rw (f, all_left fs left e) refl

pub distinct_step : (before left kept next : List DeclaredFormula) (target : List Formula) (f : DeclaredFormula) (b : Bool) → before ≡ left ++ (f ∷ []) →
    next ≡ kept ++ cond b (f ∷ []) [] → b ≡ not (is_among (formula_trees kept) (formula_tree f)) →
    distinct_with (formula_trees kept) (formula_trees (reverse before)) ≡ target → distinct_with (formula_trees next) (formula_trees (reverse left)) ≡ target
distinct_step before left kept next target f b e n g inv =
    let t : formula_trees next ≡ formula_trees kept ++ cond (not (is_among (formula_trees kept) (formula_tree f))) (formula_tree f ∷ []) [] =
    ap formula_trees n ∙ kept_tree kept f b ∙ ap (λ c. formula_trees kept ++ cond c (formula_tree f ∷ []) []) g in
    ap (λ s. distinct_with s (formula_trees (reverse left))) t ∙ sym (distinct_next (formula_trees kept) (formula_trees (reverse left)) (formula_tree f)) ∙
    ap (distinct_with (formula_trees kept)) (sym (last_next before left f e)) ∙ inv

pub distinct_done : (left kept : List DeclaredFormula) (target : List Formula) → left ≡ [] →
    distinct_with (formula_trees kept) (formula_trees (reverse left)) ≡ target → formula_trees kept ≡ target
distinct_done left kept target e inv =
    sym (distinct_end (formula_trees kept)) ∙ ap (λ s. distinct_with (formula_trees kept) (formula_trees (reverse s))) (sym e) ∙ inv

-- ---- members joined from the last one on
pub all_last : (fs : List Formula) (f g : Formula) → all_of (fs ++ (both f g ∷ [])) ≡ all_of (fs ++ (f ∷ g ∷ []))
all_last [] f g = refl
all_last (h ∷ []) f g = refl
all_last (h ∷ k ∷ fs) f g = ap (both h) (all_last (k ∷ fs) f g)

pub any_last : (fs : List Formula) (f g : Formula) → any_of (fs ++ (either f g ∷ [])) ≡ any_of (fs ++ (f ∷ g ∷ []))
any_last [] f g = refl
any_last (h ∷ []) f g = refl
any_last (h ∷ k ∷ fs) f g = ap (either h) (any_last (k ∷ fs) f g)

pub last_tree : (fs left : List DeclaredFormula) (f : DeclaredFormula) → fs ≡ left ++ (f ∷ []) → formula_trees left ++ (formula_tree f ∷ []) ≡ formula_trees fs
last_tree fs left f e = sym (ap formula_trees e ∙ trees-append left (f ∷ []))

module _ (join : List Formula → Formula) (two : Formula → Formula → Formula)
    (joins : (fs : List Formula) (f g : Formula) → join (fs ++ (two f g ∷ [])) ≡ join (fs ++ (f ∷ g ∷ []))) where
  join_step : (before left : List DeclaredFormula) (f : DeclaredFormula) (g all target : Formula) → before ≡ left ++ (f ∷ []) → all ≡ two (formula_tree f) g →
      join (formula_trees before ++ (g ∷ [])) ≡ target → join (formula_trees left ++ (all ∷ [])) ≡ target
  join_step before left f g all target e n inv =
      ap (λ h. join (formula_trees left ++ (h ∷ []))) n ∙ joins (formula_trees left) (formula_tree f) g ∙
      ap join (sym (append_assoc (formula_trees left) (formula_tree f ∷ []) (g ∷ [])) ∙ ap (λ fs. fs ++ (g ∷ [])) (last_tree before left f e)) ∙ inv

pub all_step : (before left : List DeclaredFormula) (f : DeclaredFormula) (g all target : Formula) → before ≡ left ++ (f ∷ []) → all ≡ both (formula_tree f) g →
    all_of (formula_trees before ++ (g ∷ [])) ≡ target → all_of (formula_trees left ++ (all ∷ [])) ≡ target
all_step = join_step all_of both all_last

pub any_step : (before left : List DeclaredFormula) (f : DeclaredFormula) (g any target : Formula) → before ≡ left ++ (f ∷ []) →
    any ≡ either (formula_tree f) g →
    any_of (formula_trees before ++ (g ∷ [])) ≡ target → any_of (formula_trees left ++ (any ∷ [])) ≡ target
any_step = join_step any_of either any_last

pub all_done : (left : List DeclaredFormula) (f target : Formula) → left ≡ [] → all_of (formula_trees left ++ (f ∷ [])) ≡ target → f ≡ target
all_done left f target e inv = ap (λ fs. all_of (formula_trees fs ++ (f ∷ []))) (sym e) ∙ inv

pub any_done : (left : List DeclaredFormula) (f target : Formula) → left ≡ [] → any_of (formula_trees left ++ (f ∷ [])) ≡ target → f ≡ target
any_done left f target e inv = ap (λ fs. any_of (formula_trees fs ++ (f ∷ []))) (sym e) ∙ inv

-- ---- those whose marks are false
pub unmarked_are : (p : Formula → Bool) (fs : List Formula) → unmarked (map p fs) fs ≡ filter (λ f. not (p f)) fs
unmarked_are p [] = refl
unmarked_are p (f ∷ fs) = on_bool (p f) (λ e. rw e (unmarked_are p fs)) (λ e. rw e (ap (λ gs. f ∷ gs) (unmarked_are p fs)))

none_unmarked : (bs : List Bool) → unmarked bs [] ≡ []
none_unmarked [] = refl
none_unmarked (b ∷ bs) = refl

one_unmarked : (b : Bool) (bs : List Bool) (fs : List Formula) → unmarked (b ∷ bs) fs ≡ cond (not b) (take 1 fs) [] ++ unmarked bs (drop 1 fs)
one_unmarked true bs [] = sym (none_unmarked bs)
one_unmarked false bs [] = sym (none_unmarked bs)
one_unmarked true bs (f ∷ fs) = refl
one_unmarked false bs (f ∷ fs) = refl

mark_at : (bs : List Bool) (i : ℕ) (d : Bool) → i < length bs → drop i bs ≡ get_or bs i d ∷ drop (i + 1) bs
mark_at bs i d h = rw (add-one, drop-cons bs i d) refl

pub one_moved : (before left out next : List DeclaredFormula) (f : DeclaredFormula) (b : Bool) → before ≡ left ++ (f ∷ []) → next ≡ out ++ cond b (f ∷ []) [] →
    IsMoved b before left out next
one_moved before left out next f b e n =
    let t = last_next before left f e in
    record { rest = sym (ap (drop 1) t); moved = ap formula_trees n ∙ kept_tree out f b ∙ ap (λ ts. formula_trees out ++ cond b ts []) (sym (ap (take 1) t)) }

pub none_moved : (before left out : List DeclaredFormula) (b : Bool) → before ≡ [] → left ≡ [] → IsMoved b before left out out
none_moved before left out b e n = rw (e, n) (record { rest = refl; moved = nothing_more b (formula_trees out) })
  where
    nothing_more : (b : Bool) (ts : List Formula) → ts ≡ ts ++ cond b [] []
    nothing_more true ts = sym (append-nil ts)
    nothing_more false ts = sym (append-nil ts)

pub no_trees : (fs : List DeclaredFormula) → fs ≡ [] → formula_trees fs ≡ []
no_trees fs e = ap formula_trees e

pub unmarked_start : (bs : List Bool) (fs left out : List DeclaredFormula) → left ≡ reverse fs → out ≡ [] →
    formula_trees out ++ unmarked bs (formula_trees (reverse left)) ≡ unmarked bs (formula_trees fs)
unmarked_start bs fs left out e f = rw (f, all_left fs left e) refl

pub unmarked_step : (bs : List Bool) (i : ℕ) (d : Bool) (before left out next : List DeclaredFormula) (target : List Formula) → i < length bs →
    formula_trees (reverse left) ≡ drop 1 (formula_trees (reverse before)) →
    formula_trees next ≡ formula_trees out ++ cond (not (get_or bs i d)) (take 1 (formula_trees (reverse before))) [] →
    formula_trees out ++ unmarked (drop i bs) (formula_trees (reverse before)) ≡ target →
    formula_trees next ++ unmarked (drop (i + 1) bs) (formula_trees (reverse left)) ≡ target
unmarked_step bs i d before left out next target h l n inv =
    let ts = formula_trees (reverse before) in
    let b = get_or bs i d in
    let more = unmarked (drop (i + 1) bs) (drop 1 ts) in
    ap (λ s. formula_trees next ++ unmarked (drop (i + 1) bs) s) l ∙ ap (λ s. s ++ more) n ∙
    append_assoc (formula_trees out) (cond (not b) (take 1 ts) []) more ∙
    ap (λ s. formula_trees out ++ s) (sym (one_unmarked b (drop (i + 1) bs) ts) ∙ ap (λ cs. unmarked cs ts) (sym (mark_at bs i d h))) ∙ inv

pub unmarked_done : (bs : List Bool) (i : ℕ) (left out : List DeclaredFormula) (target : List Formula) → length bs ≤ i →
    formula_trees out ++ unmarked (drop i bs) (formula_trees (reverse left)) ≡ target → formula_trees out ≡ target
unmarked_done bs i left out target h inv =
    sym (append-nil (formula_trees out)) ∙
    ap (λ cs. formula_trees out ++ unmarked cs (formula_trees (reverse left))) (sym (drop_of_length-le bs h)) ∙ inv
