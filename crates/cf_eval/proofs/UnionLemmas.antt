-- Sets that are joined in runs.
use Rattle.std.proofs.Common.{◌≡◌, ℤ, ◌<ℤ◌, ◌≤ℤ◌, int_lt, true, false, ◌&&◌, List, [], ◌∷◌, ◌++◌, Option, Some, refl, ap, sym, ◌∙◌, arith}
use Rattle.std.specs.Prelude.{filter}
use Rattle.std.specs.List.{fold}
use Rattle.std.proofs.lemmas.Int.{ints, by_lt_z}
use Rattle.cf_tree.specs.Sets.{has, set_put, set_union, set_inter}
use Rattle.cf_tree.specs.Meaning.{joined, joined_with}
use Rattle.cf_tree.proofs.SetLemmas.{on_bool, has-filter}
use Rattle.cf_eval.specs.declared.joining.Join.{Join}
use Rattle.cf_eval.specs.declared.joining.Join.TheVariants.{Union, Inter}
use Rattle.cf_eval.specs.Choice.{join_of, runs_joined}

-- ---- sets may be joined in any grouping
less : (x y : ℤ) → x <ℤ y → int_lt x y ≡ true
less x y l = grind (arith, ints)

not_less : (x y : ℤ) → y ≤ℤ x → int_lt x y ≡ false
not_less x y l = grind (arith, ints)

put_twice : (x : ℤ) (zs : List ℤ) → set_put x (set_put x zs) ≡ set_put x zs
put_twice x [] = rw (not_less x x (omega (arith, ints))) refl
put_twice x (z ∷ zs) =
    by_lt_z x z
    (λ l. rw (less x z l, not_less x x (omega (arith, ints))) refl)
    (λ g. by_lt_z z x
    (λ l. rw (not_less x z g, less z x l, not_less x z g, less z x l) (ap (λ y. z ∷ y) (put_twice x zs)))
    (λ h. rw (not_less x z g, not_less z x h, not_less x z g, not_less z x h) refl))

put_swap : (x y : ℤ) (zs : List ℤ) → x <ℤ y → set_put x (set_put y zs) ≡ set_put y (set_put x zs)
put_swap x y [] l = rw (less x y l, not_less y x (omega (arith, ints))) refl
put_swap x y (z ∷ zs) l =
    by_lt_z y z
    (λ m. rw (less y z m, less x z (omega (arith, ints)), less x y l, not_less y x (omega (arith, ints)), less y z m) refl)
    (λ g. by_lt_z z y
    (λ m. by_lt_z x z
    (λ n. rw (not_less y z g, less z y m, less x z n, not_less y x (omega (arith, ints)), less x y l, not_less y z g, less z y m) refl)
    (λ k. by_lt_z z x
    (λ n. rw (not_less y z g, less z y m, not_less x z k, less z x n, not_less y z g, less z y m) (ap (λ w. z ∷ w) (put_swap x y zs l)))
    (λ n. rw (not_less y z g, less z y m, not_less x z k, not_less z x n, not_less y z g, less z y m) refl)))
    (λ k. rw (not_less y z g, not_less z y k, less x z (omega (arith, ints)), not_less y x (omega (arith, ints)), less x y l, not_less y z g, not_less z y k)
    refl))

union_put : (x : ℤ) (xs zs : List ℤ) → set_union (set_put x xs) zs ≡ set_put x (set_union xs zs)
union_put x [] zs = refl
union_put x (y ∷ ys) zs =
    by_lt_z x y
    (λ l. rw (less x y l) refl)
    (λ g. by_lt_z y x
    (λ l. rw (not_less x y g, less y x l) (ap (set_put y) (union_put x ys zs) ∙ put_swap y x (set_union ys zs) l))
    (λ h. let same : x ≡ y = omega (arith, ints) in
    rw (not_less x y g, not_less y x h) (sym (put_twice y (set_union ys zs)) ∙ ap (λ w. set_put w (set_put y (set_union ys zs))) (sym same))))

union_assoc : (xs ys zs : List ℤ) → set_union (set_union xs ys) zs ≡ set_union xs (set_union ys zs)
union_assoc [] ys zs = refl
union_assoc (x ∷ xs) ys zs = union_put x (set_union xs ys) zs ∙ ap (set_put x) (union_assoc xs ys zs)

inter_assoc : (xs ys zs : List ℤ) → set_inter (set_inter xs ys) zs ≡ set_inter xs (set_inter ys zs)
inter_assoc [] ys zs = refl
inter_assoc (x ∷ xs) ys zs =
    let both : has (set_inter ys zs) x ≡ (has ys x && has zs x) = has-filter (has zs) ys x in
    on_bool (has ys x)
    (λ e. rw (both, e) (on_bool (has zs x) (λ f. rw f (ap (λ w. x ∷ w) (inter_assoc xs ys zs))) (λ f. rw f (inter_assoc xs ys zs))))
    (λ e. rw (both, e) (inter_assoc xs ys zs))

join_assoc : (how : Join) (xs ys zs : List ℤ) → join_of how (join_of how xs ys) zs ≡ join_of how xs (join_of how ys zs)
join_assoc Union xs ys zs = union_assoc xs ys zs
join_assoc Inter xs ys zs = inter_assoc xs ys zs

-- ---- the last runs
fold_last : (f : List ℤ → List ℤ → List ℤ) (z : List ℤ) (runs : List (List ℤ)) (x : List ℤ) → fold f z (runs ++ x ∷ []) ≡ f (fold f z runs) x
fold_last f z [] x = refl
fold_last f z (y ∷ runs) x = fold_last f (f z y) runs x

one_more : (how : Join) (runs : List (List ℤ)) (x : List ℤ) → runs_joined how (runs ++ x ∷ []) ≡ Some (joined_with (join_of how) (runs_joined how runs) x)
one_more how [] x = refl
one_more how (z ∷ runs) x = ap Some (fold_last (join_of how) z runs x)

two_as_one : (how : Join) (runs : List (List ℤ)) (a b : List ℤ) →
    runs_joined how ((runs ++ a ∷ []) ++ b ∷ []) ≡ runs_joined how (runs ++ join_of how a b ∷ [])
two_as_one how [] a b = refl
two_as_one how (z ∷ runs) a b =
    ap Some (fold_last (join_of how) z (runs ++ a ∷ []) b ∙ ap (λ w. join_of how w b) (fold_last (join_of how) z runs a)
    ∙ join_assoc how (fold (join_of how) z runs) a b ∙ sym (fold_last (join_of how) z runs (join_of how a b)))

-- the last two runs become one
pub runs_step : (how : Join) (runs fewer : List (List ℤ)) (a b both : List ℤ) (all : Option (List ℤ)) → runs ≡ fewer ++ a ∷ [] → both ≡ join_of how a b →
    runs_joined how (runs ++ b ∷ []) ≡ all → runs_joined how (fewer ++ both ∷ []) ≡ all
runs_step how runs fewer a b both all e f h =
    ap (λ w. runs_joined how (fewer ++ w ∷ [])) f ∙ sym (two_as_one how fewer a b) ∙ ap (λ w. runs_joined how (w ++ b ∷ [])) (sym e) ∙ h

-- the last run is put back
pub runs_more : (how : Join) (old runs new : List (List ℤ)) (more last : List ℤ) → new ≡ runs ++ last ∷ [] →
    runs_joined how (runs ++ last ∷ []) ≡ runs_joined how (old ++ more ∷ []) → runs_joined how new ≡ Some (joined_with (join_of how) (runs_joined how old) more)
runs_more how old runs new more last e h = ap (runs_joined how) e ∙ h ∙ one_more how old more

-- one run is left
pub runs_end : (how : Join) (all runs : List (List ℤ)) (last : List ℤ) → runs ≡ [] → runs_joined how (runs ++ last ∷ []) ≡ runs_joined how all →
    last ≡ joined (runs_joined how all)
runs_end how all runs last e h = ap joined (ap (λ w. runs_joined how (w ++ last ∷ [])) (sym e) ∙ h)

pub runs_none : (how : Join) (runs : List (List ℤ)) (none : List ℤ) → runs ≡ [] → none ≡ [] → none ≡ joined (runs_joined how runs)
runs_none how runs none e f = f ∙ ap (λ w. joined (runs_joined how w)) (sym e)
