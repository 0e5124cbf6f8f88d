-- Sets that are empty, and unions without them.
use Rattle.std.proofs.Common.{◌≡◌, ◌≤◌, ◌+◌, ℕ, ℤ, pos, max, Bool, true, false, cond, ◌&&◌, Option, Some, None, List, [], ◌∷◌, refl, sym, ap, subst, ◌∙◌, arith}
use Rattle.cf_num.specs.Limit.{limit}
use Rattle.cf_tree.specs.CodeTree.{CodeTree, code_lit, code_truth, code_var, code_set_of, code_tuple, code_sum, code_sub, code_mul, code_neg, code_div, code_mod, code_min, code_max, code_compare, code_divides, code_and, code_or, code_not, code_union, code_inter, code_diff, code_subset, code_card, code_slice, code_fresh, code_if, code_let, code_solve, CodeTrees, no_codes, code_more, count}
use Rattle.cf_tree.specs.Meaning.{Got, got, none_at, Path, then_gives, then_path, path, set_path, join_path, meets, meets_set, gives_set, joined_with, number_in, set_in}
use Rattle.cf_tree.specs.Numbers.{count_of}
use Rattle.cf_tree.specs.Sets.{set_union, set_inter, set_slice, set_fresh}
use Rattle.cf_tree.specs.Typing.{HasBases, AllHave, HasNoSolve, HaveNoSolve, IsOne, ask, one}
use Rattle.cf_tree.specs.Values.{Value, elements}
use Rattle.cf_tree.specs.declared.base.Base.{Base}
use Rattle.cf_tree.specs.declared.base.Base.TheVariants.{Set}
use Rattle.cf_tree.proofs.RisingLemmas.{set_of-rising}
use Rattle.cf_range.specs.Alike.{Alike}
use Rattle.cf_range.specs.Ranges.{LieIn}
use Rattle.cf_range.specs.Settled.{empty, is_empty, is_set_form, slice_settled, fresh_settled, nonempty, union_of, union_settled}
use Rattle.cf_range.specs.Tidied.{is_zero}
use Rattle.cf_range.specs.Total.{is_total}
use Rattle.cf_range.specs.declared.range.Range.{Range}
use Rattle.cf_range.proofs.AlikeLemmas.{both_fit, alike_refl, alike_same, alike_trans, alike_then, met_before, either_code}
use Rattle.cf_range.proofs.PutTypes.{either_free, either_typed}
use Rattle.cf_range.proofs.RangeLaws.{lie_rises, total_codes}
use Rattle.cf_range.proofs.RisenLaws.{AllRise, RisesIfSome, set_rises, union_rises, path_rises}
use Rattle.cf_range.proofs.RowLaws.{zero_is}

and_true : (a b : Bool) → (a && b) ≡ true → (a ≡ true) × (b ≡ true)
and_true true b e = (refl, e)
and_true false b e = cc

no_truth : false ≡ true → ⊥
no_truth e = cc

stop_not : {A : Type 0} (k : ℕ) (x : A) → none_at k ≡ got x → ⊥
stop_not k x e = cc

same_got : {A : Type 0} (x y : A) → got x ≡ got y → x ≡ y
same_got x y e = cc

abbrev path_of : {A : Type 0} → Got A → ℕ → Path A
path_of g k = record { gives = g; peak = k }

empty_is : (c : CodeTree) → is_empty c ≡ true → c ≡ empty
empty_is (code_lit k) e = absurd (no_truth e)
empty_is (code_truth t) e = absurd (no_truth e)
empty_is (code_var x) e = absurd (no_truth e)
empty_is (code_set_of no_codes) e = refl
empty_is (code_set_of (code_more c cs)) e = absurd (no_truth e)
empty_is (code_tuple cs) e = absurd (no_truth e)
empty_is (code_sum cs) e = absurd (no_truth e)
empty_is (code_sub a b) e = absurd (no_truth e)
empty_is (code_mul a b) e = absurd (no_truth e)
empty_is (code_neg a) e = absurd (no_truth e)
empty_is (code_div a k) e = absurd (no_truth e)
empty_is (code_mod a k) e = absurd (no_truth e)
empty_is (code_min cs) e = absurd (no_truth e)
empty_is (code_max cs) e = absurd (no_truth e)
empty_is (code_compare o a b) e = absurd (no_truth e)
empty_is (code_divides k a) e = absurd (no_truth e)
empty_is (code_and a b) e = absurd (no_truth e)
empty_is (code_or a b) e = absurd (no_truth e)
empty_is (code_not a) e = absurd (no_truth e)
empty_is (code_union cs) e = absurd (no_truth e)
empty_is (code_inter cs) e = absurd (no_truth e)
empty_is (code_diff a b) e = absurd (no_truth e)
empty_is (code_subset a b) e = absurd (no_truth e)
empty_is (code_card a) e = absurd (no_truth e)
empty_is (code_slice a b c) e = absurd (no_truth e)
empty_is (code_fresh a b) e = absurd (no_truth e)
empty_is (code_if s a b) e = absurd (no_truth e)
empty_is (code_let first n a b) e = absurd (no_truth e)
empty_is (code_solve n arms) e = absurd (no_truth e)

-- ---- slices and fresh numbers
none_taken : (a b : CodeTree) (env xs ys : List Value) → (path a env).gives ≡ got xs → (path a env).peak ≤ limit → (path b env).gives ≡ got ys →
    (path b env).peak ≤ limit → Alike (path (code_slice a b (code_lit (pos 0))) env) (path empty env)
none_taken a b env xs ys e l f m = by (path a env).gives (path a env).peak (path b env).gives (path b env).peak e l f m
  where
    by : (g : Got (List Value)) (k : ℕ) (h : Got (List Value)) (n : ℕ) → g ≡ got xs → k ≤ limit → h ≡ got ys → n ≤ limit →
        Alike (then_path (path_of g k) (λ x. then_path (path_of h n) (λ y. then_path (meets (pos 0)) (λ z.
        gives_set (set_slice (set_in x) (count_of (number_in y)) (count_of (number_in z))))))) (gives_set [])
    by g k h n e l f m = rw (e, f) (both_fit (path_of (got (elements [] ∷ [])) (max k (max n (max 0 0)))) (gives_set []) (omega (arith, l, m)) (omega arith) refl)

none_fresh : (a : CodeTree) (env xs : List Value) → (path a env).gives ≡ got xs → (path a env).peak ≤ limit →
    Alike (path (code_fresh a (code_lit (pos 0))) env) (path empty env)
none_fresh a env xs e l = by (path a env).gives (path a env).peak e l
  where
    by : (g : Got (List Value)) (k : ℕ) → g ≡ got xs → k ≤ limit →
        Alike (then_path (path_of g k) (λ x. then_path (meets (pos 0)) (λ y. meets_set (set_fresh (set_in x) (count_of (number_in y)))))) (gives_set [])
    by g k e l = rw e (both_fit (path_of (got (elements [] ∷ [])) (max k (max 0 0))) (gives_set []) (omega (arith, l)) (omega arith) refl)

pub slice_alike : (rs : List Range) (a b c : CodeTree) (env : List Value) → LieIn rs env →
    Alike (path (code_slice a b c) env) (path (slice_settled rs a b c) env)
slice_alike rs a b c env lie =
    either_code (is_zero c && is_total rs a && is_total rs b) (path (code_slice a b c) env) empty (code_slice a b c) env
    (λ e.
    let q = and_true (is_zero c && is_total rs a) (is_total rs b) e in
    let o = and_true (is_zero c) (is_total rs a) q.0 in
    let d = total_codes rs a env lie o.1 in
    let f = total_codes rs b env lie q.1 in
    subst (λ z. Alike (path (code_slice a b z) env) (path empty env)) (sym (zero_is c o.0))
    (none_taken a b env d.values f.values d.gives d.fits f.gives f.fits))
    (λ e. alike_refl (path (code_slice a b c) env))

pub fresh_alike : (rs : List Range) (a b : CodeTree) (env : List Value) → LieIn rs env →
    Alike (path (code_fresh a b) env) (path (fresh_settled rs a b) env)
fresh_alike rs a b env lie =
    either_code (is_zero b && is_total rs a) (path (code_fresh a b) env) empty (code_fresh a b) env
    (λ e.
    let q = and_true (is_zero b) (is_total rs a) e in
    let d = total_codes rs a env lie q.1 in
    subst (λ z. Alike (path (code_fresh a z) env) (path empty env)) (sym (zero_is b q.0)) (none_fresh a env d.values d.gives d.fits))
    (λ e. alike_refl (path (code_fresh a b) env))

-- ---- unions
from_empty : (cs : CodeTrees) (env : List Value) → join_path set_union cs env (Some []) ≡ join_path set_union cs env None
from_empty no_codes env = refl
from_empty (code_more c cs) env = refl

-- the empty set changes nothing in a union
with_none : (zs : Option (List ℤ)) (cs : CodeTrees) (env : List Value) → RisesIfSome zs →
    join_path set_union cs env (Some (joined_with set_union zs [])) ≡ join_path set_union cs env zs
with_none None cs env r = from_empty cs env
with_none (Some zs) cs env r = ap (λ ys. join_path set_union cs env (Some ys)) (set_of-rising zs r)

either_join : (t : Bool) (p : Path (List Value)) (ps bs : CodeTrees) (env : List Value) (zs : Option (List ℤ)) →
    (t ≡ true → Alike p (join_path set_union ps env zs)) → (t ≡ false → Alike p (join_path set_union bs env zs)) →
    Alike p (join_path set_union (cond t ps bs) env zs)
either_join true p ps bs env zs h k = h refl
either_join false p ps bs env zs h k = k refl

nonempty_alike : (cs : CodeTrees) (env : List Value) (zs : Option (List ℤ)) → AllRise env → RisesIfSome zs →
    Alike (join_path set_union cs env zs) (join_path set_union (nonempty cs) env zs)
nonempty_alike no_codes env zs r h = alike_refl (join_path set_union no_codes env zs)
nonempty_alike (code_more c cs) env zs r h =
    either_join (is_empty c) (join_path set_union (code_more c cs) env zs) (nonempty cs) (code_more c (nonempty cs)) env zs
    (λ t.
    let left = join_path set_union cs env (Some (joined_with set_union zs [])) in
    subst (λ d. Alike (join_path set_union (code_more d cs) env zs) (join_path set_union (nonempty cs) env zs)) (sym (empty_is c t))
    (met_before 0 left (join_path set_union (nonempty cs) env zs) (omega arith)
    (alike_trans left (join_path set_union cs env zs) (join_path set_union (nonempty cs) env zs)
    (alike_same left (join_path set_union cs env zs) (with_none zs cs env h)) (nonempty_alike cs env zs r h))))
    (λ t. alike_then (path c env) (path c env) _ _ (alike_refl (path c env)) (λ x e l.
    nonempty_alike cs env (Some (joined_with set_union zs (set_in x))) r (union_rises zs (set_in x) h (set_rises x (path_rises c env r x e)))))

-- ---- codes that give a set wherever they give
abbrev GivesSet : Got (List Value) → Type 0
GivesSet g = (vs : List Value) → g ≡ got vs → vs ≡ elements (set_in vs) ∷ []

one_set : (zs : List ℤ) → GivesSet (got (elements zs ∷ []))
one_set zs vs e = subst (λ ws. ws ≡ elements (set_in ws) ∷ []) (same_got (elements zs ∷ []) vs e) refl

then_set : (g : Got (List Value)) (go : List Value → Got (List Value)) → ((x : List Value) → GivesSet (go x)) → GivesSet (then_gives g go)
then_set (got x) go h vs e = h x vs e
then_set (none_at k) go h vs e = absurd (stop_not k vs e)

put_set : (cs : CodeTrees) (env : List Value) (done : List ℤ) → GivesSet (set_path cs env done).gives
put_set no_codes env done = one_set done
put_set (code_more c cs) env done = then_set (path c env).gives _ (λ x. put_set cs env _)

join_set : (join : List ℤ → List ℤ → List ℤ) (cs : CodeTrees) (env : List Value) (zs : Option (List ℤ)) → GivesSet (join_path join cs env zs).gives
join_set join no_codes env zs = one_set _
join_set join (code_more c cs) env zs = then_set (path c env).gives _ (λ x. join_set join cs env _)

set_given : (c : CodeTree) (env : List Value) → is_set_form c ≡ true → GivesSet (path c env).gives
set_given (code_lit k) env t = absurd (no_truth t)
set_given (code_truth u) env t = absurd (no_truth t)
set_given (code_var x) env t = absurd (no_truth t)
set_given (code_set_of cs) env t = put_set cs env []
set_given (code_tuple cs) env t = absurd (no_truth t)
set_given (code_sum cs) env t = absurd (no_truth t)
set_given (code_sub a b) env t = absurd (no_truth t)
set_given (code_mul a b) env t = absurd (no_truth t)
set_given (code_neg a) env t = absurd (no_truth t)
set_given (code_div a k) env t = absurd (no_truth t)
set_given (code_mod a k) env t = absurd (no_truth t)
set_given (code_min cs) env t = absurd (no_truth t)
set_given (code_max cs) env t = absurd (no_truth t)
set_given (code_compare o a b) env t = absurd (no_truth t)
set_given (code_divides k a) env t = absurd (no_truth t)
set_given (code_and a b) env t = absurd (no_truth t)
set_given (code_or a b) env t = absurd (no_truth t)
set_given (code_not a) env t = absurd (no_truth t)
set_given (code_union cs) env t = join_set set_union cs env None
set_given (code_inter cs) env t = join_set set_inter cs env None
set_given (code_diff a b) env t = then_set (path a env).gives _ (λ x. then_set (path b env).gives _ (λ y. one_set _))
set_given (code_subset a b) env t = absurd (no_truth t)
set_given (code_card a) env t = absurd (no_truth t)
set_given (code_slice a b c) env t = then_set (path a env).gives _ (λ x. then_set (path b env).gives _ (λ y. then_set (path c env).gives _ (λ z. one_set _)))
set_given (code_fresh a b) env t = then_set (path a env).gives _ (λ x. then_set (path b env).gives _ (λ y. one_set _))
set_given (code_if s a b) env t = absurd (no_truth t)
set_given (code_let first n a b) env t = absurd (no_truth t)
set_given (code_solve n arms) env t = absurd (no_truth t)

-- a union of one such code is that code
alone_alike : (c : CodeTree) (env : List Value) → is_set_form c ≡ true → Alike (path (code_union (code_more c no_codes)) env) (path c env)
alone_alike c env t = alike_same (path (code_union (code_more c no_codes)) env) (path c env) (by (path c env).gives (path c env).peak (set_given c env t))
  where
    none_more : (k : ℕ) → max k 0 ≡ k
    none_more k = omega arith

    by : (g : Got (List Value)) (k : ℕ) → GivesSet g → then_path (path_of g k) (λ x. gives_set (set_in x)) ≡ path_of g k
    by (got x) k h = ap (path_of (got (elements (set_in x) ∷ []))) (none_more k) ∙ ap (λ ws. path_of (got ws) k) (sym (h x refl))
    by (none_at n) k h = refl

union_of_alike : (cs : CodeTrees) (env : List Value) → AllRise env → Alike (path (code_union cs) env) (path (union_of cs) env)
union_of_alike no_codes env r = alike_refl (path empty env)
union_of_alike (code_more c no_codes) env r =
    let two = code_more c (code_more empty no_codes) in
    either_code (is_set_form c) (path (code_union (code_more c no_codes)) env) c (code_union two) env
    (λ t. alone_alike c env t)
    (λ t. alike_then (path c env) (path c env) _ _ (alike_refl (path c env)) (λ x e l.
    alike_same (gives_set (set_in x)) (gives_set (set_union (set_in x) []))
    (ap gives_set (sym (set_of-rising (set_in x) (set_rises x (path_rises c env r x e)))))))
union_of_alike (code_more c (code_more d cs)) env r = alike_refl (path (code_union (code_more c (code_more d cs))) env)

pub union_alike : (rs : List Range) (cs : CodeTrees) (env : List Value) → LieIn rs env → Alike (path (code_union cs) env) (path (union_settled cs) env)
union_alike rs cs env lie =
    let r = lie_rises rs env lie in
    alike_trans (path (code_union cs) env) (path (code_union (nonempty cs)) env) (path (union_settled cs) env)
    (nonempty_alike cs env None r tt) (union_of_alike (nonempty cs) env r)

-- ---- no solve is new
pub slice_free : (rs : List Range) (a b c : CodeTree) → HasNoSolve (code_slice a b c) → HasNoSolve (slice_settled rs a b c)
slice_free rs a b c h = either_free (is_zero c && is_total rs a && is_total rs b) empty (code_slice a b c) tt h

pub fresh_free : (rs : List Range) (a b : CodeTree) → HasNoSolve (code_fresh a b) → HasNoSolve (fresh_settled rs a b)
fresh_free rs a b h = either_free (is_zero b && is_total rs a) empty (code_fresh a b) tt h

either_free_parts : (t : Bool) (ps bs : CodeTrees) → HaveNoSolve ps → HaveNoSolve bs → HaveNoSolve (cond t ps bs)
either_free_parts true ps bs h k = h
either_free_parts false ps bs h k = k

nonempty_free : (cs : CodeTrees) → HaveNoSolve cs → HaveNoSolve (nonempty cs)
nonempty_free no_codes h = tt
nonempty_free (code_more c cs) h = either_free_parts (is_empty c) (nonempty cs) (code_more c (nonempty cs)) (nonempty_free cs h.1) (h.0, nonempty_free cs h.1)

union_of_free : (cs : CodeTrees) → HaveNoSolve cs → HasNoSolve (union_of cs)
union_of_free no_codes h = tt
union_of_free (code_more c no_codes) h = either_free (is_set_form c) c (code_union (code_more c (code_more empty no_codes))) h.0 (h.0, (tt, tt))
union_of_free (code_more c (code_more d cs)) h = h

pub union_free : (cs : CodeTrees) → HaveNoSolve cs → HasNoSolve (union_settled cs)
union_free cs h = union_of_free (nonempty cs) (nonempty_free cs h)

-- ---- types
pub slice_typed : (rs : List Range) (a b c : CodeTree) (scope : List Base) (asked : Option (List Base)) (bs : List Base) →
    HasBases (code_slice a b c) scope asked bs → HasBases (slice_settled rs a b c) scope asked bs
slice_typed rs a b c scope asked bs h =
    either_typed (is_zero c && is_total rs a && is_total rs b) empty (code_slice a b c) scope asked bs (λ e. (tt, h.3)) (λ e. h)

pub fresh_typed : (rs : List Range) (a b : CodeTree) (scope : List Base) (asked : Option (List Base)) (bs : List Base) →
    HasBases (code_fresh a b) scope asked bs → HasBases (fresh_settled rs a b) scope asked bs
fresh_typed rs a b scope asked bs h = either_typed (is_zero b && is_total rs a) empty (code_fresh a b) scope asked bs (λ e. (tt, h.2)) (λ e. h)

-- a set form has its base wherever that is asked
form_typed : (c : CodeTree) (scope : List Base) (asked : Option (List Base)) (bs : List Base) → is_set_form c ≡ true → HasBases c scope (ask Set) (one Set) →
    IsOne Set asked bs → HasBases c scope asked bs
form_typed (code_lit k) scope asked bs t h i = absurd (no_truth t)
form_typed (code_truth u) scope asked bs t h i = absurd (no_truth t)
form_typed (code_var x) scope asked bs t h i = absurd (no_truth t)
form_typed (code_set_of cs) scope asked bs t h i = (h.0, i)
form_typed (code_tuple cs) scope asked bs t h i = absurd (no_truth t)
form_typed (code_sum cs) scope asked bs t h i = absurd (no_truth t)
form_typed (code_sub a b) scope asked bs t h i = absurd (no_truth t)
form_typed (code_mul a b) scope asked bs t h i = absurd (no_truth t)
form_typed (code_neg a) scope asked bs t h i = absurd (no_truth t)
form_typed (code_div a k) scope asked bs t h i = absurd (no_truth t)
form_typed (code_mod a k) scope asked bs t h i = absurd (no_truth t)
form_typed (code_min cs) scope asked bs t h i = absurd (no_truth t)
form_typed (code_max cs) scope asked bs t h i = absurd (no_truth t)
form_typed (code_compare o a b) scope asked bs t h i = absurd (no_truth t)
form_typed (code_divides k a) scope asked bs t h i = absurd (no_truth t)
form_typed (code_and a b) scope asked bs t h i = absurd (no_truth t)
form_typed (code_or a b) scope asked bs t h i = absurd (no_truth t)
form_typed (code_not a) scope asked bs t h i = absurd (no_truth t)
form_typed (code_union cs) scope asked bs t h i = (h.0, h.1, i)
form_typed (code_inter cs) scope asked bs t h i = (h.0, h.1, i)
form_typed (code_diff a b) scope asked bs t h i = (h.0, h.1, i)
form_typed (code_subset a b) scope asked bs t h i = absurd (no_truth t)
form_typed (code_card a) scope asked bs t h i = absurd (no_truth t)
form_typed (code_slice a b c) scope asked bs t h i = (h.0, h.1, h.2, i)
form_typed (code_fresh a b) scope asked bs t h i = (h.0, h.1, i)
form_typed (code_if s a b) scope asked bs t h i = absurd (no_truth t)
form_typed (code_let first n a b) scope asked bs t h i = absurd (no_truth t)
form_typed (code_solve n arms) scope asked bs t h i = absurd (no_truth t)

either_have : (t : Bool) (ps ds : CodeTrees) (scope : List Base) (b : Base) → AllHave ps scope b → AllHave ds scope b → AllHave (cond t ps ds) scope b
either_have true ps ds scope b h k = h
either_have false ps ds scope b h k = k

nonempty_have : (cs : CodeTrees) (scope : List Base) (b : Base) → AllHave cs scope b → AllHave (nonempty cs) scope b
nonempty_have no_codes scope b h = tt
nonempty_have (code_more c cs) scope b h =
    either_have (is_empty c) (nonempty cs) (code_more c (nonempty cs)) scope b (nonempty_have cs scope b h.1) (h.0, nonempty_have cs scope b h.1)

two_at_least : (n : ℕ) → 2 ≤ 1 + (1 + n)
two_at_least n = omega arith

union_of_typed : (cs : CodeTrees) (scope : List Base) (asked : Option (List Base)) (bs : List Base) → AllHave cs scope Set → IsOne Set asked bs →
    HasBases (union_of cs) scope asked bs
union_of_typed no_codes scope asked bs h i = (tt, i)
union_of_typed (code_more c no_codes) scope asked bs h i =
    either_typed (is_set_form c) c (code_union (code_more c (code_more empty no_codes))) scope asked bs
    (λ t. form_typed c scope asked bs t h.0 i)
    (λ t. (two_at_least 0, (h.0, ((tt, (refl, refl)), tt)), i))
union_of_typed (code_more c (code_more d cs)) scope asked bs h i = (two_at_least (count cs), h, i)

pub union_typed : (cs : CodeTrees) (scope : List Base) (asked : Option (List Base)) (bs : List Base) → HasBases (code_union cs) scope asked bs →
    HasBases (union_settled cs) scope asked bs
union_typed cs scope asked bs h = union_of_typed (nonempty cs) scope asked bs (nonempty_have cs scope Set h.1) h.2
