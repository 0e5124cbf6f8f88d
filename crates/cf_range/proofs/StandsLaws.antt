-- Values that stand anywhere: they give the same whatever is bound behind, have the same types, and are one.
use Rattle.std.proofs.Common.{◌≡◌, ◌<◌, ℕ, zero, suc, ◌+◌, nat_eq, max, ℤ, pos, ◌+ℤ◌, Bool, true, false, cond, ◌&&◌, Option, Some, None, List, [], ◌∷◌, ◌++◌, length, slice_get, length-append, refl, sym, ap, ◌∙◌, arith}
use Rattle.std.specs.Int.{int_max, int_min}
use Rattle.cf_tree.specs.CodeTree.{CodeTree, code_lit, code_truth, code_var, code_set_of, code_tuple, code_sum, code_sub, code_mul, code_neg, code_div, code_mod, code_min, code_max, code_compare, code_divides, code_and, code_or, code_not, code_union, code_inter, code_diff, code_subset, code_card, code_slice, code_fresh, code_if, code_let, code_solve, CodeTrees, no_codes, code_more, ArmTree, arm_of, ArmTrees, no_arms, arm_more, count}
use Rattle.cf_tree.specs.declared.base.Base.{Base}
use Rattle.cf_tree.specs.declared.base.Base.TheVariants.{Int}
use Rattle.cf_tree.specs.Meaning.{Got, got, none_at, Path, then_gives, then_peak, then_path, path, all_path, set_path, sum_path, best_path, join_path, items_path, arm_path, arms_path, meets, meets_all, meets_value, tuple_at, count_below, if_some, or_later, or_none, first_from, number_in, truth_in, choose_with}
use Rattle.cf_tree.specs.Typing.{HasBases, AllHave, HasNoSolve, HaveNoSolve, Meets, one, ask}
use Rattle.cf_tree.specs.Values.{Value, number, truth, elements, value_at}
use Rattle.cf_range.specs.Settled.{gives_so_many, each_gives_one, arm_gives_so_many, arms_give_so_many, stands_anywhere, all_stand_anywhere}
use Rattle.cf_range.proofs.PutLaws.{eq_means, lt_means}

and_true : (a b : Bool) → (a && b) ≡ true → (a ≡ true) × (b ≡ true)
and_true true b e = (refl, e)
and_true false b e = cc

no_truth : false ≡ true → ⊥
no_truth e = cc

-- ---- paths that are the same
then_same : {A B : Type 0} (p q : Path A) (go ko : A → Path B) → p ≡ q → ((x : A) → go x ≡ ko x) → then_path p go ≡ then_path q ko
then_same {A = A} {B = B} p q go ko e s = rw e (by q.gives q.peak)
  where
    by : (g : Got A) (k : ℕ) →
        ◌≡◌ {A = Path B} (record { gives = then_gives g (λ x. (go x).gives); peak = then_peak k g (λ x. (go x).peak) })
        (record { gives = then_gives g (λ x. (ko x).gives); peak = then_peak k g (λ x. (ko x).peak) })
    by (got x) k = ap (λ (r : Path B). record { gives = r.gives; peak = max k r.peak }) (s x)
    by (none_at n) k = refl

get_or_before : (front back : List Value) (y : ℕ) → y < length front → value_at (front ++ back) y ≡ value_at front y
get_or_before [] back y h = absurd (omega (arith, h))
get_or_before (v ∷ front) back zero h = refl
get_or_before (v ∷ front) back (suc y) h = get_or_before front back y (omega (arith, h))

pub get_before : (front back : List Base) (y : ℕ) → y < length front → slice_get (front ++ back) y ≡ slice_get front y
get_before [] back y h = absurd (omega (arith, h))
get_before (v ∷ front) back zero h = refl
get_before (v ∷ front) back (suc y) h = get_before front back y (omega (arith, h))

module _ (front back : List Value) where
  mutual
    pub stands_same : (c : CodeTree) → stands_anywhere (length front) c ≡ true → path c (front ++ back) ≡ path c front
    stands_same (code_lit k) t = refl
    stands_same (code_truth u) t = refl
    stands_same (code_var y) t = ap meets_value (get_or_before front back y (lt_means y (length front) t))
    stands_same (code_set_of no_codes) t = refl
    stands_same (code_set_of (code_more c cs)) t = absurd (no_truth t)
    stands_same (code_tuple cs) t = absurd (no_truth t)
    stands_same (code_sum cs) t = sum_same cs (pos 0) t
    stands_same (code_sub a b) t = let q = and_true _ _ t in then_same _ _ _ _ (stands_same a q.0) (λ x. then_same _ _ _ _ (stands_same b q.1) (λ y. refl))
    stands_same (code_mul a b) t = let q = and_true _ _ t in then_same _ _ _ _ (stands_same a q.0) (λ x. then_same _ _ _ _ (stands_same b q.1) (λ y. refl))
    stands_same (code_neg a) t = then_same _ _ _ _ (stands_same a t) (λ x. refl)
    stands_same (code_div a k) t = then_same _ _ _ _ (stands_same a t) (λ x. refl)
    stands_same (code_mod a k) t = then_same _ _ _ _ (stands_same a t) (λ x. refl)
    stands_same (code_min cs) t = best_same int_min cs None t
    stands_same (code_max cs) t = best_same int_max cs None t
    stands_same (code_compare o a b) t = absurd (no_truth t)
    stands_same (code_divides k a) t = absurd (no_truth t)
    stands_same (code_and a b) t = absurd (no_truth t)
    stands_same (code_or a b) t = absurd (no_truth t)
    stands_same (code_not a) t = absurd (no_truth t)
    stands_same (code_union cs) t = absurd (no_truth t)
    stands_same (code_inter cs) t = absurd (no_truth t)
    stands_same (code_diff a b) t = absurd (no_truth t)
    stands_same (code_subset a b) t = absurd (no_truth t)
    stands_same (code_card a) t = absurd (no_truth t)
    stands_same (code_slice a b c) t = absurd (no_truth t)
    stands_same (code_fresh a b) t = absurd (no_truth t)
    stands_same (code_if s a b) t = absurd (no_truth t)
    stands_same (code_let first n a b) t = absurd (no_truth t)
    stands_same (code_solve n arms) t = absurd (no_truth t)

    sum_same : (cs : CodeTrees) (z : ℤ) → all_stand_anywhere (length front) cs ≡ true → sum_path cs (front ++ back) z ≡ sum_path cs front z
    sum_same no_codes z t = refl
    sum_same (code_more c cs) z t =
        let q = and_true _ _ t in
        then_same _ _ _ _ (stands_same c q.0)
        (λ x. then_same (meets (z +ℤ number_in x)) (meets (z +ℤ number_in x)) (λ s. sum_path cs (front ++ back) (number_in s))
        (λ s. sum_path cs front (number_in s)) refl (λ s. sum_same cs (number_in s) q.1))

    best_same : (better : ℤ → ℤ → ℤ) (cs : CodeTrees) (z : Option ℤ) → all_stand_anywhere (length front) cs ≡ true →
        best_path better cs (front ++ back) z ≡ best_path better cs front z
    best_same better no_codes z t = refl
    best_same better (code_more c cs) z t =
        let q = and_true _ _ t in
        then_same _ _ _ _ (stands_same c q.0) (λ x. best_same better cs (Some (choose_with better z (number_in x))) q.1)

-- ---- types
mutual
  pub stands_free : (n : ℕ) (c : CodeTree) → stands_anywhere n c ≡ true → HasNoSolve c
  stands_free n (code_lit k) t = tt
  stands_free n (code_truth u) t = tt
  stands_free n (code_var y) t = tt
  stands_free n (code_set_of no_codes) t = tt
  stands_free n (code_set_of (code_more c cs)) t = absurd (no_truth t)
  stands_free n (code_tuple cs) t = absurd (no_truth t)
  stands_free n (code_sum cs) t = all_stand_free n cs t
  stands_free n (code_sub a b) t = let q = and_true _ _ t in (stands_free n a q.0, stands_free n b q.1)
  stands_free n (code_mul a b) t = let q = and_true _ _ t in (stands_free n a q.0, stands_free n b q.1)
  stands_free n (code_neg a) t = stands_free n a t
  stands_free n (code_div a k) t = stands_free n a t
  stands_free n (code_mod a k) t = stands_free n a t
  stands_free n (code_min cs) t = all_stand_free n cs t
  stands_free n (code_max cs) t = all_stand_free n cs t
  stands_free n (code_compare o a b) t = absurd (no_truth t)
  stands_free n (code_divides k a) t = absurd (no_truth t)
  stands_free n (code_and a b) t = absurd (no_truth t)
  stands_free n (code_or a b) t = absurd (no_truth t)
  stands_free n (code_not a) t = absurd (no_truth t)
  stands_free n (code_union cs) t = absurd (no_truth t)
  stands_free n (code_inter cs) t = absurd (no_truth t)
  stands_free n (code_diff a b) t = absurd (no_truth t)
  stands_free n (code_subset a b) t = absurd (no_truth t)
  stands_free n (code_card a) t = absurd (no_truth t)
  stands_free n (code_slice a b c) t = absurd (no_truth t)
  stands_free n (code_fresh a b) t = absurd (no_truth t)
  stands_free n (code_if s a b) t = absurd (no_truth t)
  stands_free n (code_let first k a b) t = absurd (no_truth t)
  stands_free n (code_solve k arms) t = absurd (no_truth t)

  all_stand_free : (n : ℕ) (cs : CodeTrees) → all_stand_anywhere n cs ≡ true → HaveNoSolve cs
  all_stand_free n no_codes t = tt
  all_stand_free n (code_more c cs) t = let q = and_true _ _ t in (stands_free n c q.0, all_stand_free n cs q.1)

module _ (front back : List Base) where
  mutual
    pub stands_typed : (c : CodeTree) (asked : Option (List Base)) (bs : List Base) → stands_anywhere (length front) c ≡ true →
        HasBases c front asked bs → HasBases c (front ++ back) asked bs
    stands_typed (code_lit k) asked bs t h = h
    stands_typed (code_truth u) asked bs t h = h
    stands_typed (code_var y) asked bs t h = (h.0, get_before front back y (lt_means y (length front) t) ∙ h.1, h.2)
    stands_typed (code_set_of no_codes) asked bs t h = h
    stands_typed (code_set_of (code_more c cs)) asked bs t h = absurd (no_truth t)
    stands_typed (code_tuple cs) asked bs t h = absurd (no_truth t)
    stands_typed (code_sum cs) asked bs t h = (h.0, all_stand_typed cs t h.1, h.2)
    stands_typed (code_sub a b) asked bs t h = let q = and_true _ _ t in
        (stands_typed a (ask Int) (one Int) q.0 h.0, stands_typed b (ask Int) (one Int) q.1 h.1, h.2)
    stands_typed (code_mul a b) asked bs t h = let q = and_true _ _ t in
        (stands_typed a (ask Int) (one Int) q.0 h.0, stands_typed b (ask Int) (one Int) q.1 h.1, h.2)
    stands_typed (code_neg a) asked bs t h = (stands_typed a (ask Int) (one Int) t h.0, h.1)
    stands_typed (code_div a k) asked bs t h = (h.0, stands_typed a (ask Int) (one Int) t h.1, h.2)
    stands_typed (code_mod a k) asked bs t h = (h.0, stands_typed a (ask Int) (one Int) t h.1, h.2)
    stands_typed (code_min cs) asked bs t h = (h.0, all_stand_typed cs t h.1, h.2)
    stands_typed (code_max cs) asked bs t h = (h.0, all_stand_typed cs t h.1, h.2)
    stands_typed (code_compare o a b) asked bs t h = absurd (no_truth t)
    stands_typed (code_divides k a) asked bs t h = absurd (no_truth t)
    stands_typed (code_and a b) asked bs t h = absurd (no_truth t)
    stands_typed (code_or a b) asked bs t h = absurd (no_truth t)
    stands_typed (code_not a) asked bs t h = absurd (no_truth t)
    stands_typed (code_union cs) asked bs t h = absurd (no_truth t)
    stands_typed (code_inter cs) asked bs t h = absurd (no_truth t)
    stands_typed (code_diff a b) asked bs t h = absurd (no_truth t)
    stands_typed (code_subset a b) asked bs t h = absurd (no_truth t)
    stands_typed (code_card a) asked bs t h = absurd (no_truth t)
    stands_typed (code_slice a b c) asked bs t h = absurd (no_truth t)
    stands_typed (code_fresh a b) asked bs t h = absurd (no_truth t)
    stands_typed (code_if s a b) asked bs t h = absurd (no_truth t)
    stands_typed (code_let first n a b) asked bs t h = absurd (no_truth t)
    stands_typed (code_solve n arms) asked bs t h = absurd (no_truth t)

    all_stand_typed : (cs : CodeTrees) → all_stand_anywhere (length front) cs ≡ true → AllHave cs front Int → AllHave cs (front ++ back) Int
    all_stand_typed no_codes t h = tt
    all_stand_typed (code_more c cs) t h =
        let q = and_true _ _ t in (stands_typed c (ask Int) (one Int) q.0 h.0, all_stand_typed cs q.1 h.1)

-- it has its base wherever that is asked
pub stands_asked : (n : ℕ) (c : CodeTree) (scope : List Base) (asked : Option (List Base)) (bs : List Base) → stands_anywhere n c ≡ true →
    Meets asked bs → HasBases c scope None bs → HasBases c scope asked bs
stands_asked n (code_lit k) scope asked bs t m h = (h.0, m)
stands_asked n (code_truth u) scope asked bs t m h = (h.0, m)
stands_asked n (code_var y) scope asked bs t m h = (h.0, h.1, (h.2.0, m))
stands_asked n (code_set_of no_codes) scope asked bs t m h = (h.0, (h.1.0, m))
stands_asked n (code_set_of (code_more c cs)) scope asked bs t m h = absurd (no_truth t)
stands_asked n (code_tuple cs) scope asked bs t m h = absurd (no_truth t)
stands_asked n (code_sum cs) scope asked bs t m h = (h.0, h.1, (h.2.0, m))
stands_asked n (code_sub a b) scope asked bs t m h = (h.0, h.1, (h.2.0, m))
stands_asked n (code_mul a b) scope asked bs t m h = (h.0, h.1, (h.2.0, m))
stands_asked n (code_neg a) scope asked bs t m h = (h.0, (h.1.0, m))
stands_asked n (code_div a k) scope asked bs t m h = (h.0, h.1, (h.2.0, m))
stands_asked n (code_mod a k) scope asked bs t m h = (h.0, h.1, (h.2.0, m))
stands_asked n (code_min cs) scope asked bs t m h = (h.0, h.1, (h.2.0, m))
stands_asked n (code_max cs) scope asked bs t m h = (h.0, h.1, (h.2.0, m))
stands_asked n (code_compare o a b) scope asked bs t m h = absurd (no_truth t)
stands_asked n (code_divides k a) scope asked bs t m h = absurd (no_truth t)
stands_asked n (code_and a b) scope asked bs t m h = absurd (no_truth t)
stands_asked n (code_or a b) scope asked bs t m h = absurd (no_truth t)
stands_asked n (code_not a) scope asked bs t m h = absurd (no_truth t)
stands_asked n (code_union cs) scope asked bs t m h = absurd (no_truth t)
stands_asked n (code_inter cs) scope asked bs t m h = absurd (no_truth t)
stands_asked n (code_diff a b) scope asked bs t m h = absurd (no_truth t)
stands_asked n (code_subset a b) scope asked bs t m h = absurd (no_truth t)
stands_asked n (code_card a) scope asked bs t m h = absurd (no_truth t)
stands_asked n (code_slice a b c) scope asked bs t m h = absurd (no_truth t)
stands_asked n (code_fresh a b) scope asked bs t m h = absurd (no_truth t)
stands_asked n (code_if s a b) scope asked bs t m h = absurd (no_truth t)
stands_asked n (code_let first k a b) scope asked bs t m h = absurd (no_truth t)
stands_asked n (code_solve k arms) scope asked bs t m h = absurd (no_truth t)

-- ---- how many values
abbrev pub IsCounted : ℕ → Got (List Value) → Type 0
IsCounted n g = (vs : List Value) → g ≡ got vs → length vs ≡ n

abbrev IsFoundCounted : ℕ → Got (Option (List Value)) → Type 0
IsFoundCounted n g = (vs : List Value) → g ≡ got (Some vs) → length vs ≡ n

stop_not : {A : Type 0} (k : ℕ) (x : A) → none_at k ≡ got x → ⊥
stop_not k x e = cc

none_is_some : (e : List Value) → got None ≡ got (Some e) → ⊥
none_is_some e h = cc

same_got : {A : Type 0} (x y : A) → got x ≡ got y → x ≡ y
same_got x y e = cc

some_once : (e f : List Value) → got (Some e) ≡ got (Some f) → e ≡ f
some_once e f h = cc

then_counted : {A : Type 0} (n : ℕ) (g : Got A) (go : A → Got (List Value)) → ((x : A) → g ≡ got x → IsCounted n (go x)) → IsCounted n (then_gives g go)
then_counted n (got x) go h vs e = h x refl vs e
then_counted n (none_at k) go h vs e = absurd (stop_not k vs e)

only_counted : (vs : List Value) → IsCounted (length vs) (got vs)
only_counted vs ws e = ap length (sym (same_got vs ws e))

one_counted : (n : ℕ) → nat_eq n 1 ≡ true → (v : Value) → IsCounted n (got (v ∷ []))
one_counted n t v ws e = only_counted (v ∷ []) ws e ∙ sym (eq_means n 1 t)

value_counted : (n : ℕ) → nat_eq n 1 ≡ true → (v : Value) → IsCounted n (meets_value v).gives
value_counted n t (number z) = one_counted n t (number z)
value_counted n t (truth b) = one_counted n t (truth b)
value_counted n t (elements zs) = one_counted n t (elements zs)

either_counted : (n : ℕ) (b : Bool) (p q : Path (List Value)) → IsCounted n p.gives → IsCounted n q.gives → IsCounted n (cond b p q).gives
either_counted n true p q h k = h
either_counted n false p q h k = k

none_before : (n : ℕ) → 0 + n ≡ n
none_before n = omega arith

-- one way and then others
later_counted : (n : ℕ) (g : Got (Option (List Value))) (q : Path (Option (List Value))) → IsFoundCounted n g → IsFoundCounted n q.gives →
    IsFoundCounted n (then_gives g (λ found. (or_later found q).gives))
later_counted n (got None) q h k vs e = k vs e
later_counted n (got (Some ws)) q h k vs e = h vs e
later_counted n (none_at x) q h k vs e = absurd (stop_not x (Some vs) e)

first_counted : (n total k : ℕ) (f : ℕ → Path (Option (List Value))) → ((i : ℕ) → IsFoundCounted n (f i).gives) → IsFoundCounted n (first_from total k f).gives
first_counted n zero k f h = λ vs e. absurd (none_is_some vs e)
first_counted n (suc t) k f h = later_counted n (f k).gives (first_from t (suc k) f) (h k) (first_counted n t (suc k) f h)

then_found : {A : Type 0} (n : ℕ) (g : Got A) (go : A → Got (Option (List Value))) → ((x : A) → IsFoundCounted n (go x)) →
    IsFoundCounted n (then_gives g go)
then_found n (got x) go h vs e = h x vs e
then_found n (none_at k) go h vs e = absurd (stop_not k (Some vs) e)

if_some_counted : (n : ℕ) (o : Option (List Value)) (go : List Value → Path (Option (List Value))) → ((e : List Value) → IsFoundCounted n (go e).gives) →
    IsFoundCounted n (if_some o go).gives
if_some_counted n None go h = λ vs e. absurd (none_is_some vs e)
if_some_counted n (Some env) go h = h env

some_counted : (n : ℕ) (g : Got (List Value)) → IsCounted n g → IsFoundCounted n (then_gives g (λ vs. got (Some vs)))
some_counted n (got ws) h vs e = h vs (ap got (some_once ws vs e))
some_counted n (none_at x) h vs e = absurd (stop_not x (Some vs) e)

solve_counted : (n id : ℕ) (g : Got (Option (List Value))) → IsFoundCounted n g → IsCounted n (then_gives g (λ found. (or_none id found).gives))
solve_counted n id (got None) h vs e = absurd (stop_not id vs e)
solve_counted n id (got (Some ws)) h vs e = h vs (ap (λ xs. got (Some xs)) (same_got ws vs e))
solve_counted n id (none_at x) h vs e = absurd (stop_not x vs e)

sum_counted : (n : ℕ) → nat_eq n 1 ≡ true → (cs : CodeTrees) (env : List Value) (z : ℤ) → IsCounted n (sum_path cs env z).gives
sum_counted n t no_codes env z = one_counted n t (number z)
sum_counted n t (code_more c cs) env z = then_counted n (path c env).gives _ (λ x e.
    then_counted n (meets (z +ℤ number_in x)).gives (λ s. (sum_path cs env (number_in s)).gives) (λ s f. sum_counted n t cs env (number_in s)))

best_counted : (n : ℕ) → nat_eq n 1 ≡ true → (better : ℤ → ℤ → ℤ) (cs : CodeTrees) (env : List Value) (z : Option ℤ) →
    IsCounted n (best_path better cs env z).gives
best_counted n t better no_codes env z = one_counted n t _
best_counted n t better (code_more c cs) env z = then_counted n (path c env).gives _ (λ x e. best_counted n t better cs env _)

join_counted : (n : ℕ) → nat_eq n 1 ≡ true → (join : List ℤ → List ℤ → List ℤ) (cs : CodeTrees) (env : List Value) (zs : Option (List ℤ)) →
    IsCounted n (join_path join cs env zs).gives
join_counted n t join no_codes env zs = one_counted n t _
join_counted n t join (code_more c cs) env zs = then_counted n (path c env).gives _ (λ x e. join_counted n t join cs env _)

set_counted : (n : ℕ) → nat_eq n 1 ≡ true → (cs : CodeTrees) (env : List Value) (done : List ℤ) → IsCounted n (set_path cs env done).gives
set_counted n t no_codes env done = one_counted n t _
set_counted n t (code_more c cs) env done = then_counted n (path c env).gives _ (λ x e. set_counted n t cs env _)

none_behind : (k : ℕ) → k ≡ k + 0
none_behind k = omega arith

one_further : (k m l c : ℕ) → m ≡ 1 → l ≡ k + m → l + c ≡ k + (1 + c)
one_further k m l c e f = omega (arith, e, f)

mutual
  pub code_counted : (n : ℕ) (c : CodeTree) (env : List Value) → gives_so_many n c ≡ true → IsCounted n (path c env).gives
  code_counted n (code_lit k) env t = one_counted n t _
  code_counted n (code_truth u) env t = one_counted n t _
  code_counted n (code_var y) env t = value_counted n t (value_at env y)
  code_counted n (code_set_of cs) env t = set_counted n t cs env []
  code_counted n (code_tuple cs) env t = let q = and_true _ _ t in λ vs e. all_counted cs env [] q.1 vs e ∙ none_before (count cs) ∙ sym (eq_means n (count cs) q.0)
  code_counted n (code_sum cs) env t = sum_counted n t cs env (pos 0)
  code_counted n (code_sub a b) env t = then_counted n (path a env).gives _ (λ x e. then_counted n (path b env).gives _ (λ y f. one_counted n t _))
  code_counted n (code_mul a b) env t = then_counted n (path a env).gives _ (λ x e. then_counted n (path b env).gives _ (λ y f. one_counted n t _))
  code_counted n (code_neg a) env t = then_counted n (path a env).gives _ (λ x e. one_counted n t _)
  code_counted n (code_div a k) env t = then_counted n (path a env).gives _ (λ x e. one_counted n t _)
  code_counted n (code_mod a k) env t = then_counted n (path a env).gives _ (λ x e. one_counted n t _)
  code_counted n (code_min cs) env t = best_counted n t _ cs env None
  code_counted n (code_max cs) env t = best_counted n t _ cs env None
  code_counted n (code_compare o a b) env t = then_counted n (path a env).gives _ (λ x e. then_counted n (path b env).gives _ (λ y f. one_counted n t _))
  code_counted n (code_divides k a) env t = then_counted n (path a env).gives _ (λ x e. one_counted n t _)
  code_counted n (code_and a b) env t = let q = and_true _ _ t in then_counted n (path a env).gives _
      (λ x e. either_counted n (truth_in x) (path b env) _ (code_counted n b env q.1) (one_counted n q.0 _))
  code_counted n (code_or a b) env t = let q = and_true _ _ t in then_counted n (path a env).gives _
      (λ x e. either_counted n (truth_in x) _ (path b env) (one_counted n q.0 _) (code_counted n b env q.1))
  code_counted n (code_not a) env t = then_counted n (path a env).gives _ (λ x e. one_counted n t _)
  code_counted n (code_union cs) env t = join_counted n t _ cs env None
  code_counted n (code_inter cs) env t = join_counted n t _ cs env None
  code_counted n (code_diff a b) env t = then_counted n (path a env).gives _ (λ x e. then_counted n (path b env).gives _ (λ y f. one_counted n t _))
  code_counted n (code_subset a b) env t = then_counted n (path a env).gives _ (λ x e. then_counted n (path b env).gives _ (λ y f. one_counted n t _))
  code_counted n (code_card a) env t = then_counted n (path a env).gives _ (λ x e. one_counted n t _)
  code_counted n (code_slice a b c) env t = then_counted n (path a env).gives _ (λ x e. then_counted n (path b env).gives _ (λ y f. then_counted n (path c env).gives _ (λ z g. one_counted n t _)))
  code_counted n (code_fresh a b) env t = then_counted n (path a env).gives _ (λ x e. then_counted n (path b env).gives _ (λ y f. one_counted n t _))
  code_counted n (code_if s a b) env t = let q = and_true _ _ t in then_counted n (path s env).gives _
      (λ x e. either_counted n (truth_in x) (path a env) (path b env) (code_counted n a env q.0) (code_counted n b env q.1))
  code_counted n (code_let first k a b) env t = then_counted n (path a env).gives _ (λ x e. code_counted n b (env ++ x) t)
  code_counted n (code_solve k arms) env t = solve_counted n k (arms_path arms env).gives (arms_counted n arms env t)

  all_counted : (cs : CodeTrees) (env done : List Value) → each_gives_one cs ≡ true → IsCounted (length done + count cs) (all_path cs env done).gives
  all_counted no_codes env done t = λ vs e. only_counted done vs e ∙ none_behind (length done)
  all_counted (code_more c cs) env done t =
      let q = and_true _ _ t in
      then_counted (length done + count (code_more c cs)) (path c env).gives (λ xs. (all_path cs env (done ++ xs)).gives) (λ xs e vs f.
      let k = code_counted 1 c env q.0 xs e in
      all_counted cs env (done ++ xs) q.1 vs f ∙ one_further (length done) (length xs) (length (done ++ xs)) (count cs) k (length-append done xs))

  arms_counted : (n : ℕ) (arms : ArmTrees) (env : List Value) → arms_give_so_many n arms ≡ true → IsFoundCounted n (arms_path arms env).gives
  arms_counted n no_arms env t = λ vs e. absurd (none_is_some vs e)
  arms_counted n (arm_more a arms) env t =
      let q = and_true _ _ t in
      later_counted n (arm_path a env).gives (arms_path arms env) (arm_counted n a env q.0) (arms_counted n arms env q.1)

  arm_counted : (n : ℕ) (a : ArmTree) (env : List Value) → arm_gives_so_many n a ≡ true → IsFoundCounted n (arm_path a env).gives
  arm_counted n (arm_of bounds is gs) env t =
      let q = and_true _ _ t in
      first_counted n (count_below bounds) 0 _ (λ i. then_found n (meets_all (tuple_at bounds i)).gives _ (λ ks.
      then_found n (items_path is (env ++ ks)).gives _ (λ next. if_some_counted n next _ (λ inner.
      some_counted n (all_path gs inner []).gives (λ vs e. all_counted gs inner [] q.1 vs e ∙ none_before (count gs) ∙ sym (eq_means n (count gs) q.0))))))

-- a value that stands anywhere is one
pub stands_one : (n : ℕ) (c : CodeTree) → stands_anywhere n c ≡ true → gives_so_many 1 c ≡ true
stands_one n (code_lit k) t = refl
stands_one n (code_truth u) t = refl
stands_one n (code_var y) t = refl
stands_one n (code_set_of no_codes) t = refl
stands_one n (code_set_of (code_more c cs)) t = absurd (no_truth t)
stands_one n (code_tuple cs) t = absurd (no_truth t)
stands_one n (code_sum cs) t = refl
stands_one n (code_sub a b) t = refl
stands_one n (code_mul a b) t = refl
stands_one n (code_neg a) t = refl
stands_one n (code_div a k) t = refl
stands_one n (code_mod a k) t = refl
stands_one n (code_min cs) t = refl
stands_one n (code_max cs) t = refl
stands_one n (code_compare o a b) t = absurd (no_truth t)
stands_one n (code_divides k a) t = absurd (no_truth t)
stands_one n (code_and a b) t = absurd (no_truth t)
stands_one n (code_or a b) t = absurd (no_truth t)
stands_one n (code_not a) t = absurd (no_truth t)
stands_one n (code_union cs) t = absurd (no_truth t)
stands_one n (code_inter cs) t = absurd (no_truth t)
stands_one n (code_diff a b) t = absurd (no_truth t)
stands_one n (code_subset a b) t = absurd (no_truth t)
stands_one n (code_card a) t = absurd (no_truth t)
stands_one n (code_slice a b c) t = absurd (no_truth t)
stands_one n (code_fresh a b) t = absurd (no_truth t)
stands_one n (code_if s a b) t = absurd (no_truth t)
stands_one n (code_let first k a b) t = absurd (no_truth t)
stands_one n (code_solve k arms) t = absurd (no_truth t)
