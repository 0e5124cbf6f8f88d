-- Each number that a code gives is met on its path.
use Rattle.std.proofs.Common.{◌≡◌, ℕ, zero, suc, ◌≤◌, ℤ, pos, ◌+ℤ◌, List, [], ◌∷◌, ◌++◌, Bool, true, false, Option, Some, None, refl, ap, subst, arith}
use Rattle.std.specs.Prelude.{unsigned_abs, cond}
use Rattle.cf_tree.specs.CodeTree.{CodeTree, code_lit, code_truth, code_var, code_set_of, code_tuple, code_sum, code_sub, code_mul, code_neg, code_div, code_mod, code_min, code_max, code_compare, code_divides, code_and, code_or, code_not, code_union, code_inter, code_diff, code_subset, code_card, code_slice, code_fresh, code_if, code_let, code_solve, CodeTrees, no_codes, code_more, ArmTree, arm_of, ArmTrees, no_arms, arm_more}
use Rattle.cf_tree.specs.Meaning.{Got, got, none_at, Path, then_gives, then_peak, then_path, gives_only, if_some, or_later, or_none, first_from, path, all_path, set_path, sum_path, best_path, join_path, items_path, arm_path, arms_path, meets, meets_value, meets_all, tuple_at, number_in, truth_in}
use Rattle.cf_tree.specs.Values.{Value, number, truth, elements, value_at}
use Rattle.cf_shift.specs.Meeting.{AreSmall, GivenAreMet}

some_once : (e e' : List Value) → got (Some e) ≡ got (Some e') → e ≡ e'
some_once e e' h = cc

none_is_some : (e : List Value) → got None ≡ got (Some e) → ⊥
none_is_some e h = cc

stop_not : {A : Type 0} (k : ℕ) (x : A) → none_at k ≡ got x → ⊥
stop_not k x e = cc

same_got : {A : Type 0} (x y : A) → got x ≡ got y → x ≡ y
same_got x y e = cc

pub small_append : (n : ℕ) (xs ys : List Value) → AreSmall n xs → AreSmall n ys → AreSmall n (xs ++ ys)
small_append n [] ys h k = k
small_append n (x ∷ xs) ys h k = (h.0, small_append n xs ys h.1 k)

-- ---- paths
-- what the path gives is at most what is met
abbrev pub IsOwn : Path (List Value) → Type 0
IsOwn p = (n : ℕ) → p.peak ≤ n → (vs : List Value) → p.gives ≡ got vs → AreSmall n vs

abbrev IsOwnFound : Path (Option (List Value)) → Type 0
IsOwnFound p = (n : ℕ) → p.peak ≤ n → (vs : List Value) → p.gives ≡ got (Some vs) → AreSmall n vs

then_own : {A : Type 0} (p : Path A) (go : A → Path (List Value)) → ((x : A) → IsOwn (go x)) → IsOwn (then_path p go)
then_own {A = A} p go h n l vs e = by p.gives l e
  where
    by : (g : Got A) → then_peak p.peak g (λ x. (go x).peak) ≤ n → then_gives g (λ x. (go x).gives) ≡ got vs → AreSmall n vs
    by (got x) l e = h x n (omega arith) vs e
    by (none_at k) l e = absurd (stop_not k vs e)

then_found : {A : Type 0} (p : Path A) (go : A → Path (Option (List Value))) → ((x : A) → IsOwnFound (go x)) → IsOwnFound (then_path p go)
then_found {A = A} p go h n l vs e = by p.gives l e
  where
    by : (g : Got A) → then_peak p.peak g (λ x. (go x).peak) ≤ n → then_gives g (λ x. (go x).gives) ≡ got (Some vs) → AreSmall n vs
    by (got x) l e = h x n (omega arith) vs e
    by (none_at k) l e = absurd (stop_not k (Some vs) e)

meets_own : (z : ℤ) → IsOwn (meets z)
meets_own z n l vs e = subst (AreSmall n) (same_got (number z ∷ []) vs e) (l, tt)

truth_own : (b : Bool) → IsOwn (gives_only (truth b ∷ []))
truth_own b n l vs e = subst (AreSmall n) (same_got (truth b ∷ []) vs e) (omega arith, tt)

set_only : (zs : List ℤ) (p : ℕ) → IsOwn (record { gives = got (elements zs ∷ []); peak = p })
set_only zs p n l vs e = subst (AreSmall n) (same_got (elements zs ∷ []) vs e) (omega arith, tt)

value_own : (v : Value) → IsOwn (meets_value v)
value_own (number z) = meets_own z
value_own (truth b) = truth_own b
value_own (elements zs) = set_only zs 0

either_own : (b : Bool) (p q : Path (List Value)) → IsOwn p → IsOwn q → IsOwn (cond b p q)
either_own true p q h k = h
either_own false p q h k = k

-- one search and then others
or_else_own : (p q : Path (Option (List Value))) → IsOwnFound p → IsOwnFound q → IsOwnFound (then_path p (λ found. or_later found q))
or_else_own p q h k n l vs e = by p.gives p.peak (λ m. h n m) l e
  where
    by : (g : Got (Option (List Value))) (m : ℕ) → (m ≤ n → (ws : List Value) → g ≡ got (Some ws) → AreSmall n ws) →
        then_peak m g (λ found. (or_later found q).peak) ≤ n → then_gives g (λ found. (or_later found q).gives) ≡ got (Some vs) → AreSmall n vs
    by (got None) m f l e = k n (omega arith) vs e
    by (got (Some ws)) m f l e = f (omega arith) vs e
    by (none_at x) m f l e = absurd (stop_not x (Some vs) e)

none_own : IsOwnFound (gives_only None)
none_own n l vs e = absurd (none_is_some vs e)

first_own : (total k : ℕ) (f : ℕ → Path (Option (List Value))) → ((i : ℕ) → IsOwnFound (f i)) → IsOwnFound (first_from total k f)
first_own zero k f h = none_own
first_own (suc t) k f h = or_else_own (f k) (first_from t (suc k) f) (h k) (first_own t (suc k) f h)

if_some_own : (o : Option (List Value)) (go : List Value → Path (Option (List Value))) → ((e : List Value) → IsOwnFound (go e)) → IsOwnFound (if_some o go)
if_some_own None go h = none_own
if_some_own (Some e) go h = h e

some_own : (p : Path (List Value)) → IsOwn p → IsOwnFound (then_path p (λ vs. gives_only (Some vs)))
some_own p h n l vs e = by p.gives p.peak (λ m. h n m) l e
  where
    by : (g : Got (List Value)) (m : ℕ) → (m ≤ n → (ws : List Value) → g ≡ got ws → AreSmall n ws) → then_peak m g (λ vs. 0) ≤ n →
        then_gives g (λ ws. got (Some ws)) ≡ got (Some vs) → AreSmall n vs
    by (got ws) m f l e = f (omega arith) vs (ap got (some_once ws vs e))
    by (none_at x) m f l e = absurd (stop_not x (Some vs) e)

-- what was found is the outcome of a solve
solve_own : (id : ℕ) (p : Path (Option (List Value))) → IsOwnFound p → IsOwn (then_path p (λ found. or_none id found))
solve_own id p h n l vs e = by p.gives p.peak (λ m. h n m) l e
  where
    by : (g : Got (Option (List Value))) (m : ℕ) → (m ≤ n → (ws : List Value) → g ≡ got (Some ws) → AreSmall n ws) →
        then_peak m g (λ found. (or_none id found).peak) ≤ n → then_gives g (λ found. (or_none id found).gives) ≡ got vs → AreSmall n vs
    by (got None) m f l e = absurd (stop_not id vs e)
    by (got (Some ws)) m f l e = f (omega arith) vs (ap (λ xs. got (Some xs)) (same_got ws vs e))
    by (none_at x) m f l e = absurd (stop_not x vs e)

-- several parts, of which each is so
more_own : (n : ℕ) (p : Path (List Value)) (go : List Value → Path (List Value)) → IsOwn p →
    ((xs : List Value) → AreSmall n xs → (go xs).peak ≤ n → (vs : List Value) → (go xs).gives ≡ got vs → AreSmall n vs) →
    (then_path p go).peak ≤ n → (vs : List Value) → (then_path p go).gives ≡ got vs → AreSmall n vs
more_own n p go h k l vs e = by p.gives p.peak (λ m. h n m) l e
  where
    by : (g : Got (List Value)) (m : ℕ) → (m ≤ n → (ws : List Value) → g ≡ got ws → AreSmall n ws) → then_peak m g (λ x. (go x).peak) ≤ n →
        then_gives g (λ x. (go x).gives) ≡ got vs → AreSmall n vs
    by (got xs) m f l e = k xs (f (omega arith) xs refl) (omega arith) vs e
    by (none_at x) m f l e = absurd (stop_not x vs e)

pub first_small : (n : ℕ) (ys : List Value) → AreSmall n ys → unsigned_abs (number_in ys) ≤ n
first_small n [] s = omega arith
first_small n (y ∷ ys) s = s.0

-- ---- codes
mutual
  pub path_own : (c : CodeTree) (env : List Value) → IsOwn (path c env)
  path_own (code_lit k) env = meets_own k
  path_own (code_truth t) env = truth_own t
  path_own (code_var x) env = value_own (value_at env x)
  path_own (code_set_of cs) env = set_own cs env []
  path_own (code_tuple cs) env = λ n l vs e. all_own cs env [] n tt l vs e
  path_own (code_sum cs) env = λ n l vs e. sum_own cs env (pos 0) n (omega arith) l vs e
  path_own (code_sub a b) env = then_own (path a env) _ (λ x. then_own (path b env) _ (λ y. meets_own _))
  path_own (code_mul a b) env = then_own (path a env) _ (λ x. then_own (path b env) _ (λ y. meets_own _))
  path_own (code_neg a) env = then_own (path a env) _ (λ x. meets_own _)
  path_own (code_div a k) env = then_own (path a env) _ (λ x. meets_own _)
  path_own (code_mod a k) env = then_own (path a env) _ (λ x. meets_own _)
  path_own (code_min cs) env = best_own _ cs env None
  path_own (code_max cs) env = best_own _ cs env None
  path_own (code_compare o a b) env = then_own (path a env) _ (λ x. then_own (path b env) _ (λ y. truth_own _))
  path_own (code_divides k a) env = then_own (path a env) _ (λ x. truth_own _)
  path_own (code_and a b) env = then_own (path a env) _
      (λ x. either_own (truth_in x) (path b env) (gives_only (truth false ∷ [])) (path_own b env) (truth_own false))
  path_own (code_or a b) env = then_own (path a env) _
      (λ x. either_own (truth_in x) (gives_only (truth true ∷ [])) (path b env) (truth_own true) (path_own b env))
  path_own (code_not a) env = then_own (path a env) _ (λ x. truth_own _)
  path_own (code_union cs) env = join_own _ cs env None
  path_own (code_inter cs) env = join_own _ cs env None
  path_own (code_diff a b) env = then_own (path a env) _ (λ x. then_own (path b env) _ (λ y. set_only _ 0))
  path_own (code_subset a b) env = then_own (path a env) _ (λ x. then_own (path b env) _ (λ y. truth_own _))
  path_own (code_card a) env = then_own (path a env) _ (λ x. meets_own _)
  path_own (code_slice a b c) env = then_own (path a env) _ (λ x. then_own (path b env) _ (λ y. then_own (path c env) _ (λ z. set_only _ 0)))
  path_own (code_fresh a b) env = then_own (path a env) _ (λ x. then_own (path b env) _ (λ y. set_only _ _))
  path_own (code_if t a b) env = then_own (path t env) _ (λ x. either_own (truth_in x) (path a env) (path b env) (path_own a env) (path_own b env))
  path_own (code_let first count a b) env = then_own (path a env) _ (λ x. path_own b (env ++ x))
  path_own (code_solve n arms) env = solve_own n (arms_path arms env) (arms_own arms env)

  all_own : (cs : CodeTrees) (env done : List Value) (n : ℕ) → AreSmall n done → (all_path cs env done).peak ≤ n → (vs : List Value) →
      (all_path cs env done).gives ≡ got vs → AreSmall n vs
  all_own no_codes env done n d l vs e = subst (AreSmall n) (same_got done vs e) d
  all_own (code_more c cs) env done n d l vs e =
      more_own n (path c env) (λ xs. all_path cs env (done ++ xs)) (path_own c env)
      (λ xs s m ws q. all_own cs env (done ++ xs) n (small_append n done xs d s) m ws q) l vs e

  set_own : (cs : CodeTrees) (env : List Value) (done : List ℤ) → IsOwn (set_path cs env done)
  set_own no_codes env done = set_only done 0
  set_own (code_more c cs) env done = then_own (path c env) _ (λ x. set_own cs env _)

  sum_own : (cs : CodeTrees) (env : List Value) (z : ℤ) (n : ℕ) → unsigned_abs z ≤ n → (sum_path cs env z).peak ≤ n → (vs : List Value) →
      (sum_path cs env z).gives ≡ got vs → AreSmall n vs
  sum_own no_codes env z n h l vs e = subst (AreSmall n) (same_got (number z ∷ []) vs e) (h, tt)
  sum_own (code_more c cs) env z n h l vs e =
      more_own n (path c env) (λ x. then_path (meets (z +ℤ number_in x)) (λ s. sum_path cs env (number_in s))) (path_own c env)
      (λ xs s m ws q. more_own n (meets (z +ℤ number_in xs)) (λ s. sum_path cs env (number_in s)) (meets_own (z +ℤ number_in xs))
      (λ ys t o us r. sum_own cs env (number_in ys) n (first_small n ys t) o us r) m ws q) l vs e

  best_own : (better : ℤ → ℤ → ℤ) (cs : CodeTrees) (env : List Value) (z : Option ℤ) → IsOwn (best_path better cs env z)
  best_own better no_codes env z = meets_own _
  best_own better (code_more c cs) env z = then_own (path c env) _ (λ x. best_own better cs env _)

  join_own : (join : List ℤ → List ℤ → List ℤ) (cs : CodeTrees) (env : List Value) (zs : Option (List ℤ)) → IsOwn (join_path join cs env zs)
  join_own join no_codes env zs = set_only _ 0
  join_own join (code_more c cs) env zs = then_own (path c env) _ (λ x. join_own join cs env _)

  arms_own : (arms : ArmTrees) (env : List Value) → IsOwnFound (arms_path arms env)
  arms_own no_arms env = none_own
  arms_own (arm_more a arms) env = or_else_own (arm_path a env) (arms_path arms env) (arm_own a env) (arms_own arms env)

  arm_own : (a : ArmTree) (env : List Value) → IsOwnFound (arm_path a env)
  arm_own (arm_of bounds is gs) env = first_own _ 0 _ (λ i. then_found (meets_all (tuple_at bounds i)) _ (λ ks.
      then_found (items_path is (env ++ ks)) _ (λ next.
      if_some_own next _ (λ e. some_own (all_path gs e []) (λ n l vs q. all_own gs e [] n tt l vs q)))))

pub given_are_met : GivenAreMet
given_are_met c env vs e = path_own c env (path c env).peak (le_refl (path c env).peak) vs e
  where
    le_refl : (n : ℕ) → n ≤ n
    le_refl n = omega arith
