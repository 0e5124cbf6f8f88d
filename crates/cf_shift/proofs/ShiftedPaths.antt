-- Code behind more variables has the path that it has without them, its peak included.
use Rattle.std.proofs.Common.{◌≡◌, ℕ, zero, suc, max, ℤ, pos, ◌+ℤ◌, Bool, true, false, cond, Option, Some, None, List, [], ◌++◌, length, refl, ap, ◌∙◌}
use Rattle.std.proofs.lemmas.List.{append_assoc, get_or-append-add}
use Rattle.std.specs.Int.{int_max, int_min}
use Rattle.cf_tree.specs.CodeTree.{CodeTree, code_lit, code_truth, code_var, code_set_of, code_tuple, code_sum, code_sub, code_mul, code_neg, code_div, code_mod, code_min, code_max, code_compare, code_divides, code_and, code_or, code_not, code_union, code_inter, code_diff, code_subset, code_card, code_slice, code_fresh, code_if, code_let, code_solve, CodeTrees, no_codes, code_more, ItemTree, let_item, need_item, ItemTrees, no_items, item_more, ArmTree, arm_of, ArmTrees, no_arms, arm_more}
use Rattle.cf_tree.specs.Meaning.{Got, got, none_at, Path, gives_only, gives_truth, then_gives, then_peak, then_path, meets, meets_value, truth_in, number_in, set_in, choose_with, joined_with, if_some, or_later, path, all_path, set_path, sum_path, best_path, join_path, items_path, item_path, arms_path, arm_path, first_from, count_below, tuple_at, meets_all, outcome_of, means}
use Rattle.cf_tree.specs.Sets.{set_put, set_union, set_inter}
use Rattle.cf_tree.specs.Values.{Value, number}
use Rattle.cf_shift.specs.Shifted.{shifted, all_shifted, item_shifted, items_shifted, arm_shifted, arms_shifted}

-- ---- paths that are the same
then_same : {A B : Type 0} (p q : Path A) (go ko : A → Path B) → p ≡ q → ((x : A) → go x ≡ ko x) → then_path p go ≡ then_path q ko
then_same {A = A} {B = B} p q go ko e s = rw e (by q.gives q.peak)
  where
    by : (g : Got A) (k : ℕ) →
        ◌≡◌ {A = Path B} (record { gives = then_gives g (λ x. (go x).gives); peak = then_peak k g (λ x. (go x).peak) })
        (record { gives = then_gives g (λ x. (ko x).gives); peak = then_peak k g (λ x. (ko x).peak) })
    by (got x) k = ap (λ (r : Path B). record { gives = r.gives; peak = max k r.peak }) (s x)
    by (none_at n) k = refl

if_same : {A : Type 0} (t : Bool) (p q r s : Path A) → p ≡ r → q ≡ s → cond t p q ≡ cond t r s
if_same true p q r s h k = h
if_same false p q r s h k = k

later_same : (found : Option (List Value)) (p q : Path (Option (List Value))) → p ≡ q → or_later found p ≡ or_later found q
later_same None p q h = h
later_same (Some vs) p q h = refl

first_same : (n k : ℕ) (f g : ℕ → Path (Option (List Value))) → ((i : ℕ) → f i ≡ g i) → first_from n k f ≡ first_from n k g
first_same zero k f g h = refl
first_same (suc n) k f g h = then_same (f k) (g k) _ _ (h k)
    (λ found. later_same found (first_from n (suc k) f) (first_from n (suc k) g) (first_same n (suc k) f g h))

abbrev same_path : {A : Type 0} → Got A → ℕ → Path A
same_path g k = record { gives = g; peak = k }

module _ (front : List Value) where
  -- the environment that items lead to, behind the others
  abbrev behind_got : Got (Option (List Value)) → Got (Option (List Value))
  behind_got (got None) = got None
  behind_got (got (Some e)) = got (Some (front ++ e))
  behind_got (none_at n) = none_at n

  abbrev behind : Path (Option (List Value)) → Path (Option (List Value))
  behind p = record { gives = behind_got p.gives; peak = p.peak }

  let_behind : (p : Path (List Value)) (env : List Value) →
      then_path p (λ x. gives_only (Some ((front ++ env) ++ x))) ≡ behind (then_path p (λ x. gives_only (Some (env ++ x))))
  let_behind p env = by p.gives p.peak
    where
      by : (g : Got (List Value)) (k : ℕ) →
          then_path (same_path g k) (λ x. gives_only (Some ((front ++ env) ++ x))) ≡ behind (then_path (same_path g k) (λ x. gives_only (Some (env ++ x))))
      by (got x) k = ap (λ e. same_path (got (Some e)) (max k 0)) (append_assoc front env x)
      by (none_at n) k = refl

  need_behind : (p : Path (List Value)) (env : List Value) →
      then_path p (λ x. gives_only (cond (truth_in x) (Some (front ++ env)) None)) ≡ behind (then_path p (λ x. gives_only (cond (truth_in x) (Some env) None)))
  need_behind p env = by p.gives p.peak
    where
      on_truth : (t : Bool) (k : ℕ) → same_path (got (cond t (Some (front ++ env)) None)) k ≡ same_path (behind_got (got (cond t (Some env) None))) k
      on_truth true k = refl
      on_truth false k = refl

      by : (g : Got (List Value)) (k : ℕ) →
          then_path (same_path g k) (λ x. gives_only (cond (truth_in x) (Some (front ++ env)) None)) ≡ behind
          (then_path (same_path g k) (λ x. gives_only (cond (truth_in x) (Some env) None)))
      by (got x) k = on_truth (truth_in x) (max k 0)
      by (none_at n) k = refl

  more_behind : (p q : Path (Option (List Value))) (f k : List Value → Path (Option (List Value))) → p ≡ behind q →
      ((e : List Value) → f (front ++ e) ≡ behind (k e)) →
      then_path p (λ o. if_some o f) ≡ behind (then_path q (λ o. if_some o k))
  more_behind p q f k e s = rw e (by q.gives q.peak)
    where
      by : (h : Got (Option (List Value))) (m : ℕ) →
          then_path (behind (same_path h m)) (λ o. if_some o f) ≡ behind (then_path (same_path h m) (λ o. if_some o k))
      by (got None) m = refl
      by (got (Some e)) m = ap (λ (r : Path (Option (List Value))). same_path r.gives (max m r.peak)) (s e)
      by (none_at n) m = refl

  found_behind : (p q : Path (Option (List Value))) (f k : List Value → Path (Option (List Value))) → p ≡ behind q → ((e : List Value) → f (front ++ e) ≡ k e) →
      then_path p (λ o. if_some o f) ≡ then_path q (λ o. if_some o k)
  found_behind p q f k e s = rw e (by q.gives q.peak)
    where
      by : (h : Got (Option (List Value))) (m : ℕ) → then_path (behind (same_path h m)) (λ o. if_some o f) ≡ then_path (same_path h m) (λ o. if_some o k)
      by (got None) m = refl
      by (got (Some e)) m = ap (λ (r : Path (Option (List Value))). same_path r.gives (max m r.peak)) (s e)
      by (none_at n) m = refl

  mutual
    same : (c : CodeTree) (env : List Value) → path (shifted (length front) c) (front ++ env) ≡ path c env
    same (code_lit k) env = refl
    same (code_truth t) env = refl
    same (code_var x) env = ap meets_value (get_or-append-add front env x (number (pos 0)))
    same (code_set_of cs) env = set_same cs env []
    same (code_tuple cs) env = all_same cs env []
    same (code_sum cs) env = sum_same cs env (pos 0)
    same (code_min cs) env = best_same int_min cs env None
    same (code_max cs) env = best_same int_max cs env None
    same (code_union cs) env = join_same set_union cs env None
    same (code_inter cs) env = join_same set_inter cs env None
    same (code_neg a) env = then_same _ _ _ _ (same a env) (λ x. refl)
    same (code_div a k) env = then_same _ _ _ _ (same a env) (λ x. refl)
    same (code_mod a k) env = then_same _ _ _ _ (same a env) (λ x. refl)
    same (code_divides k a) env = then_same _ _ _ _ (same a env) (λ x. refl)
    same (code_not a) env = then_same _ _ _ _ (same a env) (λ x. refl)
    same (code_card a) env = then_same _ _ _ _ (same a env) (λ x. refl)
    same (code_sub a b) env = then_same _ _ _ _ (same a env) (λ x. then_same _ _ _ _ (same b env) (λ y. refl))
    same (code_mul a b) env = then_same _ _ _ _ (same a env) (λ x. then_same _ _ _ _ (same b env) (λ y. refl))
    same (code_compare o a b) env = then_same _ _ _ _ (same a env) (λ x. then_same _ _ _ _ (same b env) (λ y. refl))
    same (code_diff a b) env = then_same _ _ _ _ (same a env) (λ x. then_same _ _ _ _ (same b env) (λ y. refl))
    same (code_subset a b) env = then_same _ _ _ _ (same a env) (λ x. then_same _ _ _ _ (same b env) (λ y. refl))
    same (code_fresh a b) env = then_same _ _ _ _ (same a env) (λ x. then_same _ _ _ _ (same b env) (λ y. refl))
    same (code_and a b) env =
        then_same _ _ _ _ (same a env)
        (λ x. if_same (truth_in x) (path (shifted (length front) b) (front ++ env)) (gives_truth false) (path b env) (gives_truth false) (same b env) refl)
    same (code_or a b) env =
        then_same _ _ _ _ (same a env)
        (λ x. if_same (truth_in x) (gives_truth true) (path (shifted (length front) b) (front ++ env)) (gives_truth true) (path b env) refl (same b env))
    same (code_slice a b c) env =
        then_same _ _ _ _ (same a env) (λ x. then_same _ _ _ _ (same b env) (λ y. then_same _ _ _ _ (same c env) (λ z. refl)))
    same (code_if t a b) env =
        then_same _ _ _ _ (same t env)
        (λ x. if_same (truth_in x) (path (shifted (length front) a) (front ++ env)) (path (shifted (length front) b) (front ++ env)) (path a env)
        (path b env) (same a env) (same b env))
    same (code_let first n a b) env = then_same _ _ _ _ (same a env) (λ x. rw (append_assoc front env x) (same b (env ++ x)))
    same (code_solve n arms) env = then_same _ _ _ _ (arms_same arms env) (λ found. refl)

    all_same : (cs : CodeTrees) (env done : List Value) → all_path (all_shifted (length front) cs) (front ++ env) done ≡ all_path cs env done
    all_same no_codes env done = refl
    all_same (code_more c cs) env done = then_same _ _ _ _ (same c env) (λ x. all_same cs env (done ++ x))

    set_same : (cs : CodeTrees) (env : List Value) (done : List ℤ) → set_path (all_shifted (length front) cs) (front ++ env) done ≡ set_path cs env done
    set_same no_codes env done = refl
    set_same (code_more c cs) env done = then_same _ _ _ _ (same c env) (λ x. set_same cs env (set_put (number_in x) done))

    sum_same : (cs : CodeTrees) (env : List Value) (z : ℤ) → sum_path (all_shifted (length front) cs) (front ++ env) z ≡ sum_path cs env z
    sum_same no_codes env z = refl
    sum_same (code_more c cs) env z = then_same _ _ _ _ (same c env)
        (λ x. then_same (meets (z +ℤ number_in x)) (meets (z +ℤ number_in x)) (λ s. sum_path (all_shifted (length front) cs) (front ++ env) (number_in s))
        (λ s. sum_path cs env (number_in s)) refl (λ s. sum_same cs env (number_in s)))

    best_same : (better : ℤ → ℤ → ℤ) (cs : CodeTrees) (env : List Value) (z : Option ℤ) →
        best_path better (all_shifted (length front) cs) (front ++ env) z ≡ best_path better cs env z
    best_same better no_codes env z = refl
    best_same better (code_more c cs) env z = then_same _ _ _ _ (same c env) (λ x. best_same better cs env (Some (choose_with better z (number_in x))))

    join_same : (join : List ℤ → List ℤ → List ℤ) (cs : CodeTrees) (env : List Value) (zs : Option (List ℤ)) →
        join_path join (all_shifted (length front) cs) (front ++ env) zs ≡ join_path join cs env zs
    join_same join no_codes env zs = refl
    join_same join (code_more c cs) env zs = then_same _ _ _ _ (same c env) (λ x. join_same join cs env (Some (joined_with join zs (set_in x))))

    item_same : (i : ItemTree) (env : List Value) → item_path (item_shifted (length front) i) (front ++ env) ≡ behind (item_path i env)
    item_same (let_item c) env = then_same _ _ _ _ (same c env) (λ x. refl) ∙ let_behind (path c env) env
    item_same (need_item c) env = then_same _ _ _ _ (same c env) (λ x. refl) ∙ need_behind (path c env) env

    items_same : (is : ItemTrees) (env : List Value) → items_path (items_shifted (length front) is) (front ++ env) ≡ behind (items_path is env)
    items_same no_items env = refl
    items_same (item_more i is) env =
        more_behind _ _ (items_path (items_shifted (length front) is)) (items_path is) (item_same i env) (λ e. items_same is e)

    arm_same : (a : ArmTree) (env : List Value) → arm_path (arm_shifted (length front) a) (front ++ env) ≡ arm_path a env
    arm_same (arm_of bounds is gs) env =
        let give : List Value → Path (Option (List Value)) = λ e. then_path (all_path (all_shifted (length front) gs) e []) (λ vs. gives_only (Some vs)) in
        let give_same : List Value → Path (Option (List Value)) = λ e. then_path (all_path gs e []) (λ vs. gives_only (Some vs)) in
        let shifted_is = items_path (items_shifted (length front) is) in
        first_same (count_below bounds) 0 _ _ (λ i.
        then_same (meets_all (tuple_at bounds i)) (meets_all (tuple_at bounds i))
        (λ ks. then_path (shifted_is ((front ++ env) ++ ks)) (λ next. if_some next give))
        (λ ks. then_path (items_path is (env ++ ks)) (λ next. if_some next give_same)) refl
        (λ ks. found_behind (shifted_is ((front ++ env) ++ ks)) (items_path is (env ++ ks)) give give_same
        (rw (append_assoc front env ks) (items_same is (env ++ ks)))
        (λ e. then_same (all_path (all_shifted (length front) gs) (front ++ e) []) (all_path gs e []) (λ vs. gives_only (Some vs)) (λ vs. gives_only (Some vs))
        (all_same gs e []) (λ vs. refl))))

    arms_same : (arms : ArmTrees) (env : List Value) → arms_path (arms_shifted (length front) arms) (front ++ env) ≡ arms_path arms env
    arms_same no_arms env = refl
    arms_same (arm_more a arms) env =
        then_same _ _ _ _ (arm_same a env)
        (λ found. later_same found (arms_path (arms_shifted (length front) arms) (front ++ env)) (arms_path arms env) (arms_same arms env))

pub shifted_path : (front env : List Value) (c : CodeTree) → path (shifted (length front) c) (front ++ env) ≡ path c env
shifted_path front env c = same front c env

-- so it has the outcome that it has without them
pub shifted_means : (front env : List Value) (c : CodeTree) → means (shifted (length front) c) (front ++ env) ≡ means c env
shifted_means front env c = ap (λ (p : Path (List Value)). outcome_of p.gives) (same front c env)
