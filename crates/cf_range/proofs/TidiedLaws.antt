-- What tidying makes of a code answers alike.
use Rattle.std.proofs.Common.{◌≡◌, ℕ, suc, nat_eq, ℤ, pos, ◌+ℤ◌, Bool, true, false, not, cond, ◌&&◌, Option, Some, None, List, [], ◌∷◌, ◌++◌, length, refl, sym, ap, subst, arith}
use Rattle.cf_tree.specs.CodeTree.{CodeTree, code_lit, code_truth, code_var, code_set_of, code_tuple, code_sum, code_sub, code_mul, code_neg, code_div, code_mod, code_min, code_max, code_compare, code_divides, code_and, code_or, code_not, code_union, code_inter, code_diff, code_subset, code_card, code_slice, code_fresh, code_if, code_let, code_solve, CodeTrees, no_codes, code_more, ItemTree, let_item, need_item, ItemTrees, no_items, item_more, ArmTree, arm_of, ArmTrees, no_arms, arm_more}
use Rattle.cf_tree.specs.Meaning.{Got, got, none_at, Path, then_gives, then_path, if_some, or_later, path, all_path, set_path, sum_path, best_path, join_path, items_path, item_path, arms_path, arm_path, meets, meets_all, tuple_at, count_below, gives_only, gives_truth, number_in, truth_in}
use Rattle.cf_tree.specs.Values.{Value}
use Rattle.cf_range.specs.declared.range.Range.{Range}
use Rattle.cf_range.specs.Alike.{Alike, AnswersAlike}
use Rattle.cf_range.specs.Tidied.{negation, product, nonzero, sum_of, tidied, all_tidied, item_tidied, items_tidied, arm_tidied, arms_tidied, always_holds, other_items, needs_nothing, always_gives, never_holds, begins_false, is_left, are_left, other_arms, entered, reached}
use Rattle.cf_range.specs.Settled.{settled}
use Rattle.cf_range.proofs.NumberLemmas.{on_bool}
use Rattle.cf_range.proofs.PutLaws.{eq_means}
use Rattle.cf_range.proofs.RestLaws.{give_path, rest_path}
use Rattle.cf_range.proofs.RowLaws.{negation_alike, product_alike, nonzero_alike, sum_alike}
use Rattle.cf_range.proofs.SettledLaws.{settled_answers}
use Rattle.cf_range.proofs.AlikeLemmas.{alike_refl, alike_trans, alike_then, alike_one, alike_two, alike_cond, alike_later, alike_some, alike_first, met_before}

-- ---- needs
no_truth : false ≡ true → ⊥
no_truth e = cc

and_true : (a b : Bool) → (a && b) ≡ true → (a ≡ true) × (b ≡ true)
and_true true b e = (refl, e)
and_true false b e = cc

always_is : (i : ItemTree) → always_holds i ≡ true → i ≡ need_item (code_truth true)
always_is (let_item c) e = cc
always_is (need_item (code_lit k)) e = cc
always_is (need_item (code_truth t)) e = ap (λ b. need_item (code_truth b)) e
always_is (need_item (code_var x)) e = cc
always_is (need_item (code_set_of cs)) e = cc
always_is (need_item (code_tuple cs)) e = cc
always_is (need_item (code_sum cs)) e = cc
always_is (need_item (code_sub a b)) e = cc
always_is (need_item (code_mul a b)) e = cc
always_is (need_item (code_neg a)) e = cc
always_is (need_item (code_div a k)) e = cc
always_is (need_item (code_mod a k)) e = cc
always_is (need_item (code_min cs)) e = cc
always_is (need_item (code_max cs)) e = cc
always_is (need_item (code_compare o a b)) e = cc
always_is (need_item (code_divides k a)) e = cc
always_is (need_item (code_and a b)) e = cc
always_is (need_item (code_or a b)) e = cc
always_is (need_item (code_not a)) e = cc
always_is (need_item (code_union cs)) e = cc
always_is (need_item (code_inter cs)) e = cc
always_is (need_item (code_diff a b)) e = cc
always_is (need_item (code_subset a b)) e = cc
always_is (need_item (code_card a)) e = cc
always_is (need_item (code_slice a b c)) e = cc
always_is (need_item (code_fresh a b)) e = cc
always_is (need_item (code_if t a b)) e = cc
always_is (need_item (code_let first count a b)) e = cc
always_is (need_item (code_solve n arms)) e = cc

others_alike : (is : ItemTrees) (env : List Value) → Alike (items_path is env) (items_path (other_items is) env)
others_alike no_items env = alike_refl (items_path no_items env)
others_alike (item_more i is) env =
    let js = other_items is in
    alike_trans (items_path (item_more i is) env) (items_path (item_more i js) env) (items_path (other_items (item_more i is)) env)
    (alike_then (item_path i env) (item_path i env) _ _ (alike_refl (item_path i env))
    (λ next e l. alike_some next (items_path is) (items_path js) (others_alike is)))
    (on_bool (always_holds i)
    (λ e. rw e (subst (λ k. Alike (items_path (item_more k js) env) (items_path js env)) (sym (always_is i e))
    (met_before 0 (items_path js env) (items_path js env) (omega arith) (alike_refl (items_path js env)))))
    (λ e. rw e (alike_refl (items_path (item_more i js) env))))

-- ---- an arm that always gives
abbrev Never : Path (Option (List Value)) → Type 0
Never p = p.gives ≡ got None → ⊥

some_not : (e : List Value) → got (Some e) ≡ got None → ⊥
some_not e h = cc

stop_not : (k : ℕ) (o : Option (List Value)) → none_at k ≡ got o → ⊥
stop_not k o h = cc

then_never : {A : Type 0} (p : Path A) (go : A → Path (Option (List Value))) → ((x : A) → p.gives ≡ got x → Never (go x)) → Never (then_path p go)
then_never {A = A} p go h = by p.gives (λ x e. h x e)
  where
    by : (g : Got A) → ((x : A) → g ≡ got x → Never (go x)) → then_gives g (λ x. (go x).gives) ≡ got None → ⊥
    by (got x) f e = f x refl e
    by (none_at n) f e = stop_not n None e

items_never : (is : ItemTrees) (env : List Value) → needs_nothing is ≡ true → Never (items_path is env)
items_never no_items env t = some_not env
items_never (item_more (let_item c) is) env t =
    then_never (item_path (let_item c) env) (λ next. if_some next (items_path is)) (λ o e. on_some (λ inner. items_never is inner t) o e)
  where
    on_some : ((inner : List Value) → Never (items_path is inner)) → (o : Option (List Value)) → (item_path (let_item c) env).gives ≡ got o →
        Never (if_some o (items_path is))
    on_some h None e = absurd (then_never (path c env) (λ x. gives_only (Some (env ++ x))) (λ x f. some_not (env ++ x)) e)
    on_some h (Some inner) e = h inner
items_never (item_more (need_item c) is) env t = absurd (no_truth t)

rest_never : (is : ItemTrees) (gs : CodeTrees) (env : List Value) → needs_nothing is ≡ true → Never (rest_path is gs env)
rest_never is gs env t = then_never (items_path is env) (λ next. if_some next (give_path gs)) on_next
  where
    on_next : (o : Option (List Value)) → (items_path is env).gives ≡ got o → Never (if_some o (give_path gs))
    on_next None e = absurd (items_never is env t e)
    on_next (Some inner) e = then_never (all_path gs inner []) (λ vs. gives_only (Some vs)) (λ vs f. some_not vs)

no_bounds : (n : ℕ) → nat_eq (suc n) 0 ≡ true → ⊥
no_bounds n e = let k = eq_means (suc n) 0 e in omega (arith, k)

-- an arm without searches
abbrev at_once : ItemTrees → CodeTrees → List Value → Path (Option (List Value))
at_once is gs env = then_path (meets_all (tuple_at [] 0)) (λ ks. rest_path is gs (env ++ ks))

at_once_never : (is : ItemTrees) (gs : CodeTrees) (env : List Value) → needs_nothing is ≡ true → Never (at_once is gs env)
at_once_never is gs env t = then_never (meets_all (tuple_at [] 0)) (λ ks. rest_path is gs (env ++ ks)) (λ ks f. rest_never is gs (env ++ ks) t)

arm_never : (a : ArmTree) (env : List Value) → always_gives a ≡ true → Never (arm_path a env)
arm_never (arm_of (b ∷ bounds) is gs) env t = absurd (no_bounds (length bounds) (and_true (nat_eq (length (b ∷ bounds)) 0) (needs_nothing is) t).0)
arm_never (arm_of [] is gs) env t = then_never (at_once is gs env) (λ o. or_later o (gives_only None)) on_found
  where
    on_found : (o : Option (List Value)) → (at_once is gs env).gives ≡ got o → Never (or_later o (gives_only None))
    on_found None e = absurd (at_once_never is gs env (and_true (nat_eq 0 0) (needs_nothing is) t).1 e)
    on_found (Some vs) e = some_not vs

reached_alike : (arms : ArmTrees) (env : List Value) → Alike (arms_path arms env) (arms_path (reached arms) env)
reached_alike no_arms env = alike_refl (arms_path no_arms env)
reached_alike (arm_more a arms) env = alike_then (arm_path a env) (arm_path a env) _ _ (alike_refl (arm_path a env))
    (λ o e l. by (always_gives a) o (λ t. on_found t o e) (reached_alike arms env))
  where
    on_found : always_gives a ≡ true → (o : Option (List Value)) → (arm_path a env).gives ≡ got o →
        Alike (or_later o (arms_path arms env)) (or_later o (arms_path no_arms env))
    on_found t None e = absurd (arm_never a env t e)
    on_found t (Some vs) e = alike_refl (gives_only (Some vs))

    by : (t : Bool) (o : Option (List Value)) → (t ≡ true → Alike (or_later o (arms_path arms env)) (or_later o (arms_path no_arms env))) →
        Alike (arms_path arms env) (arms_path (reached arms) env) → Alike (or_later o (arms_path arms env)) (or_later o (arms_path (cond t no_arms (reached arms)) env))
    by true o h k = h refl
    by false o h k = alike_later o (arms_path arms env) (arms_path (reached arms) env) k

-- ---- an arm that is left at once
is_false : (t : Bool) → not t ≡ true → t ≡ false
is_false true e = cc
is_false false e = refl

never_is : (i : ItemTree) → never_holds i ≡ true → i ≡ need_item (code_truth false)
never_is (let_item c) e = cc
never_is (need_item (code_lit k)) e = cc
never_is (need_item (code_truth t)) e = ap (λ b. need_item (code_truth b)) (is_false t e)
never_is (need_item (code_var x)) e = cc
never_is (need_item (code_set_of cs)) e = cc
never_is (need_item (code_tuple cs)) e = cc
never_is (need_item (code_sum cs)) e = cc
never_is (need_item (code_sub a b)) e = cc
never_is (need_item (code_mul a b)) e = cc
never_is (need_item (code_neg a)) e = cc
never_is (need_item (code_div a k)) e = cc
never_is (need_item (code_mod a k)) e = cc
never_is (need_item (code_min cs)) e = cc
never_is (need_item (code_max cs)) e = cc
never_is (need_item (code_compare o a b)) e = cc
never_is (need_item (code_divides k a)) e = cc
never_is (need_item (code_and a b)) e = cc
never_is (need_item (code_or a b)) e = cc
never_is (need_item (code_not a)) e = cc
never_is (need_item (code_union cs)) e = cc
never_is (need_item (code_inter cs)) e = cc
never_is (need_item (code_diff a b)) e = cc
never_is (need_item (code_subset a b)) e = cc
never_is (need_item (code_card a)) e = cc
never_is (need_item (code_slice a b c)) e = cc
never_is (need_item (code_fresh a b)) e = cc
never_is (need_item (code_if t a b)) e = cc
never_is (need_item (code_let first n a b)) e = cc
never_is (need_item (code_solve n arms)) e = cc

left_alike : (a : ArmTree) (arms others : ArmTrees) (env : List Value) → is_left a ≡ true → Alike (arms_path arms env) (arms_path others env) →
    Alike (arms_path (arm_more a arms) env) (arms_path others env)
left_alike (arm_of (b ∷ bounds) is gs) arms others env t h =
    absurd (no_bounds (length bounds) (and_true (nat_eq (length (b ∷ bounds)) 0) (begins_false is) t).0)
left_alike (arm_of [] no_items gs) arms others env t h = absurd (no_truth t)
left_alike (arm_of [] (item_more i is) gs) arms others env t h =
    subst (λ j. Alike (arms_path (arm_more (arm_of [] (item_more j is) gs) arms) env) (arms_path others env)) (sym (never_is i t))
    (met_before 0 (arms_path arms env) (arms_path others env) (omega arith) h)

either_arms : (t : Bool) (p : Path (Option (List Value))) (arms others : ArmTrees) (env : List Value) → (t ≡ true → Alike p (arms_path arms env)) →
    (t ≡ false → Alike p (arms_path others env)) → Alike p (arms_path (cond t arms others) env)
either_arms true p arms others env h k = h refl
either_arms false p arms others env h k = k refl

other_arms_alike : (arms : ArmTrees) (env : List Value) → Alike (arms_path arms env) (arms_path (other_arms arms) env)
other_arms_alike no_arms env = alike_refl (arms_path no_arms env)
other_arms_alike (arm_more a arms) env = either_arms (is_left a) (arms_path (arm_more a arms) env) (other_arms arms) (arm_more a (other_arms arms)) env
    (λ t. left_alike a arms (other_arms arms) env t (other_arms_alike arms env))
    (λ t. alike_then (arm_path a env) (arm_path a env) _ _ (alike_refl (arm_path a env))
    (λ found e l. alike_later found (arms_path arms env) (arms_path (other_arms arms) env) (other_arms_alike arms env)))

entered_alike : (arms : ArmTrees) (env : List Value) → Alike (arms_path arms env) (arms_path (entered arms) env)
entered_alike arms env = either_arms (are_left arms) (arms_path arms env) arms (other_arms arms) env
    (λ t. alike_refl (arms_path arms env)) (λ t. other_arms_alike arms env)

-- ---- all forms
mutual
  pub tidied_alike : (c : CodeTree) (env : List Value) → Alike (path c env) (path (tidied c) env)
  tidied_alike (code_lit k) env = alike_refl (path (code_lit k) env)
  tidied_alike (code_truth t) env = alike_refl (path (code_truth t) env)
  tidied_alike (code_var x) env = alike_refl (path (code_var x) env)
  tidied_alike (code_set_of cs) env = set_alike cs env []
  tidied_alike (code_tuple cs) env = all_alike cs env []
  tidied_alike (code_sum cs) env = alike_trans (path (code_sum cs) env) (path (code_sum (all_tidied cs)) env) (path (sum_of (nonzero (all_tidied cs))) env)
      (parts_alike cs env (pos 0))
      (alike_trans (path (code_sum (all_tidied cs)) env) (path (code_sum (nonzero (all_tidied cs))) env) (path (sum_of (nonzero (all_tidied cs))) env)
      (nonzero_alike (all_tidied cs) env (pos 0) (omega arith)) (sum_alike (nonzero (all_tidied cs)) env))
  tidied_alike (code_sub a b) env = alike_two (path a env) (path (tidied a) env) (path b env) (path (tidied b) env) _ (tidied_alike a env) (tidied_alike b env)
  tidied_alike (code_mul a b) env = alike_trans (path (code_mul a b) env) (path (code_mul (tidied a) (tidied b)) env)
      (path (product (tidied a) (tidied b)) env)
      (alike_two (path a env) (path (tidied a) env) (path b env) (path (tidied b) env) _ (tidied_alike a env) (tidied_alike b env))
      (product_alike (tidied a) (tidied b) env)
  tidied_alike (code_neg a) env = alike_trans (path (code_neg a) env) (path (code_neg (tidied a)) env) (path (negation (tidied a)) env)
      (alike_one (path a env) (path (tidied a) env) _ (tidied_alike a env)) (negation_alike (tidied a) env)
  tidied_alike (code_div a k) env = alike_one (path a env) (path (tidied a) env) _ (tidied_alike a env)
  tidied_alike (code_mod a k) env = alike_one (path a env) (path (tidied a) env) _ (tidied_alike a env)
  tidied_alike (code_min cs) env = best_alike _ cs env None
  tidied_alike (code_max cs) env = best_alike _ cs env None
  tidied_alike (code_compare o a b) env = alike_two (path a env) (path (tidied a) env) (path b env) (path (tidied b) env) _ (tidied_alike a env) (tidied_alike b env)
  tidied_alike (code_divides k a) env = alike_one (path a env) (path (tidied a) env) _ (tidied_alike a env)
  tidied_alike (code_and a b) env = alike_then (path a env) (path (tidied a) env) _ _ (tidied_alike a env)
      (λ x e l. alike_cond (truth_in x) (path b env) (path (tidied b) env) (gives_truth false) (gives_truth false) (tidied_alike b env) (alike_refl (gives_truth false)))
  tidied_alike (code_or a b) env = alike_then (path a env) (path (tidied a) env) _ _ (tidied_alike a env)
      (λ x e l. alike_cond (truth_in x) (gives_truth true) (gives_truth true) (path b env) (path (tidied b) env) (alike_refl (gives_truth true)) (tidied_alike b env))
  tidied_alike (code_not a) env = alike_one (path a env) (path (tidied a) env) _ (tidied_alike a env)
  tidied_alike (code_union cs) env = join_alike _ cs env None
  tidied_alike (code_inter cs) env = join_alike _ cs env None
  tidied_alike (code_diff a b) env = alike_two (path a env) (path (tidied a) env) (path b env) (path (tidied b) env) _ (tidied_alike a env) (tidied_alike b env)
  tidied_alike (code_subset a b) env = alike_two (path a env) (path (tidied a) env) (path b env) (path (tidied b) env) _ (tidied_alike a env) (tidied_alike b env)
  tidied_alike (code_card a) env = alike_one (path a env) (path (tidied a) env) _ (tidied_alike a env)
  tidied_alike (code_slice a b c) env = alike_then (path a env) (path (tidied a) env) _ _ (tidied_alike a env)
      (λ x e l. alike_two (path b env) (path (tidied b) env) (path c env) (path (tidied c) env) _ (tidied_alike b env) (tidied_alike c env))
  tidied_alike (code_fresh a b) env = alike_two (path a env) (path (tidied a) env) (path b env) (path (tidied b) env) _ (tidied_alike a env) (tidied_alike b env)
  tidied_alike (code_if t a b) env = alike_then (path t env) (path (tidied t) env) _ _ (tidied_alike t env)
      (λ x e l. alike_cond (truth_in x) (path a env) (path (tidied a) env) (path b env) (path (tidied b) env) (tidied_alike a env) (tidied_alike b env))
  tidied_alike (code_let first count a b) env = alike_then (path a env) (path (tidied a) env) _ _ (tidied_alike a env) (λ x e l. tidied_alike b (env ++ x))
  tidied_alike (code_solve n arms) env = alike_one (arms_path arms env) (arms_path (reached (entered (arms_tidied arms))) env) _
      (alike_trans (arms_path arms env) (arms_path (arms_tidied arms) env) (arms_path (reached (entered (arms_tidied arms))) env) (arms_alike arms env)
      (alike_trans (arms_path (arms_tidied arms) env) (arms_path (entered (arms_tidied arms)) env) (arms_path (reached (entered (arms_tidied arms))) env)
      (entered_alike (arms_tidied arms) env) (reached_alike (entered (arms_tidied arms)) env)))

  all_alike : (cs : CodeTrees) (env done : List Value) → Alike (all_path cs env done) (all_path (all_tidied cs) env done)
  all_alike no_codes env done = alike_refl (gives_only done)
  all_alike (code_more c cs) env done = alike_then (path c env) (path (tidied c) env) _ _ (tidied_alike c env) (λ x e l. all_alike cs env (done ++ x))

  set_alike : (cs : CodeTrees) (env : List Value) (done : List ℤ) → Alike (set_path cs env done) (set_path (all_tidied cs) env done)
  set_alike no_codes env done = alike_refl (set_path no_codes env done)
  set_alike (code_more c cs) env done = alike_then (path c env) (path (tidied c) env) _ _ (tidied_alike c env) (λ x e l. set_alike cs env _)

  parts_alike : (cs : CodeTrees) (env : List Value) (z : ℤ) → Alike (sum_path cs env z) (sum_path (all_tidied cs) env z)
  parts_alike no_codes env z = alike_refl (sum_path no_codes env z)
  parts_alike (code_more c cs) env z = alike_then (path c env) (path (tidied c) env) _ _ (tidied_alike c env)
      (λ x e l. alike_then (meets (z +ℤ number_in x)) (meets (z +ℤ number_in x)) _ _ (alike_refl (meets (z +ℤ number_in x)))
      (λ s f m. parts_alike cs env (number_in s)))

  best_alike : (better : ℤ → ℤ → ℤ) (cs : CodeTrees) (env : List Value) (z : Option ℤ) →
      Alike (best_path better cs env z) (best_path better (all_tidied cs) env z)
  best_alike better no_codes env z = alike_refl (best_path better no_codes env z)
  best_alike better (code_more c cs) env z = alike_then (path c env) (path (tidied c) env) _ _ (tidied_alike c env) (λ x e l. best_alike better cs env _)

  join_alike : (join : List ℤ → List ℤ → List ℤ) (cs : CodeTrees) (env : List Value) (zs : Option (List ℤ)) →
      Alike (join_path join cs env zs) (join_path join (all_tidied cs) env zs)
  join_alike join no_codes env zs = alike_refl (join_path join no_codes env zs)
  join_alike join (code_more c cs) env zs = alike_then (path c env) (path (tidied c) env) _ _ (tidied_alike c env) (λ x e l. join_alike join cs env _)

  item_alike : (i : ItemTree) (env : List Value) → Alike (item_path i env) (item_path (item_tidied i) env)
  item_alike (let_item c) env = alike_one (path c env) (path (tidied c) env) _ (tidied_alike c env)
  item_alike (need_item c) env = alike_one (path c env) (path (tidied c) env) _ (tidied_alike c env)

  items_alike : (is : ItemTrees) (env : List Value) → Alike (items_path is env) (items_path (items_tidied is) env)
  items_alike no_items env = alike_refl (items_path no_items env)
  items_alike (item_more i is) env = alike_then (item_path i env) (item_path (item_tidied i) env) _ _ (item_alike i env)
      (λ next e l. alike_some next (items_path is) (items_path (items_tidied is)) (items_alike is))

  arm_alike : (a : ArmTree) (env : List Value) → Alike (arm_path a env) (arm_path (arm_tidied a) env)
  arm_alike (arm_of bounds is gs) env = alike_first (count_below bounds) 0 _ _ (λ i.
      alike_then (meets_all (tuple_at bounds i)) (meets_all (tuple_at bounds i)) _ _ (alike_refl (meets_all (tuple_at bounds i))) (λ ks e l.
      alike_then (items_path is (env ++ ks)) (items_path (other_items (items_tidied is)) (env ++ ks)) _ _
      (alike_trans (items_path is (env ++ ks)) (items_path (items_tidied is) (env ++ ks)) (items_path (other_items (items_tidied is)) (env ++ ks))
      (items_alike is (env ++ ks)) (others_alike (items_tidied is) (env ++ ks)))
      (λ next f m. alike_some next _ _ (λ inner. alike_one (all_path gs inner []) (all_path (all_tidied gs) inner []) _ (all_alike gs inner [])))))

  arms_alike : (arms : ArmTrees) (env : List Value) → Alike (arms_path arms env) (arms_path (arms_tidied arms) env)
  arms_alike no_arms env = alike_refl (arms_path no_arms env)
  arms_alike (arm_more a arms) env = alike_then (arm_path a env) (arm_path (arm_tidied a) env) _ _ (arm_alike a env)
      (λ found e l. alike_later found (arms_path arms env) (arms_path (arms_tidied arms) env) (arms_alike arms env))

pub tidied_answers : (rs : List Range) (c : CodeTree) → AnswersAlike rs c (tidied c)
tidied_answers rs c env lie = tidied_alike c env

-- ---- one after another
pub both_answer : (rs : List Range) (a b c : CodeTree) → AnswersAlike rs a b → AnswersAlike rs b c → AnswersAlike rs a c
both_answer rs a b c h k env lie = alike_trans (path a env) (path b env) (path c env) (h env lie) (k env lie)

pub once_answers : (rs : List Range) (a b c : CodeTree) → b ≡ settled rs a → c ≡ tidied b → AnswersAlike rs a c
once_answers rs a b c e f = both_answer rs a b c (subst (AnswersAlike rs a) (sym e) (settled_answers rs a)) (subst (AnswersAlike rs b) (sym f) (tidied_answers rs b))
