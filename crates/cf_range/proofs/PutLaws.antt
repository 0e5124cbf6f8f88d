-- A value in the place of a variable: codes answer alike.
use Rattle.std.proofs.Common.{◌≡◌, ◌≢◌, ◌<◌, ◌≤◌, ℕ, zero, suc, ◌-◌, nat_eq, nat_lt, ℤ, pos, ◌+ℤ◌, true, false, cond, Option, None, List, [], ◌∷◌, ◌++◌, length, slice_get, slice_index_or, ◌⊎◌, inl, inr, refl, sym, ap, subst, ◌∙◌, arith}
use Rattle.std.proofs.lemmas.Bool.Decides.{nat_tests}
use Rattle.std.proofs.lemmas.Bool.{cases_lt}
use Rattle.std.proofs.lemmas.List.{append_assoc}
use Rattle.cf_tree.specs.CodeTree.{CodeTree, code_lit, code_truth, code_var, code_set_of, code_tuple, code_sum, code_sub, code_mul, code_neg, code_div, code_mod, code_min, code_max, code_compare, code_divides, code_and, code_or, code_not, code_union, code_inter, code_diff, code_subset, code_card, code_slice, code_fresh, code_if, code_let, code_solve, CodeTrees, no_codes, code_more, let_item, need_item, ItemTrees, no_items, item_more, ArmTree, arm_of, ArmTrees, no_arms, arm_more}
use Rattle.cf_tree.specs.Meaning.{Path, path, all_path, set_path, sum_path, best_path, join_path, arms_path, arm_path, meets, meets_all, meets_value, tuple_at, count_below, gives_only, gives_truth, number_in, truth_in}
use Rattle.cf_tree.specs.Values.{Value, number, value_at}
use Rattle.cf_range.specs.Alike.{Alike}
use Rattle.cf_range.specs.Put.{fallen, var_put, put, all_put, items_put, arm_put, arms_put}
use Rattle.cf_range.proofs.AlikeLemmas.{alike_refl, alike_same, alike_then, alike_one, alike_two, alike_cond, alike_later, alike_first, either_code}
use Rattle.cf_range.proofs.RestLaws.{give_path, rest_path, give_alike, none_alike, lets_alike, needs_alike}

-- ---- levels
pub eq_means : (x y : ℕ) → nat_eq x y ≡ true → x ≡ y
eq_means x y e = grind (arith, nat_tests)

pub not_means : (x y : ℕ) → nat_eq x y ≡ false → x ≢ y
not_means x y e = grind (arith, nat_tests)

pub lt_means : (x y : ℕ) → nat_lt x y ≡ true → x < y
lt_means x y e = grind (arith, nat_tests)

pub fallen_above : (x y : ℕ) → x < y → fallen x y ≡ y - 1
fallen_above x y h = ap (λ b. cond b (y - 1) y) (below x y h)
  where
    below : (x y : ℕ) → x < y → nat_lt x y ≡ true
    below x y h = grind (arith, nat_tests)

pub fallen_below : (x y : ℕ) → y ≤ x → fallen x y ≡ y
fallen_below x y h = ap (λ b. cond b (y - 1) y) (above x y h)
  where
    above : (x y : ℕ) → y ≤ x → nat_lt x y ≡ false
    above x y h = grind (arith, nat_tests)

fallen_suc : (x y : ℕ) → fallen (suc x) (suc y) ≡ suc (fallen x y)
fallen_suc x y = by (cases_lt x y)
  where
    by : (x < y) ⊎ (y ≤ x) → fallen (suc x) (suc y) ≡ suc (fallen x y)
    by (inl h) =
        let k : suc x < suc y = omega (arith, h) in
        let m : suc y - 1 ≡ suc (y - 1) = omega (arith, h) in
        fallen_above (suc x) (suc y) k ∙ m ∙ ap suc (sym (fallen_above x y h))
    by (inr h) = let k : suc y ≤ suc x = omega (arith, h) in fallen_below (suc x) (suc y) k ∙ ap suc (sym (fallen_below x y h))

fallen_first : (y : ℕ) → fallen 0 (suc y) ≡ y
fallen_first y = let m : suc y - 1 ≡ y = omega arith in fallen_above 0 (suc y) (omega arith) ∙ m

fallen_zero : (x : ℕ) → fallen x 0 ≡ 0
fallen_zero x = fallen_below x 0 (omega arith)

-- an entry of a list, where another entry is left out
pub get_fallen : {A : Type 0} (front : List A) (v : A) (back : List A) (y : ℕ) → length front ≢ y →
    slice_get (front ++ back) (fallen (length front) y) ≡ slice_get (front ++ v ∷ back) y
get_fallen [] v back zero s = absurd (s refl)
get_fallen [] v back (suc y) s = ap (λ i. slice_get back i) (fallen_first y)
get_fallen (w ∷ front) v back zero s = ap (λ i. slice_get (w ∷ (front ++ back)) i) (fallen_zero (suc (length front)))
get_fallen (w ∷ front) v back (suc y) s =
    ap (λ i. slice_get (w ∷ (front ++ back)) i) (fallen_suc (length front) y) ∙ get_fallen front v back y (λ e. s (ap suc e))

get_or_fallen : {A : Type 0} (d : A) (front : List A) (v : A) (back : List A) (y : ℕ) → length front ≢ y →
    slice_index_or (front ++ back) (fallen (length front) y) d ≡ slice_index_or (front ++ v ∷ back) y d
get_or_fallen d [] v back zero s = absurd (s refl)
get_or_fallen d [] v back (suc y) s = ap (λ i. slice_index_or back i d) (fallen_first y)
get_or_fallen d (w ∷ front) v back zero s = ap (λ i. slice_index_or (w ∷ (front ++ back)) i d) (fallen_zero (suc (length front)))
get_or_fallen d (w ∷ front) v back (suc y) s =
    ap (λ i. slice_index_or (w ∷ (front ++ back)) i d) (fallen_suc (length front) y) ∙ get_or_fallen d front v back y (λ e. s (ap suc e))

-- the entry itself
pub get_here : {A : Type 0} (front : List A) (v : A) (back : List A) → slice_get (front ++ v ∷ back) (length front) ≡ slice_get (v ∷ []) 0
get_here [] v back = refl
get_here (w ∷ front) v back = get_here front v back

value_here : (front : List Value) (w : Value) (back : List Value) → value_at (front ++ w ∷ back) (length front) ≡ w
value_here [] w back = refl
value_here (u ∷ front) w back = value_here front w back

-- ---- codes. `stands` says that the value gives what the variable has, whatever is bound behind it.
module _ (front : List Value) (w : Value) (v : CodeTree) (stands : (back : List Value) → Alike (meets_value w) (path v (front ++ back))) where
  var_alike : (y : ℕ) (back : List Value) → Alike (path (code_var y) (front ++ w ∷ back)) (path (var_put (length front) v y) (front ++ back))
  var_alike y back = either_code (nat_eq (length front) y) (path (code_var y) (front ++ w ∷ back)) v (code_var (fallen (length front) y)) (front ++ back)
      (λ e. subst (λ i. Alike (meets_value (value_at (front ++ w ∷ back) i)) (path v (front ++ back))) (eq_means (length front) y e)
      (subst (λ u. Alike (meets_value u) (path v (front ++ back))) (sym (value_here front w back)) (stands back)))
      (λ e. alike_same (path (code_var y) (front ++ w ∷ back)) (path (code_var (fallen (length front) y)) (front ++ back))
      (ap meets_value (sym (get_or_fallen (number (pos 0)) front w back y (not_means (length front) y e)))))

  abbrev before : CodeTree → List Value → Path (List Value)
  before c back = path c (front ++ w ∷ back)

  abbrev after : CodeTree → List Value → Path (List Value)
  after c back = path (put (length front) v c) (front ++ back)

  -- behind more values
  deeper : (c d : CodeTree) (back x : List Value) → Alike (path c (front ++ w ∷ (back ++ x))) (path d (front ++ (back ++ x))) →
      Alike (path c ((front ++ w ∷ back) ++ x)) (path d ((front ++ back) ++ x))
  deeper c d back x h =
      subst (λ env. Alike (path c env) (path d ((front ++ back) ++ x))) (sym (append_assoc front (w ∷ back) x))
      (subst (λ env. Alike (path c (front ++ w ∷ (back ++ x))) (path d env)) (sym (append_assoc front back x)) h)

  rest_deeper : (is js : ItemTrees) (gs hs : CodeTrees) (back x : List Value) →
      Alike (rest_path is gs (front ++ w ∷ (back ++ x))) (rest_path js hs (front ++ (back ++ x))) →
      Alike (rest_path is gs ((front ++ w ∷ back) ++ x)) (rest_path js hs ((front ++ back) ++ x))
  rest_deeper is js gs hs back x h =
      subst (λ env. Alike (rest_path is gs env) (rest_path js hs ((front ++ back) ++ x))) (sym (append_assoc front (w ∷ back) x))
      (subst (λ env. Alike (rest_path is gs (front ++ w ∷ (back ++ x))) (rest_path js hs env)) (sym (append_assoc front back x)) h)

  mutual
    pub put_alike : (c : CodeTree) (back : List Value) → Alike (before c back) (after c back)
    put_alike (code_lit k) back = alike_refl (path (code_lit k) (front ++ back))
    put_alike (code_truth u) back = alike_refl (path (code_truth u) (front ++ back))
    put_alike (code_var y) back = var_alike y back
    put_alike (code_set_of cs) back = set_alike cs back []
    put_alike (code_tuple cs) back = all_alike cs back []
    put_alike (code_sum cs) back = parts_alike cs back (pos 0)
    put_alike (code_sub a b) back = alike_two (before a back) (after a back) (before b back) (after b back) _ (put_alike a back) (put_alike b back)
    put_alike (code_mul a b) back = alike_two (before a back) (after a back) (before b back) (after b back) _ (put_alike a back) (put_alike b back)
    put_alike (code_neg a) back = alike_one (before a back) (after a back) _ (put_alike a back)
    put_alike (code_div a k) back = alike_one (before a back) (after a back) _ (put_alike a back)
    put_alike (code_mod a k) back = alike_one (before a back) (after a back) _ (put_alike a back)
    put_alike (code_min cs) back = best_alike _ cs back None
    put_alike (code_max cs) back = best_alike _ cs back None
    put_alike (code_compare o a b) back = alike_two (before a back) (after a back) (before b back) (after b back) _ (put_alike a back) (put_alike b back)
    put_alike (code_divides k a) back = alike_one (before a back) (after a back) _ (put_alike a back)
    put_alike (code_and a b) back = alike_then (before a back) (after a back) _ _ (put_alike a back)
        (λ x e l. alike_cond (truth_in x) (before b back) (after b back) (gives_truth false) (gives_truth false) (put_alike b back) (alike_refl (gives_truth false)))
    put_alike (code_or a b) back = alike_then (before a back) (after a back) _ _ (put_alike a back)
        (λ x e l. alike_cond (truth_in x) (gives_truth true) (gives_truth true) (before b back) (after b back) (alike_refl (gives_truth true)) (put_alike b back))
    put_alike (code_not a) back = alike_one (before a back) (after a back) _ (put_alike a back)
    put_alike (code_union cs) back = join_alike _ cs back None
    put_alike (code_inter cs) back = join_alike _ cs back None
    put_alike (code_diff a b) back = alike_two (before a back) (after a back) (before b back) (after b back) _ (put_alike a back) (put_alike b back)
    put_alike (code_subset a b) back = alike_two (before a back) (after a back) (before b back) (after b back) _ (put_alike a back) (put_alike b back)
    put_alike (code_card a) back = alike_one (before a back) (after a back) _ (put_alike a back)
    put_alike (code_slice a b c) back = alike_then (before a back) (after a back) _ _ (put_alike a back)
        (λ x e l. alike_two (before b back) (after b back) (before c back) (after c back) _ (put_alike b back) (put_alike c back))
    put_alike (code_fresh a b) back = alike_two (before a back) (after a back) (before b back) (after b back) _ (put_alike a back) (put_alike b back)
    put_alike (code_if s a b) back = alike_then (before s back) (after s back) _ _ (put_alike s back)
        (λ x e l. alike_cond (truth_in x) (before a back) (after a back) (before b back) (after b back) (put_alike a back) (put_alike b back))
    put_alike (code_let first n a b) back = alike_then (before a back) (after a back) _ _ (put_alike a back)
        (λ x e l. deeper b (put (length front) v b) back x (put_alike b (back ++ x)))
    put_alike (code_solve n arms) back = alike_one (arms_path arms (front ++ w ∷ back)) (arms_path (arms_put (length front) v arms) (front ++ back)) _ (arms_alike arms back)

    all_alike : (cs : CodeTrees) (back done : List Value) → Alike (all_path cs (front ++ w ∷ back) done) (all_path (all_put (length front) v cs) (front ++ back) done)
    all_alike no_codes back done = alike_refl (gives_only done)
    all_alike (code_more c cs) back done = alike_then (before c back) (after c back) _ _ (put_alike c back)
        (λ x e l. all_alike cs back (done ++ x))

    set_alike : (cs : CodeTrees) (back : List Value) (done : List ℤ) →
        Alike (set_path cs (front ++ w ∷ back) done) (set_path (all_put (length front) v cs) (front ++ back) done)
    set_alike no_codes back done = alike_refl (set_path no_codes (front ++ back) done)
    set_alike (code_more c cs) back done = alike_then (before c back) (after c back) _ _ (put_alike c back)
        (λ x e l. set_alike cs back _)

    parts_alike : (cs : CodeTrees) (back : List Value) (z : ℤ) →
        Alike (sum_path cs (front ++ w ∷ back) z) (sum_path (all_put (length front) v cs) (front ++ back) z)
    parts_alike no_codes back z = alike_refl (sum_path no_codes (front ++ back) z)
    parts_alike (code_more c cs) back z = alike_then (before c back) (after c back) _ _ (put_alike c back)
        (λ x e l. alike_then (meets (z +ℤ number_in x)) (meets (z +ℤ number_in x)) _ _ (alike_refl (meets (z +ℤ number_in x)))
        (λ s f m. parts_alike cs back (number_in s)))

    best_alike : (better : ℤ → ℤ → ℤ) (cs : CodeTrees) (back : List Value) (z : Option ℤ) →
        Alike (best_path better cs (front ++ w ∷ back) z) (best_path better (all_put (length front) v cs) (front ++ back) z)
    best_alike better no_codes back z = alike_refl (best_path better no_codes (front ++ back) z)
    best_alike better (code_more c cs) back z = alike_then (before c back) (after c back) _ _ (put_alike c back)
        (λ x e l. best_alike better cs back _)

    join_alike : (join : List ℤ → List ℤ → List ℤ) (cs : CodeTrees) (back : List Value) (zs : Option (List ℤ)) →
        Alike (join_path join cs (front ++ w ∷ back) zs) (join_path join (all_put (length front) v cs) (front ++ back) zs)
    join_alike join no_codes back zs = alike_refl (join_path join no_codes (front ++ back) zs)
    join_alike join (code_more c cs) back zs = alike_then (before c back) (after c back) _ _ (put_alike c back)
        (λ x e l. join_alike join cs back _)

    items_alike : (is : ItemTrees) (gs hs : CodeTrees) → ((back : List Value) → Alike (give_path gs (front ++ w ∷ back)) (give_path hs (front ++ back))) →
        (back : List Value) → Alike (rest_path is gs (front ++ w ∷ back)) (rest_path (items_put (length front) v is) hs (front ++ back))
    items_alike no_items gs hs k back = none_alike gs hs (front ++ w ∷ back) (front ++ back) (k back)
    items_alike (item_more (let_item c) is) gs hs k back =
        lets_alike c (put (length front) v c) is (items_put (length front) v is) gs hs (front ++ w ∷ back) (front ++ back) (put_alike c back)
        (λ x e l. rest_deeper is (items_put (length front) v is) gs hs back x (items_alike is gs hs k (back ++ x)))
    items_alike (item_more (need_item c) is) gs hs k back =
        needs_alike c (put (length front) v c) is (items_put (length front) v is) gs hs (front ++ w ∷ back) (front ++ back)
        (put_alike c back) (items_alike is gs hs k back)

    arm_alike : (a : ArmTree) (back : List Value) → Alike (arm_path a (front ++ w ∷ back)) (arm_path (arm_put (length front) v a) (front ++ back))
    arm_alike (arm_of bounds is gs) back = alike_first (count_below bounds) 0 _ _ (λ i.
        alike_then (meets_all (tuple_at bounds i)) (meets_all (tuple_at bounds i)) _ _ (alike_refl (meets_all (tuple_at bounds i))) (λ ks e l.
        rest_deeper is (items_put (length front) v is) gs (all_put (length front) v gs) back ks
        (items_alike is gs (all_put (length front) v gs)
        (λ inner. give_alike gs (all_put (length front) v gs) (front ++ w ∷ inner) (front ++ inner) (all_alike gs inner [])) (back ++ ks))))

    arms_alike : (arms : ArmTrees) (back : List Value) → Alike (arms_path arms (front ++ w ∷ back)) (arms_path (arms_put (length front) v arms) (front ++ back))
    arms_alike no_arms back = alike_refl (arms_path no_arms (front ++ back))
    arms_alike (arm_more a arms) back =
        alike_then (arm_path a (front ++ w ∷ back)) (arm_path (arm_put (length front) v a) (front ++ back)) _ _ (arm_alike a back)
        (λ found e l. alike_later found (arms_path arms (front ++ w ∷ back)) (arms_path (arms_put (length front) v arms) (front ++ back)) (arms_alike arms back))

  pub rest_alike : (is : ItemTrees) (gs : CodeTrees) (back : List Value) →
      Alike (rest_path is gs (front ++ w ∷ back)) (rest_path (items_put (length front) v is) (all_put (length front) v gs) (front ++ back))
  rest_alike is gs back = items_alike is gs (all_put (length front) v gs)
      (λ inner. give_alike gs (all_put (length front) v gs) (front ++ w ∷ inner) (front ++ inner) (all_alike gs inner [])) back
