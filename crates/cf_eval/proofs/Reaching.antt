-- The reached to a way through code: it stops where the greatest number met passes the limit, and else is what is given.
use Rattle.std.proofs.Common.{◌≡◌, ℕ, zero, suc, ◌-◌, ◌^◌, ℤ, pos, ◌+ℤ◌, ◌-ℤ◌, ◌*ℤ◌, neg_ℤ, max, nat_le, cond, Bool, true, false, not, List, [], ◌∷◌, ◌++◌, length, Option, Some, None, refl, sym, ap, ◌∙◌, arith, unsigned_abs}
use Rattle.std.specs.Int.{int_max, int_min}
use Rattle.std.proofs.lemmas.Bool.Decides.{nat_tests}
use Rattle.cf_num.specs.Limit.{within}
use Rattle.cf_tree.specs.CodeTree.{CodeTree, code_lit, code_truth, code_var, code_set_of, code_tuple, code_sum, code_sub, code_mul, code_neg, code_div, code_mod, code_min, code_max, code_compare, code_divides, code_and, code_or, code_not, code_union, code_inter, code_diff, code_subset, code_card, code_slice, code_fresh, code_if, code_let, code_solve, CodeTrees, no_codes, code_more, ItemTree, let_item, need_item, ItemTrees, no_items, item_more, ArmTree, arm_of, ArmTrees, no_arms, arm_more}
use Rattle.cf_tree.specs.Numbers.{quotient, remainder, is_multiple, count_of}
use Rattle.cf_tree.specs.Sets.{set_put, set_union, set_inter, set_diff, is_subset, set_slice, set_fresh}
use Rattle.cf_tree.specs.Values.{Value, number, truth, elements, number_of, truth_of, elements_of, value_at, first_of, compared}
use Rattle.cf_tree.specs.Meaning.{Path, Got, got, none_at, then_path, meets, meets_set, gives_only, gives_truth as path_gives_truth, gives_set as path_gives_set, meets_value, meets_all, path, all_path, set_path, sum_path, best_path, join_path, items_path, item_path, arms_path, arm_path, first_from, if_some as path_if_some, or_later as path_or_later, or_none as path_or_none, number_in, set_in, chosen, choose_with, joined_with, count_below, tuple_at}
use Rattle.cf_eval.specs.Reached.{Reached, given, none_from, past, reached_to, reached_of, then_reached, seen, as_first, met, met_value, met_all, first_reached, if_some, or_later, or_none, reached, all_reached, set_reached, sum_reached, best_reached, join_reached, items_reached, item_reached, arms_reached, arm_reached}

max_test : {X : Type 0} (m a b : ℕ) (x y : X) → cond (nat_le (max a b) m) x y ≡ cond (nat_le a m) (cond (nat_le b m) x y) y
max_test m a b x y = grind (arith, nat_tests)

then_cond : {A B : Type 0} (t : Bool) (x : A) (go : A → Reached B) → then_reached (cond t (given x) past) go ≡ cond t (go x) past
then_cond true x go = refl
then_cond false x go = refl

none_cond : {A B : Type 0} (t : Bool) (n : ℕ) (go : A → Reached B) → cond t (none_from n) past ≡ then_reached (cond t (none_from n) past) go
none_cond true n go = refl
none_cond false n go = refl

bind_parts : {A B : Type 0} (g : Got A) (a : ℕ) (go : A → Path B) →
    reached_of (then_path (record { gives = g; peak = a }) go) ≡ then_reached (reached_of (record { gives = g; peak = a })) (λ x. reached_of (go x))
bind_parts (got x) a go = max_test (2 ^ 127 - 1) a (go x).peak (reached_to (go x).gives) past ∙
    sym (then_cond (nat_le a (2 ^ 127 - 1)) x (λ x. reached_of (go x)))
bind_parts (none_at n) a go = none_cond (nat_le a (2 ^ 127 - 1)) n (λ x. reached_of (go x))

then_same : {A B : Type 0} (r : Reached A) (f g : A → Reached B) → ((x : A) → f x ≡ g x) → then_reached r f ≡ then_reached r g
then_same (given x) f g e = e x
then_same (none_from n) f g e = refl
then_same past f g e = refl

bind_is : {A B : Type 0} (p : Path A) (r : Reached A) (go : A → Path B) (to : A → Reached B) → reached_of p ≡ r → ((x : A) → reached_of (go x) ≡ to x) →
    reached_of (then_path p go) ≡ then_reached r to
bind_is p r go to e h = bind_parts p.gives p.peak go ∙ ap (λ s. then_reached s (λ x. reached_of (go x))) e ∙ then_same r _ to h

-- what is given is used through its first value, as f sees it
seen_then : {A B : Type 0} (f : Value → A) (r : Reached (List Value)) (to : A → Reached B) →
    then_reached r (λ vs. to (f (first_of vs))) ≡ then_reached (seen f (as_first r)) to
seen_then f (given vs) to = refl
seen_then f (none_from n) to = refl
seen_then f past to = refl

first_then : {B : Type 0} (r : Reached (List Value)) (to : Value → Reached B) → then_reached r (λ vs. to (first_of vs)) ≡ then_reached (as_first r) to
first_then (given vs) to = refl
first_then (none_from n) to = refl
first_then past to = refl

seen_is : {A B : Type 0} (f : Value → A) (p : Path (List Value)) (r : Reached (List Value)) (go : A → Path B) (to : A → Reached B) → reached_of p ≡ r →
    ((z : A) → reached_of (go z) ≡ to z) →
    reached_of (then_path p (λ vs. go (f (first_of vs)))) ≡ then_reached (seen f (as_first r)) to
seen_is f p r go to e h = bind_is p r _ (λ vs. to (f (first_of vs))) e (λ vs. h _) ∙ seen_then f r to

value_is : {B : Type 0} (p : Path (List Value)) (r : Reached (List Value)) (go : Value → Path B) (to : Value → Reached B) → reached_of p ≡ r →
    ((v : Value) → reached_of (go v) ≡ to v) →
    reached_of (then_path p (λ vs. go (first_of vs))) ≡ then_reached (as_first r) to
value_is p r go to e h = bind_is p r _ (λ vs. to (first_of vs)) e (λ vs. h _) ∙ first_then r to

met_cond : (t : Bool) (z : ℤ) → cond t (given (number z ∷ [])) past ≡ met (cond t (Some z) None)
met_cond true z = refl
met_cond false z = refl

meets_is : (z : ℤ) → reached_of (meets z) ≡ met (within z)
meets_is z = met_cond (nat_le (unsigned_abs z) (2 ^ 127 - 1)) z

meets_value_is : (v : Value) → reached_of (meets_value v) ≡ met_value v
meets_value_is (number z) = meets_is z
meets_value_is (truth b) = refl
meets_value_is (elements zs) = refl

meets_all_is : (ks : List ℕ) → reached_of (meets_all ks) ≡ met_all ks
meets_all_is [] = refl
meets_all_is (k ∷ ks) = bind_is (meets (pos k)) _ _ _ (meets_is (pos k))
    (λ v. bind_is (meets_all ks) _ (λ vs. gives_only (v ++ vs)) _ (meets_all_is ks) (λ vs. refl))

if_is : {A : Type 0} (t : Bool) (p q : Path A) (r s : Reached A) → reached_of p ≡ r → reached_of q ≡ s → reached_of (cond t p q) ≡ cond t r s
if_is true p q r s e f = e
if_is false p q r s e f = f

if_some_is : (o : Option (List Value)) (go : List Value → Path (Option (List Value))) (to : List Value → Reached (Option (List Value))) →
    ((env : List Value) → reached_of (go env) ≡ to env) →
    reached_of (path_if_some o go) ≡ if_some o to
if_some_is None go to h = refl
if_some_is (Some env) go to h = h env

or_later_is : (o : Option (List Value)) (p : Path (Option (List Value))) (r : Reached (Option (List Value))) → reached_of p ≡ r →
    reached_of (path_or_later o p) ≡ or_later o r
or_later_is None p r e = e
or_later_is (Some vs) p r e = refl

or_none_is : (n : ℕ) (o : Option (List Value)) → reached_of (path_or_none n o) ≡ or_none n o
or_none_is n None = refl
or_none_is n (Some vs) = refl

first_is : (n k : ℕ) (f : ℕ → Path (Option (List Value))) (g : ℕ → Reached (Option (List Value))) → ((i : ℕ) → reached_of (f i) ≡ g i) →
    reached_of (first_from n k f) ≡ first_reached n k g
first_is zero k f g h = refl
first_is (suc n) k f g h = bind_is (f k) _ _ _ (h k) (λ found. or_later_is found _ _ (first_is n (suc k) f g h))

mutual
  pub reached_is : (c : CodeTree) (env : List Value) → reached_of (path c env) ≡ reached c env
  reached_is (code_lit k) env = meets_is k
  reached_is (code_truth t) env = refl
  reached_is (code_var x) env = meets_value_is (value_at env x)
  reached_is (code_set_of cs) env = set_is cs env []
  reached_is (code_tuple cs) env = all_is cs env []
  reached_is (code_sum cs) env = sum_is cs env (pos 0)
  reached_is (code_sub a b) env =
      seen_is number_of (path a env) _ (λ x. then_path (path b env) (λ y. meets (x -ℤ number_in y))) _ (reached_is a env)
      (λ x. seen_is number_of (path b env) _ (λ y. meets (x -ℤ y)) _ (reached_is b env) (λ y. meets_is (x -ℤ y)))
  reached_is (code_mul a b) env =
      seen_is number_of (path a env) _ (λ x. then_path (path b env) (λ y. meets (x *ℤ number_in y))) _ (reached_is a env)
      (λ x. seen_is number_of (path b env) _ (λ y. meets (x *ℤ y)) _ (reached_is b env) (λ y. meets_is (x *ℤ y)))
  reached_is (code_neg a) env = seen_is number_of (path a env) _ (λ x. meets (neg_ℤ x)) _ (reached_is a env) (λ x. meets_is (neg_ℤ x))
  reached_is (code_div a k) env = seen_is number_of (path a env) _ (λ x. meets (quotient x k)) _ (reached_is a env) (λ x. meets_is (quotient x k))
  reached_is (code_mod a k) env = seen_is number_of (path a env) _ (λ x. meets (remainder x k)) _ (reached_is a env) (λ x. meets_is (remainder x k))
  reached_is (code_min cs) env = best_is int_min cs env None
  reached_is (code_max cs) env = best_is int_max cs env None
  reached_is (code_compare o a b) env =
      value_is (path a env) _ (λ x. then_path (path b env) (λ y. path_gives_truth (compared o x (first_of y)))) _ (reached_is a env)
      (λ x. value_is (path b env) _ (λ y. path_gives_truth (compared o x y)) _ (reached_is b env) (λ y. refl))
  reached_is (code_divides k a) env = seen_is number_of (path a env) _ (λ x. path_gives_truth (is_multiple k x)) _ (reached_is a env) (λ x. refl)
  reached_is (code_and a b) env =
      seen_is truth_of (path a env) _ (λ x. cond x (path b env) (path_gives_truth false)) _ (reached_is a env)
      (λ x. if_is x _ _ _ _ (reached_is b env) refl)
  reached_is (code_or a b) env =
      seen_is truth_of (path a env) _ (λ x. cond x (path_gives_truth true) (path b env)) _ (reached_is a env)
      (λ x. if_is x (path_gives_truth true) (path b env) _ _ refl (reached_is b env))
  reached_is (code_not a) env = seen_is truth_of (path a env) _ (λ x. path_gives_truth (not x)) _ (reached_is a env) (λ x. refl)
  reached_is (code_union cs) env = join_is set_union cs env None
  reached_is (code_inter cs) env = join_is set_inter cs env None
  reached_is (code_diff a b) env =
      seen_is elements_of (path a env) _ (λ x. then_path (path b env) (λ y. path_gives_set (set_diff x (set_in y)))) _ (reached_is a env)
      (λ x. seen_is elements_of (path b env) _ (λ y. path_gives_set (set_diff x y)) _ (reached_is b env) (λ y. refl))
  reached_is (code_subset a b) env =
      seen_is elements_of (path a env) _ (λ x. then_path (path b env) (λ y. path_gives_truth (is_subset x (set_in y)))) _ (reached_is a env)
      (λ x. seen_is elements_of (path b env) _ (λ y. path_gives_truth (is_subset x y)) _ (reached_is b env) (λ y. refl))
  reached_is (code_card a) env = seen_is elements_of (path a env) _ (λ x. meets (pos (length x))) _ (reached_is a env) (λ x. meets_is (pos (length x)))
  reached_is (code_slice a b c) env =
      seen_is elements_of (path a env) _ (λ x. then_path (path b env)
      (λ y. then_path (path c env) (λ z. path_gives_set (set_slice x (count_of (number_in y)) (count_of (number_in z)))))) _ (reached_is a env)
      (λ x. seen_is number_of (path b env) _ (λ y. then_path (path c env) (λ z. path_gives_set (set_slice x (count_of y) (count_of (number_in z))))) _
      (reached_is b env)
      (λ y. seen_is number_of (path c env) _ (λ z. path_gives_set (set_slice x (count_of y) (count_of z))) _ (reached_is c env) (λ z. refl)))
  reached_is (code_fresh a b) env =
      seen_is elements_of (path a env) _ (λ x. then_path (path b env) (λ y. meets_set (set_fresh x (count_of (number_in y))))) _ (reached_is a env)
      (λ x. seen_is number_of (path b env) _ (λ y. meets_set (set_fresh x (count_of y))) _ (reached_is b env) (λ y. refl))
  reached_is (code_if t a b) env =
      seen_is truth_of (path t env) _ (λ x. cond x (path a env) (path b env)) _ (reached_is t env) (λ x. if_is x _ _ _ _ (reached_is a env) (reached_is b env))
  reached_is (code_let first count a b) env = bind_is (path a env) _ _ _ (reached_is a env) (λ x. reached_is b (env ++ x))
  reached_is (code_solve n arms) env = bind_is (arms_path arms env) _ _ _ (arms_is arms env) (or_none_is n)

  all_is : (cs : CodeTrees) (env done : List Value) → reached_of (all_path cs env done) ≡ all_reached cs env done
  all_is no_codes env done = refl
  all_is (code_more c cs) env done = bind_is (path c env) _ _ _ (reached_is c env) (λ xs. all_is cs env (done ++ xs))

  set_is : (cs : CodeTrees) (env : List Value) (done : List ℤ) → reached_of (set_path cs env done) ≡ set_reached cs env done
  set_is no_codes env done = refl
  set_is (code_more c cs) env done = seen_is number_of (path c env) _ (λ x. set_path cs env (set_put x done)) _ (reached_is c env)
      (λ x. set_is cs env (set_put x done))

  sum_is : (cs : CodeTrees) (env : List Value) (z : ℤ) → reached_of (sum_path cs env z) ≡ sum_reached cs env z
  sum_is no_codes env z = refl
  sum_is (code_more c cs) env z =
      seen_is number_of (path c env) _ (λ x. then_path (meets (z +ℤ x)) (λ s. sum_path cs env (number_in s))) _ (reached_is c env)
      (λ x. seen_is number_of (meets (z +ℤ x)) _ (sum_path cs env) _ (meets_is (z +ℤ x)) (λ s. sum_is cs env s))

  best_is : (better : ℤ → ℤ → ℤ) (cs : CodeTrees) (env : List Value) (z : Option ℤ) → reached_of (best_path better cs env z) ≡ best_reached better cs env z
  best_is better no_codes env z = meets_is (chosen z)
  best_is better (code_more c cs) env z =
      seen_is number_of (path c env) _ (λ x. best_path better cs env (Some (choose_with better z x))) _ (reached_is c env)
      (λ x. best_is better cs env (Some (choose_with better z x)))

  join_is : (join : List ℤ → List ℤ → List ℤ) (cs : CodeTrees) (env : List Value) (zs : Option (List ℤ)) →
      reached_of (join_path join cs env zs) ≡ join_reached join cs env zs
  join_is join no_codes env zs = refl
  join_is join (code_more c cs) env zs =
      seen_is elements_of (path c env) _ (λ x. join_path join cs env (Some (joined_with join zs x))) _ (reached_is c env)
      (λ x. join_is join cs env (Some (joined_with join zs x)))

  items_is : (is : ItemTrees) (env : List Value) → reached_of (items_path is env) ≡ items_reached is env
  items_is no_items env = refl
  items_is (item_more i is) env = bind_is (item_path i env) _ _ _ (item_is i env) (λ next. if_some_is next _ _ (items_is is))

  item_is : (i : ItemTree) (env : List Value) → reached_of (item_path i env) ≡ item_reached i env
  item_is (let_item c) env = bind_is (path c env) _ _ _ (reached_is c env) (λ x. refl)
  item_is (need_item c) env = seen_is truth_of (path c env) _ (λ x. gives_only (cond x (Some env) None)) _ (reached_is c env) (λ x. refl)

  arms_is : (arms : ArmTrees) (env : List Value) → reached_of (arms_path arms env) ≡ arms_reached arms env
  arms_is no_arms env = refl
  arms_is (arm_more a arms) env = bind_is (arm_path a env) _ _ _ (arm_is a env) (λ found. or_later_is found _ _ (arms_is arms env))

  arm_is : (a : ArmTree) (env : List Value) → reached_of (arm_path a env) ≡ arm_reached a env
  arm_is (arm_of bounds is gs) env =
      first_is (count_below bounds) 0 _ _ (λ i. bind_is (meets_all (tuple_at bounds i)) _ _ _ (meets_all_is (tuple_at bounds i))
      (λ ks. bind_is (items_path is (env ++ ks)) _ _ _ (items_is is (env ++ ks))
      (λ next. if_some_is next _ _ (λ e. bind_is (all_path gs e []) _ (λ vs. gives_only (Some vs)) _ (all_is gs e []) (λ vs. refl)))))
