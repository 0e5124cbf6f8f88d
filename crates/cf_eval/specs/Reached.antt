-- What a run answers: it stops at the first number past the limit.
use Rattle.std.specs.Prelude.{◌≡◌, refl, ℕ, zero, suc, ℤ, pos, ◌-◌, ◌^◌, ◌+ℤ◌, ◌-ℤ◌, ◌*ℤ◌, neg_ℤ, nat_le, Bool, true, false, not, List, [], ◌∷◌, ◌++◌, length, Option, Some, None, if◌then◌else◌}
use Rattle.std.specs.Int.{int_max, int_min}
use Rattle.cf_num.specs.Limit.{within}
use Rattle.cf_tree.specs.CodeTree.{CodeTree, code_lit, code_truth, code_var, code_set_of, code_tuple, code_sum, code_sub, code_mul, code_neg, code_div, code_mod, code_min, code_max, code_compare, code_divides, code_and, code_or, code_not, code_union, code_inter, code_diff, code_subset, code_card, code_slice, code_fresh, code_if, code_let, code_solve, CodeTrees, no_codes, code_more, ItemTree, let_item, need_item, ItemTrees, no_items, item_more, ArmTree, arm_of, ArmTrees, no_arms, arm_more}
use Rattle.cf_tree.specs.Numbers.{quotient, remainder, is_multiple, count_of}
use Rattle.cf_tree.specs.Sets.{set_put, set_union, set_inter, set_diff, is_subset, set_slice, set_fresh}
use Rattle.cf_tree.specs.Values.{Value, number, truth, elements, number_of, truth_of, elements_of, value_at, first_of, compared}
use Rattle.cf_tree.specs.Meaning.{Path, Got, got, none_at, greatest, count_below, tuple_at, choose_with, chosen, joined_with, joined}

pub data Reached (A : Type 0) : Type 0 where
  given : A → Reached A
  none_from : ℕ → Reached A
  past : Reached A

abbrev pub reached_to : {A : Type 0} → Got A → Reached A
reached_to (got x) = given x
reached_to (none_at n) = none_from n

-- the reached where a way through code is known
abbrev pub reached_of : {A : Type 0} → Path A → Reached A
reached_of p = if nat_le p.peak (2 ^ 127 - 1) then reached_to p.gives else past

abbrev pub then_reached : {A B : Type 0} → Reached A → (A → Reached B) → Reached B
then_reached (given x) go = go x
then_reached (none_from n) go = none_from n
then_reached past go = past

-- what is given, seen in another way
abbrev pub seen : {A B : Type 0} → (A → B) → Reached A → Reached B
seen f (given x) = given (f x)
seen f (none_from n) = none_from n
seen f past = past

abbrev pub as_first : Reached (List Value) → Reached Value
as_first r = seen first_of r

abbrev pub as_number : Reached (List Value) → Reached ℤ
as_number r = seen number_of (as_first r)

abbrev pub as_truth : Reached (List Value) → Reached Bool
as_truth r = seen truth_of (as_first r)

abbrev pub as_set : Reached (List Value) → Reached (List ℤ)
as_set r = seen elements_of (as_first r)

-- a number that is met, or none where it is past the limit
abbrev pub met : Option ℤ → Reached (List Value)
met None = past
met (Some z) = given (number z ∷ [])

-- a set each of whose elements is met
abbrev pub met_set : List ℤ → Reached (List Value)
met_set zs = if nat_le (greatest zs) (2 ^ 127 - 1) then given (elements zs ∷ []) else past

abbrev pub gives_truth : Bool → Reached (List Value)
gives_truth b = given (truth b ∷ [])

abbrev pub gives_set : List ℤ → Reached (List Value)
gives_set zs = given (elements zs ∷ [])

abbrev pub or_later : Option (List Value) → Reached (Option (List Value)) → Reached (Option (List Value))
or_later None later = later
or_later (Some vs) later = given (Some vs)

abbrev pub or_none : ℕ → Option (List Value) → Reached (List Value)
or_none n None = none_from n
or_none n (Some vs) = given vs

-- the value, met where it is a number
abbrev pub met_value : Value → Reached (List Value)
met_value (number z) = met (within z)
met_value (truth b) = given (truth b ∷ [])
met_value (elements zs) = given (elements zs ∷ [])

abbrev pub first_reached : ℕ → ℕ → (ℕ → Reached (Option (List Value))) → Reached (Option (List Value))
first_reached zero k f = given None
first_reached (suc n) k f = then_reached (f k) (λ found. or_later found (first_reached n (suc k) f))

abbrev pub met_all : List ℕ → Reached (List Value)
met_all [] = given []
met_all (k ∷ ks) = then_reached (met (within (pos k))) (λ v. then_reached (met_all ks) (λ vs. given (v ++ vs)))

abbrev pub if_some : Option (List Value) → (List Value → Reached (Option (List Value))) → Reached (Option (List Value))
if_some None go = given None
if_some (Some env) go = go env

abbrev mutual
  pub reached : CodeTree → List Value → Reached (List Value)
  reached (code_lit k) env = met (within k)
  reached (code_truth t) env = gives_truth t
  reached (code_var x) env = met_value (value_at env x)
  reached (code_set_of cs) env = set_reached cs env []
  reached (code_tuple cs) env = all_reached cs env []
  reached (code_sum cs) env = sum_reached cs env (pos 0)
  reached (code_sub a b) env = then_reached (as_number (reached a env)) (λ x. then_reached (as_number (reached b env)) (λ y. met (within (x -ℤ y))))
  reached (code_mul a b) env = then_reached (as_number (reached a env)) (λ x. then_reached (as_number (reached b env)) (λ y. met (within (x *ℤ y))))
  reached (code_neg a) env = then_reached (as_number (reached a env)) (λ x. met (within (neg_ℤ x)))
  reached (code_div a k) env = then_reached (as_number (reached a env)) (λ x. met (within (quotient x k)))
  reached (code_mod a k) env = then_reached (as_number (reached a env)) (λ x. met (within (remainder x k)))
  reached (code_min cs) env = best_reached int_min cs env None
  reached (code_max cs) env = best_reached int_max cs env None
  reached (code_compare o a b) env = then_reached (as_first (reached a env)) (λ x. then_reached (as_first (reached b env)) (λ y. gives_truth (compared o x y)))
  reached (code_divides k a) env = then_reached (as_number (reached a env)) (λ x. gives_truth (is_multiple k x))
  reached (code_and a b) env = then_reached (as_truth (reached a env)) (λ x. if x then reached b env else gives_truth false)
  reached (code_or a b) env = then_reached (as_truth (reached a env)) (λ x. if x then gives_truth true else reached b env)
  reached (code_not a) env = then_reached (as_truth (reached a env)) (λ x. gives_truth (not x))
  reached (code_union cs) env = join_reached set_union cs env None
  reached (code_inter cs) env = join_reached set_inter cs env None
  reached (code_diff a b) env = then_reached (as_set (reached a env)) (λ x. then_reached (as_set (reached b env)) (λ y. gives_set (set_diff x y)))
  reached (code_subset a b) env = then_reached (as_set (reached a env)) (λ x. then_reached (as_set (reached b env)) (λ y. gives_truth (is_subset x y)))
  reached (code_card a) env = then_reached (as_set (reached a env)) (λ x. met (within (pos (length x))))
  reached (code_slice a b c) env =
      then_reached (as_set (reached a env)) (λ x. then_reached (as_number (reached b env)) (λ y. then_reached (as_number (reached c env)) (λ z.
      gives_set (set_slice x (count_of y) (count_of z)))))
  reached (code_fresh a b) env = then_reached (as_set (reached a env)) (λ x. then_reached (as_number (reached b env)) (λ y. met_set (set_fresh x (count_of y))))
  reached (code_if t a b) env = then_reached (as_truth (reached t env)) (λ x. if x then reached a env else reached b env)
  reached (code_let first count a b) env = then_reached (reached a env) (λ x. reached b (env ++ x))
  reached (code_solve n arms) env = then_reached (arms_reached arms env) (or_none n)

  pub all_reached : CodeTrees → List Value → List Value → Reached (List Value)
  all_reached no_codes env done = given done
  all_reached (code_more c cs) env done = then_reached (reached c env) (λ xs. all_reached cs env (done ++ xs))

  pub set_reached : CodeTrees → List Value → List ℤ → Reached (List Value)
  set_reached no_codes env done = gives_set done
  set_reached (code_more c cs) env done = then_reached (as_number (reached c env)) (λ x. set_reached cs env (set_put x done))

  pub sum_reached : CodeTrees → List Value → ℤ → Reached (List Value)
  sum_reached no_codes env z = given (number z ∷ [])
  sum_reached (code_more c cs) env z =
      then_reached (as_number (reached c env)) (λ x. then_reached (as_number (met (within (z +ℤ x)))) (λ s. sum_reached cs env s))

  pub best_reached : (ℤ → ℤ → ℤ) → CodeTrees → List Value → Option ℤ → Reached (List Value)
  best_reached better no_codes env z = met (within (chosen z))
  best_reached better (code_more c cs) env z = then_reached (as_number (reached c env)) (λ x. best_reached better cs env (Some (choose_with better z x)))

  pub join_reached : (List ℤ → List ℤ → List ℤ) → CodeTrees → List Value → Option (List ℤ) → Reached (List Value)
  join_reached join no_codes env zs = gives_set (joined zs)
  join_reached join (code_more c cs) env zs = then_reached (as_set (reached c env)) (λ x. join_reached join cs env (Some (joined_with join zs x)))

  pub items_reached : ItemTrees → List Value → Reached (Option (List Value))
  items_reached no_items env = given (Some env)
  items_reached (item_more i is) env = then_reached (item_reached i env) (λ next. if_some next (items_reached is))

  pub item_reached : ItemTree → List Value → Reached (Option (List Value))
  item_reached (let_item c) env = then_reached (reached c env) (λ x. given (Some (env ++ x)))
  item_reached (need_item c) env = then_reached (as_truth (reached c env)) (λ x. given (if x then Some env else None))

  pub arms_reached : ArmTrees → List Value → Reached (Option (List Value))
  arms_reached no_arms env = given None
  arms_reached (arm_more a arms) env = then_reached (arm_reached a env) (λ found. or_later found (arms_reached arms env))

  pub arm_reached : ArmTree → List Value → Reached (Option (List Value))
  arm_reached (arm_of bounds is gs) env =
      first_reached (count_below bounds) 0 (λ i.
      then_reached (met_all (tuple_at bounds i)) (λ ks.
      then_reached (items_reached is (env ++ ks)) (λ next.
      if_some next (λ e. then_reached (all_reached gs e []) (λ vs. given (Some vs))))))

-- one try of an arm, where its search values are bound
abbrev pub try_reached : ArmTree → List Value → Reached (Option (List Value))
try_reached (arm_of bounds is gs) env =
    then_reached (items_reached is env) (λ next. if_some next (λ e. then_reached (all_reached gs e []) (λ vs. given (Some vs))))

abbrev pub bounds_of : ArmTree → List ℕ
bounds_of (arm_of bounds is gs) = bounds

-- the tries of an arm from tuple number i on, n of them
abbrev pub tries_reached : ArmTree → List Value → ℕ → ℕ → Reached (Option (List Value))
tries_reached a env n i = first_reached n i (λ j. then_reached (met_all (tuple_at (bounds_of a) j)) (λ ks. try_reached a (env ++ ks)))

pub arm_reached_is : (a : ArmTree) (env : List Value) → arm_reached a env ≡ tries_reached a env (count_below (bounds_of a)) 0
arm_reached_is (arm_of bounds is gs) env = refl
