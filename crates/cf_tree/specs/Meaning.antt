-- What target code means: its outcome, and the greatest absolute number that is met on the way.
--
-- Code that is not well typed has harmless values: a variable that is not bound and a value of another base count as 0,
-- as false or as the empty set.
use Rattle.std.specs.Prelude.{ℕ, zero, suc, ℤ, pos, ◌*◌, ◌/◌, ◌%◌, max, ◌+ℤ◌, ◌-ℤ◌, ◌*ℤ◌, neg_ℤ, unsigned_abs, Bool, true, false, not, List, [], ◌∷◌, ◌++◌, length, Option, Some, None, if◌then◌else◌}
use Rattle.std.specs.Int.{int_max, int_min}
use Rattle.cf_tree.specs.CodeTree.{CodeTree, code_lit, code_truth, code_var, code_set_of, code_tuple, code_sum, code_sub, code_mul, code_neg, code_div, code_mod, code_min, code_max, code_compare, code_divides, code_and, code_or, code_not, code_union, code_inter, code_diff, code_subset, code_card, code_slice, code_fresh, code_if, code_let, code_solve, CodeTrees, no_codes, code_more, ItemTree, let_item, need_item, ItemTrees, no_items, item_more, ArmTree, arm_of, ArmTrees, no_arms, arm_more}
use Rattle.cf_tree.specs.Numbers.{quotient, remainder, is_multiple, count_of}
use Rattle.cf_tree.specs.Sets.{set_put, set_union, set_inter, set_diff, is_subset, set_slice, set_fresh}
use Rattle.cf_tree.specs.Values.{Value, number, truth, elements, Outcome, values, no_solution, number_of, truth_of, elements_of, value_at, first_of, compared}

-- what a part gives: something, or the number of the solve that has no solution
pub data Got (A : Type 0) : Type 0 where
  got : A → Got A
  none_at : ℕ → Got A

-- a way through some code: what it gives, and the greatest absolute number met
pub record Path (A : Type 0) : Type 0 where
  pub gives : Got A
  pub peak : ℕ

abbrev pub gives_only : {A : Type 0} → A → Path A
gives_only x = record { gives = got x; peak = 0 }

abbrev pub no_solution_at : {A : Type 0} → ℕ → Path A
no_solution_at n = record { gives = none_at n; peak = 0 }

abbrev pub gives_truth : Bool → Path (List Value)
gives_truth b = gives_only (truth b ∷ [])

abbrev pub gives_set : List ℤ → Path (List Value)
gives_set zs = gives_only (elements zs ∷ [])

-- a number is met, and is the value
abbrev pub meets : ℤ → Path (List Value)
meets z = record { gives = got (number z ∷ []); peak = unsigned_abs z }

-- the greatest absolute value of the elements
abbrev pub greatest : List ℤ → ℕ
greatest [] = 0
greatest (z ∷ zs) = max (unsigned_abs z) (greatest zs)

-- each element of a set is met, and the set is the value
abbrev pub meets_set : List ℤ → Path (List Value)
meets_set zs = record { gives = got (elements zs ∷ []); peak = greatest zs }

abbrev pub then_gives : {A B : Type 0} → Got A → (A → Got B) → Got B
then_gives (got x) go = go x
then_gives (none_at n) go = none_at n

abbrev pub then_peak : {A : Type 0} → ℕ → Got A → (A → ℕ) → ℕ
then_peak p (got x) go = max p (go x)
then_peak p (none_at n) go = p

-- one way, and then another
abbrev pub then_path : {A B : Type 0} → Path A → (A → Path B) → Path B
then_path p go = record { gives = then_gives p.gives (λ x. (go x).gives); peak = then_peak p.peak p.gives (λ x. (go x).peak) }

-- the value, met where it is a number
abbrev pub meets_value : Value → Path (List Value)
meets_value (number z) = meets z
meets_value v = gives_only (v ∷ [])

abbrev pub number_in : List Value → ℤ
number_in vs = number_of (first_of vs)

abbrev pub truth_in : List Value → Bool
truth_in vs = truth_of (first_of vs)

abbrev pub set_in : List Value → List ℤ
set_in vs = elements_of (first_of vs)

-- what was found, or else what comes later
abbrev pub or_later : Option (List Value) → Path (Option (List Value)) → Path (Option (List Value))
or_later None later = later
or_later (Some vs) later = gives_only (Some vs)

-- goes on where there is an environment
abbrev pub if_some : Option (List Value) → (List Value → Path (Option (List Value))) → Path (Option (List Value))
if_some None go = gives_only None
if_some (Some env) go = go env

-- what was found, or else no solution at this number
abbrev pub or_none : ℕ → Option (List Value) → Path (List Value)
or_none n None = no_solution_at n
or_none n (Some vs) = gives_only vs

-- the first of the numbers from k on, n of them, at which a search succeeds
abbrev pub first_from : ℕ → ℕ → (ℕ → Path (Option (List Value))) → Path (Option (List Value))
first_from zero k f = gives_only None
first_from (suc n) k f = then_path (f k) (λ found. or_later found (first_from n (suc k) f))

-- how many tuples lie below the bounds
abbrev pub count_below : List ℕ → ℕ
count_below [] = 1
count_below (b ∷ bs) = b * count_below bs

-- tuple number i below the bounds, in lexicographic order
abbrev pub tuple_at : List ℕ → ℕ → List ℕ
tuple_at [] i = []
tuple_at (b ∷ bs) i = (i / count_below bs) ∷ tuple_at bs (i % count_below bs)

-- search values are met, and bound
abbrev pub meets_all : List ℕ → Path (List Value)
meets_all [] = gives_only []
meets_all (k ∷ ks) = then_path (meets (pos k)) (λ v. then_path (meets_all ks) (λ vs. gives_only (v ++ vs)))

-- the better of what was chosen so far and x
abbrev pub choose_with : (ℤ → ℤ → ℤ) → Option ℤ → ℤ → ℤ
choose_with better None x = x
choose_with better (Some z) x = better z x

abbrev pub chosen : Option ℤ → ℤ
chosen None = pos 0
chosen (Some z) = z

abbrev pub joined_with : (List ℤ → List ℤ → List ℤ) → Option (List ℤ) → List ℤ → List ℤ
joined_with join None xs = xs
joined_with join (Some zs) xs = join zs xs

abbrev pub joined : Option (List ℤ) → List ℤ
joined None = []
joined (Some zs) = zs

abbrev mutual
  -- the way through a code in an environment
  pub path : CodeTree → List Value → Path (List Value)
  path (code_lit k) env = meets k
  path (code_truth t) env = gives_truth t
  path (code_var x) env = meets_value (value_at env x)
  path (code_set_of cs) env = set_path cs env []
  path (code_tuple cs) env = all_path cs env []
  path (code_sum cs) env = sum_path cs env (pos 0)
  path (code_sub a b) env = then_path (path a env) (λ x. then_path (path b env) (λ y. meets (number_in x -ℤ number_in y)))
  path (code_mul a b) env = then_path (path a env) (λ x. then_path (path b env) (λ y. meets (number_in x *ℤ number_in y)))
  path (code_neg a) env = then_path (path a env) (λ x. meets (neg_ℤ (number_in x)))
  path (code_div a k) env = then_path (path a env) (λ x. meets (quotient (number_in x) k))
  path (code_mod a k) env = then_path (path a env) (λ x. meets (remainder (number_in x) k))
  path (code_min cs) env = best_path int_min cs env None
  path (code_max cs) env = best_path int_max cs env None
  path (code_compare o a b) env =
      then_path (path a env) (λ x. then_path (path b env) (λ y. gives_truth (compared o (first_of x) (first_of y))))
  path (code_divides k a) env = then_path (path a env) (λ x. gives_truth (is_multiple k (number_in x)))
  path (code_and a b) env = then_path (path a env) (λ x. if truth_in x then path b env else gives_truth false)
  path (code_or a b) env = then_path (path a env) (λ x. if truth_in x then gives_truth true else path b env)
  path (code_not a) env = then_path (path a env) (λ x. gives_truth (not (truth_in x)))
  path (code_union cs) env = join_path set_union cs env None
  path (code_inter cs) env = join_path set_inter cs env None
  path (code_diff a b) env = then_path (path a env) (λ x. then_path (path b env) (λ y. gives_set (set_diff (set_in x) (set_in y))))
  path (code_subset a b) env = then_path (path a env) (λ x. then_path (path b env) (λ y. gives_truth (is_subset (set_in x) (set_in y))))
  path (code_card a) env = then_path (path a env) (λ x. meets (pos (length (set_in x))))
  path (code_slice a b c) env =
      then_path (path a env) (λ x. then_path (path b env) (λ y. then_path (path c env) (λ z.
      gives_set (set_slice (set_in x) (count_of (number_in y)) (count_of (number_in z))))))
  path (code_fresh a b) env =
      then_path (path a env) (λ x. then_path (path b env) (λ y. meets_set (set_fresh (set_in x) (count_of (number_in y)))))
  path (code_if t a b) env = then_path (path t env) (λ x. if truth_in x then path a env else path b env)
  path (code_let first count a b) env = then_path (path a env) (λ x. path b (env ++ x))
  path (code_solve n arms) env = then_path (arms_path arms env) (λ found. or_none n found)

  -- these values, and then those of all, in order
  pub all_path : CodeTrees → List Value → List Value → Path (List Value)
  all_path no_codes env done = gives_only done
  all_path (code_more c cs) env done = then_path (path c env) (λ xs. all_path cs env (done ++ xs))

  -- these elements and the numbers of all
  pub set_path : CodeTrees → List Value → List ℤ → Path (List Value)
  set_path no_codes env done = gives_set done
  set_path (code_more c cs) env done = then_path (path c env) (λ x. set_path cs env (set_put (number_in x) done))

  -- the sum of z and all, each partial sum met
  pub sum_path : CodeTrees → List Value → ℤ → Path (List Value)
  sum_path no_codes env z = gives_only (number z ∷ [])
  sum_path (code_more c cs) env z =
      then_path (path c env) (λ x. then_path (meets (z +ℤ number_in x)) (λ s. sum_path cs env (number_in s)))

  -- the best of z and all
  pub best_path : (ℤ → ℤ → ℤ) → CodeTrees → List Value → Option ℤ → Path (List Value)
  best_path better no_codes env z = meets (chosen z)
  best_path better (code_more c cs) env z = then_path (path c env) (λ x. best_path better cs env (Some (choose_with better z (number_in x))))

  -- zs joined with the sets of all
  pub join_path : (List ℤ → List ℤ → List ℤ) → CodeTrees → List Value → Option (List ℤ) → Path (List Value)
  join_path join no_codes env zs = gives_set (joined zs)
  join_path join (code_more c cs) env zs = then_path (path c env) (λ x. join_path join cs env (Some (joined_with join zs (set_in x))))

  -- the environment after the lets, where all needs hold
  pub items_path : ItemTrees → List Value → Path (Option (List Value))
  items_path no_items env = gives_only (Some env)
  items_path (item_more i is) env = then_path (item_path i env) (λ next. if_some next (items_path is))

  pub item_path : ItemTree → List Value → Path (Option (List Value))
  item_path (let_item c) env = then_path (path c env) (λ x. gives_only (Some (env ++ x)))
  item_path (need_item c) env = then_path (path c env) (λ x. gives_only (if truth_in x then Some env else None))

  -- what the first arm gives whose needs hold at some tuple
  pub arms_path : ArmTrees → List Value → Path (Option (List Value))
  arms_path no_arms env = gives_only None
  arms_path (arm_more a arms) env = then_path (arm_path a env) (λ found. or_later found (arms_path arms env))

  -- what an arm gives at the first tuple at which its needs hold
  pub arm_path : ArmTree → List Value → Path (Option (List Value))
  arm_path (arm_of bounds is gs) env =
      first_from (count_below bounds) 0 (λ i.
      then_path (meets_all (tuple_at bounds i)) (λ ks.
      then_path (items_path is (env ++ ks)) (λ next.
      if_some next (λ e. then_path (all_path gs e []) (λ vs. gives_only (Some vs))))))

abbrev pub outcome_of : Got (List Value) → Outcome
outcome_of (got vs) = values vs
outcome_of (none_at n) = no_solution n

-- the outcome of a code in an environment
abbrev pub means : CodeTree → List Value → Outcome
means code env = outcome_of (path code env).gives

-- the greatest absolute number met on the way to it
abbrev pub peak : CodeTree → List Value → ℕ
peak code env = (path code env).peak
