-- What the forms of literals are folded to, part by part.
use Rattle.std.proofs.Common.{◌≡◌, ℕ, ◌-◌, ◌^◌, max, nat_le, cond, ℤ, pos, ◌+ℤ◌, ◌-ℤ◌, ◌*ℤ◌, neg_ℤ, unsigned_abs, Bool, true, false, not, ◌&&◌, List, [], ◌∷◌, Option, Some, None, is_some, option_map, unwrap_or, refl, sym, ap, ◌∙◌, arith}
use Rattle.std.specs.Int.{int_max, int_min}
use Rattle.std.proofs.lemmas.Bool.Decides.{nat_tests}
use Rattle.cf_num.specs.Limit.{within}
use Rattle.cf_tree.specs.declared.base.Order.{Order}
use Rattle.cf_tree.specs.CodeTree.{CodeTree, code_lit, code_truth, code_var, code_set_of, code_tuple, code_sum, code_sub, code_mul, code_neg, code_div, code_mod, code_min, code_max, code_compare, code_divides, code_and, code_or, code_not, code_union, code_inter, code_diff, code_subset, code_card, code_slice, code_fresh, code_if, code_let, code_solve, CodeTrees, no_codes, code_more}
use Rattle.cf_tree.specs.Meaning.{got, Path, then_path, meets, gives_truth, path, sum_path, best_path, number_in, truth_in, choose_with, chosen}
use Rattle.cf_tree.specs.Numbers.{quotient, remainder, is_multiple}
use Rattle.cf_tree.specs.Values.{Value, number, truth, elements, number_of, truth_of, first_of, compared}
use Rattle.cf_pass.specs.Folding.{literal_value, is_literal, are_literals, is_of_literals, single, kept_value, folded_value, literal_of, fold_form, fold_units}
use Rattle.cf_pass.specs.Literals.{then_some, limited_number, limited, met_value, of_two, difference_of, product_of, negated_of, quotient_of, remainder_of, comparison_of, multiple_of, conjunction_of, disjunction_of, negation_of, sum_of, best_of, form_value}

-- the greatest number met where a value is
abbrev pub size_of : Value → ℕ
size_of (number z) = unsigned_abs z
size_of v = 0

abbrev pub value_path : Value → Path (List Value)
value_path v = record { gives = got (v ∷ []); peak = size_of v }

-- a literal's value is met in each environment
pub literal_path : (c : CodeTree) (v : Value) → literal_value c ≡ Some v → (env : List Value) → path c env ≡ value_path v
literal_path (code_lit k) v e env = let s : v ≡ number k = cc in rw s refl
literal_path (code_truth t) v e env = let s : v ≡ truth t = cc in rw s refl
literal_path (code_var x) v e env = absurd cc
literal_path (code_set_of cs) v e env = absurd cc
literal_path (code_tuple cs) v e env = absurd cc
literal_path (code_sum cs) v e env = absurd cc
literal_path (code_sub a b) v e env = absurd cc
literal_path (code_mul a b) v e env = absurd cc
literal_path (code_neg a) v e env = absurd cc
literal_path (code_div a k) v e env = absurd cc
literal_path (code_mod a k) v e env = absurd cc
literal_path (code_min cs) v e env = absurd cc
literal_path (code_max cs) v e env = absurd cc
literal_path (code_compare o a b) v e env = absurd cc
literal_path (code_divides k a) v e env = absurd cc
literal_path (code_and a b) v e env = absurd cc
literal_path (code_or a b) v e env = absurd cc
literal_path (code_not a) v e env = absurd cc
literal_path (code_union cs) v e env = absurd cc
literal_path (code_inter cs) v e env = absurd cc
literal_path (code_diff a b) v e env = absurd cc
literal_path (code_subset a b) v e env = absurd cc
literal_path (code_card a) v e env = absurd cc
literal_path (code_slice a b c) v e env = absurd cc
literal_path (code_fresh a b) v e env = absurd cc
literal_path (code_if a b c) v e env = absurd cc
literal_path (code_let n m a b) v e env = absurd cc
literal_path (code_solve n arms) v e env = absurd cc

-- goes on with a literal's value that is within the limit
abbrev fits : Value → Bool
fits v = nat_le (size_of v) (2 ^ 127 - 1)

max_test : {X : Type 0} (m a b : ℕ) (x y : X) → cond (nat_le (max a b) m) x y ≡ cond (nat_le a m) (cond (nat_le b m) x y) y
max_test m a b x y = grind (arith, nat_tests)

kept_then : (v : Value) (go : List Value → Path (List Value)) → kept_value (then_path (value_path v) go) ≡ cond (fits v) (kept_value (go (v ∷ []))) None
kept_then v go = max_test (2 ^ 127 - 1) (size_of v) (go (v ∷ [])).peak (single (go (v ∷ [])).gives) None

turn : {A : Type 0} (t u : Bool) (o : Option A) → cond t (cond u o None) None ≡ cond u (cond t o None) None
turn true u o = refl
turn false true o = refl
turn false false o = refl

met_number : {A : Type 0} (t : Bool) (z : ℤ) (go : Value → Option A) → cond t (go (number z)) None ≡ then_some (option_map number (cond t (Some z) None)) go
met_number true z go = refl
met_number false z go = refl

met_then : {A : Type 0} (v : Value) (go : Value → Option A) → cond (fits v) (go v) None ≡ then_some (limited v) go
met_then (number z) go = met_number (nat_le (unsigned_abs z) (2 ^ 127 - 1)) z go
met_then (truth b) go = refl
met_then (elements zs) go = refl

none_either : {A : Type 0} (u : Bool) → ◌≡◌ {A = Option A} (cond u None None) None
none_either true = refl
none_either false = refl

kept_cond : (t : Bool) (z : ℤ) → cond t (Some (number z)) None ≡ option_map number (cond t (Some z) None)
kept_cond true z = refl
kept_cond false z = refl

meets_kept : (z : ℤ) → kept_value (meets z) ≡ limited_number z
meets_kept z = kept_cond (nat_le (unsigned_abs z) (2 ^ 127 - 1)) z

same_then : {A B : Type 0} (o : Option A) (f g : A → Option B) → ((x : A) → f x ≡ g x) → then_some o f ≡ then_some o g
same_then None f g h = refl
same_then (Some x) f g h = h x

-- the value of a form of literals in an environment, where no number met passes the limit
abbrev pub value_in : List Value → CodeTree → Option Value
value_in env c = cond (is_of_literals c) (kept_value (path c env)) None

module _ (env : List Value) where
  -- one part, and then what more has to be of literals
  part_then : (c : CodeTree) (more : Bool) (go : List Value → Path (List Value)) →
      cond (is_literal c && more) (kept_value (then_path (path c env) go)) None ≡ then_some (met_value c) (λ v. cond more (kept_value (go (v ∷ []))) None)
  part_then c more go = by (literal_value c) refl
    where
      by : (o : Option Value) → literal_value c ≡ o →
          cond (is_some (literal_value c) && more) (kept_value (then_path (path c env) go)) None
          ≡ then_some (then_some (literal_value c) limited) (λ v. cond more (kept_value (go (v ∷ []))) None)
      by None e = rw e refl
      by (Some v) e =
          rw (e, literal_path c v e env, kept_then v go)
          (turn more (fits v) (kept_value (go (v ∷ []))) ∙ met_then v (λ v. cond more (kept_value (go (v ∷ []))) None))

  -- the last part
  last_then : (c : CodeTree) (go : List Value → Path (List Value)) →
      cond (is_literal c) (kept_value (then_path (path c env) go)) None ≡ then_some (met_value c) (λ v. kept_value (go (v ∷ [])))
  last_then c go = by (literal_value c) refl
    where
      by : (o : Option Value) → literal_value c ≡ o →
          cond (is_some (literal_value c)) (kept_value (then_path (path c env) go)) None
          ≡ then_some (then_some (literal_value c) limited) (λ v. kept_value (go (v ∷ [])))
      by None e = rw e refl
      by (Some v) e = rw (e, literal_path c v e env, kept_then v go) (met_then v (λ v. kept_value (go (v ∷ []))))

  -- a part that is met only on some ways
  other_then : (c : CodeTree) → cond (is_literal c) (kept_value (path c env)) None ≡ met_value c
  other_then c = by (literal_value c) refl
    where
      one : (v : Value) → kept_value (value_path v) ≡ limited v
      one (number z) = meets_kept z
      one (truth b) = refl
      one (elements zs) = refl

      by : (o : Option Value) → literal_value c ≡ o → cond (is_some (literal_value c)) (kept_value (path c env)) None ≡ then_some (literal_value c) limited
      by None e = rw e refl
      by (Some v) e = rw (e, literal_path c v e env) (one v)

  pub sub_at : (a b : CodeTree) → value_in env (code_sub a b) ≡ of_two difference_of (met_value a) (met_value b)
  sub_at a b =
      part_then a (is_literal b) (λ x. then_path (path b env) (λ y. meets (number_in x -ℤ number_in y)))
      ∙ same_then (met_value a) _ _ (λ v. last_then b (λ y. meets (number_of v -ℤ number_in y)) ∙ same_then (met_value b) _ _
      (λ w. meets_kept (number_of v -ℤ number_of w)))

  pub mul_at : (a b : CodeTree) → value_in env (code_mul a b) ≡ of_two product_of (met_value a) (met_value b)
  mul_at a b =
      part_then a (is_literal b) (λ x. then_path (path b env) (λ y. meets (number_in x *ℤ number_in y)))
      ∙ same_then (met_value a) _ _ (λ v. last_then b (λ y. meets (number_of v *ℤ number_in y)) ∙ same_then (met_value b) _ _
      (λ w. meets_kept (number_of v *ℤ number_of w)))

  pub neg_at : (a : CodeTree) → value_in env (code_neg a) ≡ then_some (met_value a) negated_of
  neg_at a = last_then a (λ x. meets (neg_ℤ (number_in x))) ∙ same_then (met_value a) _ _ (λ v. meets_kept (neg_ℤ (number_of v)))

  pub div_at : (a : CodeTree) (k : ℤ) → value_in env (code_div a k) ≡ then_some (met_value a) (quotient_of k)
  div_at a k = last_then a (λ x. meets (quotient (number_in x) k)) ∙ same_then (met_value a) _ _ (λ v. meets_kept (quotient (number_of v) k))

  pub mod_at : (a : CodeTree) (k : ℤ) → value_in env (code_mod a k) ≡ then_some (met_value a) (remainder_of k)
  mod_at a k = last_then a (λ x. meets (remainder (number_in x) k)) ∙ same_then (met_value a) _ _ (λ v. meets_kept (remainder (number_of v) k))

  pub compare_at : (o : Order) (a b : CodeTree) → value_in env (code_compare o a b) ≡ of_two (comparison_of o) (met_value a) (met_value b)
  compare_at o a b =
      part_then a (is_literal b) (λ x. then_path (path b env) (λ y. gives_truth (compared o (first_of x) (first_of y))))
      ∙ same_then (met_value a) _ _ (λ v. last_then b (λ y. gives_truth (compared o v (first_of y))))

  pub divides_at : (k : ℤ) (a : CodeTree) → value_in env (code_divides k a) ≡ then_some (met_value a) (multiple_of k)
  divides_at k a = last_then a (λ x. gives_truth (is_multiple k (number_in x)))

  pub not_at : (a : CodeTree) → value_in env (code_not a) ≡ then_some (met_value a) negation_of
  not_at a = last_then a (λ x. gives_truth (not (truth_in x)))

  -- where the left side decides, the right one has to be a literal still
  decided : (b : CodeTree) (t : Bool) → cond (is_literal b) (Some (truth t)) None ≡ then_some (literal_value b) (λ w. Some (truth t))
  decided b t = by (literal_value b) refl
    where
      by : (o : Option Value) → literal_value b ≡ o → cond (is_some (literal_value b)) (Some (truth t)) None ≡ then_some (literal_value b)
          (λ w. Some (truth t))
      by None e = rw e refl
      by (Some v) e = rw e refl

  pub and_at : (a b : CodeTree) → value_in env (code_and a b) ≡ of_two conjunction_of (met_value a) (literal_value b)
  and_at a b =
      part_then a (is_literal b) (λ x. cond (truth_in x) (path b env) (gives_truth false)) ∙ same_then (met_value a) _ _ (λ v. by (truth_of v))
    where
      by : (t : Bool) → cond (is_literal b) (kept_value (cond t (path b env) (gives_truth false))) None ≡ then_some (literal_value b)
          (λ w. cond t (limited w) (Some (truth false)))
      by true = other_then b
      by false = decided b false

  pub or_at : (a b : CodeTree) → value_in env (code_or a b) ≡ of_two disjunction_of (met_value a) (literal_value b)
  or_at a b =
      part_then a (is_literal b) (λ x. cond (truth_in x) (gives_truth true) (path b env)) ∙ same_then (met_value a) _ _ (λ v. by (truth_of v))
    where
      by : (t : Bool) → cond (is_literal b) (kept_value (cond t (gives_truth true) (path b env))) None ≡ then_some (literal_value b)
          (λ w. cond t (Some (truth true)) (limited w))
      by true = decided b true
      by false = other_then b

  -- the sum of literals
  sum_met : (cs : CodeTrees) (t : Bool) (z : ℤ) → cond (are_literals cs) (kept_value (sum_path cs env z)) None ≡ sum_of cs z →
      cond (are_literals cs) (cond t (kept_value (sum_path cs env z)) None) None ≡ then_some (cond t (Some z) None) (sum_of cs)
  sum_met cs true z e = e
  sum_met cs false z e = none_either (are_literals cs)

  sums : (cs : CodeTrees) (z : ℤ) → cond (are_literals cs) (kept_value (sum_path cs env z)) None ≡ sum_of cs z
  sums no_codes z = refl
  sums (code_more c cs) z =
      part_then c (are_literals cs) (λ x. then_path (meets (z +ℤ number_in x)) (λ s. sum_path cs env (number_in s)))
      ∙ same_then (met_value c) _ _ (λ v.
      ap (λ o. cond (are_literals cs) o None) (kept_then (number (z +ℤ number_of v)) (λ s. sum_path cs env (number_in s)))
      ∙ sum_met cs (nat_le (unsigned_abs (z +ℤ number_of v)) (2 ^ 127 - 1)) (z +ℤ number_of v) (sums cs (z +ℤ number_of v)))

  pub sum_at : (cs : CodeTrees) → value_in env (code_sum cs) ≡ sum_of cs (pos 0)
  sum_at cs = sums cs (pos 0)

  bests : (better : ℤ → ℤ → ℤ) (cs : CodeTrees) (z : Option ℤ) → cond (are_literals cs) (kept_value (best_path better cs env z)) None ≡ best_of better cs z
  bests better no_codes z = meets_kept (chosen z)
  bests better (code_more c cs) z =
      part_then c (are_literals cs) (λ x. best_path better cs env (Some (choose_with better z (number_in x))))
      ∙ same_then (met_value c) _ _ (λ v. bests better cs (Some (choose_with better z (number_of v))))

  pub min_at : (cs : CodeTrees) → value_in env (code_min cs) ≡ best_of int_min cs None
  min_at cs = bests int_min cs None

  pub max_at : (cs : CodeTrees) → value_in env (code_max cs) ≡ best_of int_max cs None
  max_at cs = bests int_max cs None

pub value_is : (c : CodeTree) → value_in [] c ≡ form_value c
value_is (code_sum cs) = sum_at [] cs
value_is (code_sub a b) = sub_at [] a b
value_is (code_mul a b) = mul_at [] a b
value_is (code_neg a) = neg_at [] a
value_is (code_div a k) = div_at [] a k
value_is (code_mod a k) = mod_at [] a k
value_is (code_min cs) = min_at [] cs
value_is (code_max cs) = max_at [] cs
value_is (code_compare o a b) = compare_at [] o a b
value_is (code_divides k a) = divides_at [] k a
value_is (code_and a b) = and_at [] a b
value_is (code_or a b) = or_at [] a b
value_is (code_not a) = not_at [] a
value_is (code_lit k) = refl
value_is (code_truth t) = refl
value_is (code_var x) = refl
value_is (code_set_of cs) = refl
value_is (code_tuple cs) = refl
value_is (code_union cs) = refl
value_is (code_inter cs) = refl
value_is (code_diff a b) = refl
value_is (code_subset a b) = refl
value_is (code_card a) = refl
value_is (code_slice a b c) = refl
value_is (code_fresh a b) = refl
value_is (code_if a b c) = refl
value_is (code_let n m a b) = refl
value_is (code_solve n arms) = refl

-- what the parts tell is the value of the form
pub form_is : (c : CodeTree) (o : Option Value) → o ≡ form_value c → o ≡ folded_value c
unfolding folded_value
form_is c o e = e ∙ sym (value_is c)

pub fold_some : (c : CodeTree) (v : Value) → Some v ≡ folded_value c → fold_form c ≡ literal_of v
fold_some c v e = ap (λ o. unwrap_or (option_map literal_of o) c) (sym e)

pub fold_none : (c : CodeTree) → None ≡ folded_value c → fold_form c ≡ c
fold_none c e = ap (λ o. unwrap_or (option_map literal_of o) c) (sym e)

pub units_some : (c : CodeTree) (v : Value) → Some v ≡ folded_value c → fold_units c ≡ 1
units_some c v e = ap (λ o. cond (is_some o) 1 0) (sym e)

pub units_none : (c : CodeTree) → None ≡ folded_value c → fold_units c ≡ 0
units_none c e = ap (λ o. cond (is_some o) 1 0) (sym e)
