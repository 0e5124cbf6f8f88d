-- A form of literals and its value: the value stands in the place of the form everywhere.
use Rattle.std.proofs.Common.{◌≡◌, ℕ, ◌-◌, ◌+◌, ◌^◌, ◌≤◌, max, nat_le, cond, ℤ, pos, ◌+ℤ◌, unsigned_abs, Bool, true, false, ◌&&◌, List, [], ◌∷◌, Option, Some, None, option_map, unwrap_or, refl, sym, subst, ◌∙◌, arith}
use Rattle.std.specs.Int.{int_max, int_min}
use Rattle.std.proofs.lemmas.Bool.Decides.{nat_tests}
use Rattle.cf_tree.specs.declared.base.Base.{Base}
use Rattle.cf_tree.specs.declared.base.Order.{Order}
use Rattle.cf_tree.specs.declared.base.Base.TheVariants.{Int, Bool as Truth}
use Rattle.cf_tree.specs.CodeTree.{CodeTree, code_lit, code_truth, code_var, code_set_of, code_tuple, code_sum, code_sub, code_mul, code_neg, code_div, code_mod, code_min, code_max, code_compare, code_divides, code_and, code_or, code_not, code_union, code_inter, code_diff, code_subset, code_card, code_slice, code_fresh, code_if, code_let, code_solve, CodeTrees, no_codes, code_more, code_size, code_depth}
use Rattle.cf_tree.specs.Meaning.{Got, got, none_at, Path, then_path, meets, gives_truth, path, sum_path, best_path, number_in, truth_in, choose_with, chosen}
use Rattle.cf_tree.specs.Spelled.{IsSpelled, IsNoTuple}
use Rattle.cf_tree.specs.Typing.{HasBases, HasNoSolve, IsOne, ask, one}
use Rattle.cf_tree.specs.Values.{Value, number, truth, elements, number_of, truth_of}
use Rattle.cf_pass.specs.Folding.{is_literal, is_of_literals, single, kept_value, folded_value, literal_of, fold_form}
use Rattle.cf_pass.specs.Improves.{Improves, IsNoWorse}
use Rattle.cf_pass.specs.Lacks.{Lacks}
use Rattle.cf_pass.proofs.FoldLemmas.{size_of, value_path, value_in, sub_at, mul_at, neg_at, div_at, mod_at, compare_at, divides_at, and_at, or_at, not_at, sum_at, min_at, max_at}
use Rattle.cf_pass.proofs.Forms.{improves_self}

-- ---- where a way gives one value
abbrev MetNumber : Value → ℕ → Type 0
MetNumber v k = (v ≡ number (number_of v)) × (size_of v ≤ k)

abbrev MetTruth : Value → ℕ → Type 0
MetTruth v k = (v ≡ truth (truth_of v)) × (size_of v ≤ k)

-- no set
abbrev IsPlain : Value → Type 0
IsPlain (number z) = Unit {0}
IsPlain (truth b) = Unit {0}
IsPlain (elements zs) = ⊥

abbrev MetPlain : Value → ℕ → Type 0
MetPlain v k = IsPlain v × (size_of v ≤ k)

-- where one value is given, K holds of it and of the greatest number met
abbrev EndsIn : (Value → ℕ → Type 0) → Path (List Value) → Type 0
EndsIn K p = (v : Value) → p.gives ≡ got (v ∷ []) → K v p.peak

abbrev IsWider : (Value → ℕ → Type 0) → Type 0
IsWider K = (v : Value) (j k : ℕ) → K v k → K v (max j k)

number_wider : IsWider MetNumber
number_wider v j k h = (h.0, omega (arith, h.1))

truth_wider : IsWider MetTruth
truth_wider v j k h = (h.0, omega (arith, h.1))

plain_wider : IsWider MetPlain
plain_wider v j k h = (h.0, omega (arith, h.1))

number_plain : (v : Value) (k : ℕ) → MetNumber v k → MetPlain v k
number_plain v k h = (subst IsPlain (sym h.0) tt, h.1)

truth_plain : (v : Value) (k : ℕ) → MetTruth v k → MetPlain v k
truth_plain v k h = (subst IsPlain (sym h.0) tt, h.1)

then_ends : {A : Type 0} (K : Value → ℕ → Type 0) → IsWider K → (p : Path A) (go : A → Path (List Value)) → ((x : A) → EndsIn K (go x)) →
    EndsIn K (then_path p go)
then_ends {A = A} K wider p go h = by p.gives p.peak
  where
    by : (g : Got A) (k : ℕ) → EndsIn K (then_path (record { gives = g; peak = k }) go)
    by (got x) k v e = wider v k (go x).peak (h x v e)
    by (none_at n) k v e = absurd cc

meets_ends : (z : ℤ) → EndsIn MetNumber (meets z)
meets_ends z v e = let s : v ≡ number z = cc in rw s (refl, omega arith)

truth_ends : (b : Bool) → EndsIn MetTruth (gives_truth b)
truth_ends b v e = let s : v ≡ truth b = cc in rw s (refl, omega arith)

sum_ends : (cs : CodeTrees) (env : List Value) (z : ℤ) → EndsIn (λ v k. MetNumber v (max (unsigned_abs z) k)) (sum_path cs env z)
sum_ends no_codes env z v e = let s : v ≡ number z = cc in rw s (refl, omega arith)
sum_ends (code_more c cs) env z v e = by (λ s. sum_ends cs env s) (path c env).gives (path c env).peak v e
  where
    by : ((s : ℤ) → EndsIn (λ v k. MetNumber v (max (unsigned_abs s) k)) (sum_path cs env s)) → (g : Got (List Value)) (k : ℕ) →
        EndsIn (λ v k. MetNumber v (max (unsigned_abs z) k))
        (then_path (record { gives = g; peak = k }) (λ x. then_path (meets (z +ℤ number_in x)) (λ s. sum_path cs env (number_in s))))
    by more (got x) k v e = let h = more (z +ℤ number_in x) v e in (h.0, omega (arith, h.1))
    by more (none_at n) k v e = absurd cc

best_ends : (better : ℤ → ℤ → ℤ) (cs : CodeTrees) (env : List Value) (z : Option ℤ) → EndsIn MetNumber (best_path better cs env z)
best_ends better no_codes env z = meets_ends (chosen z)
best_ends better (code_more c cs) env z =
    then_ends MetNumber number_wider (path c env) _ (λ x. best_ends better cs env (Some (choose_with better z (number_in x))))

-- ---- literals
pub data IsLit : CodeTree → Type 0 where
  is_number : (k : ℤ) → IsLit (code_lit k)
  is_truth : (t : Bool) → IsLit (code_truth t)

is_lit : (c : CodeTree) → is_literal c ≡ true → IsLit c
is_lit (code_lit k) e = is_number k
is_lit (code_truth t) e = is_truth t
is_lit (code_var x) e = absurd cc
is_lit (code_set_of cs) e = absurd cc
is_lit (code_tuple cs) e = absurd cc
is_lit (code_sum cs) e = absurd cc
is_lit (code_sub a b) e = absurd cc
is_lit (code_mul a b) e = absurd cc
is_lit (code_neg a) e = absurd cc
is_lit (code_div a k) e = absurd cc
is_lit (code_mod a k) e = absurd cc
is_lit (code_min cs) e = absurd cc
is_lit (code_max cs) e = absurd cc
is_lit (code_compare o a b) e = absurd cc
is_lit (code_divides k a) e = absurd cc
is_lit (code_and a b) e = absurd cc
is_lit (code_or a b) e = absurd cc
is_lit (code_not a) e = absurd cc
is_lit (code_union cs) e = absurd cc
is_lit (code_inter cs) e = absurd cc
is_lit (code_diff a b) e = absurd cc
is_lit (code_subset a b) e = absurd cc
is_lit (code_card a) e = absurd cc
is_lit (code_slice a b c) e = absurd cc
is_lit (code_fresh a b) e = absurd cc
is_lit (code_if a b c) e = absurd cc
is_lit (code_let n m a b) e = absurd cc
is_lit (code_solve n arms) e = absurd cc

lit_plain : (c : CodeTree) → IsLit c → (env : List Value) → EndsIn MetPlain (path c env)
lit_plain c (is_number k) env v e = number_plain v (unsigned_abs k) (meets_ends k v e)
lit_plain c (is_truth t) env v e = truth_plain v 0 (truth_ends t v e)

lit_truth : (c : CodeTree) → IsLit c → (scope : List Base) → HasBases c scope (ask Truth) (one Truth) → (env : List Value) → EndsIn MetTruth (path c env)
lit_truth c (is_number k) scope h env v e = absurd (by h.0)
  where
    by : Truth ∷ [] ≡ Int ∷ [] → ⊥
    by s = cc
lit_truth c (is_truth t) scope h env v e = truth_ends t v e

if_ends : (K : Value → ℕ → Type 0) (t : Bool) (p q : Path (List Value)) → EndsIn K p → EndsIn K q → EndsIn K (cond t p q)
if_ends K true p q f g = f
if_ends K false p q f g = g

-- ---- each form ends in a value
and_true : (t u : Bool) → t && u ≡ true → (t ≡ true) × (u ≡ true)
and_true true u e = (refl, e)
and_true false u e = absurd cc

plain_of : (p : Path (List Value)) → EndsIn MetNumber p → EndsIn MetPlain p
plain_of p h v e = number_plain v p.peak (h v e)

truth_of_plain : (p : Path (List Value)) → EndsIn MetTruth p → EndsIn MetPlain p
truth_of_plain p h v e = truth_plain v p.peak (h v e)

module _ (env : List Value) where
  sums : (cs : CodeTrees) → EndsIn MetNumber (path (code_sum cs) env)
  sums cs v e = let h = sum_ends cs env (pos 0) v e in (h.0, omega (arith, h.1))

  subs : (a b : CodeTree) → EndsIn MetNumber (path (code_sub a b) env)
  subs a b = then_ends MetNumber number_wider (path a env) _ (λ x. then_ends MetNumber number_wider (path b env) _ (λ y. meets_ends _))

  muls : (a b : CodeTree) → EndsIn MetNumber (path (code_mul a b) env)
  muls a b = then_ends MetNumber number_wider (path a env) _ (λ x. then_ends MetNumber number_wider (path b env) _ (λ y. meets_ends _))

  negs : (a : CodeTree) → EndsIn MetNumber (path (code_neg a) env)
  negs a = then_ends MetNumber number_wider (path a env) _ (λ x. meets_ends _)

  divs : (a : CodeTree) (k : ℤ) → EndsIn MetNumber (path (code_div a k) env)
  divs a k = then_ends MetNumber number_wider (path a env) _ (λ x. meets_ends _)

  mods : (a : CodeTree) (k : ℤ) → EndsIn MetNumber (path (code_mod a k) env)
  mods a k = then_ends MetNumber number_wider (path a env) _ (λ x. meets_ends _)

  compares : (o : Order) (a b : CodeTree) → EndsIn MetTruth (path (code_compare o a b) env)
  compares o a b = then_ends MetTruth truth_wider (path a env) _ (λ x. then_ends MetTruth truth_wider (path b env) _ (λ y. truth_ends _))

  divides : (k : ℤ) (a : CodeTree) → EndsIn MetTruth (path (code_divides k a) env)
  divides k a = then_ends MetTruth truth_wider (path a env) _ (λ x. truth_ends _)

  nots : (a : CodeTree) → EndsIn MetTruth (path (code_not a) env)
  nots a = then_ends MetTruth truth_wider (path a env) _ (λ x. truth_ends _)

  ands : (K : Value → ℕ → Type 0) → IsWider K → EndsIn K (gives_truth false) → (a b : CodeTree) → EndsIn K (path b env) → EndsIn K (path (code_and a b) env)
  ands K wider f a b h = then_ends K wider (path a env) _ (λ x. if_ends K (truth_in x) (path b env) (gives_truth false) h f)

  ors : (K : Value → ℕ → Type 0) → IsWider K → EndsIn K (gives_truth true) → (a b : CodeTree) → EndsIn K (path b env) → EndsIn K (path (code_or a b) env)
  ors K wider f a b h = then_ends K wider (path a env) _ (λ x. if_ends K (truth_in x) (gives_truth true) (path b env) f h)

  -- a form of literals ends in no set, and its value is met
  ends : (c : CodeTree) → is_of_literals c ≡ true → EndsIn MetPlain (path c env)
  ends (code_sum cs) e = plain_of (path (code_sum cs) env) (sums cs)
  ends (code_sub a b) e = plain_of (path (code_sub a b) env) (subs a b)
  ends (code_mul a b) e = plain_of (path (code_mul a b) env) (muls a b)
  ends (code_neg a) e = plain_of (path (code_neg a) env) (negs a)
  ends (code_div a k) e = plain_of (path (code_div a k) env) (divs a k)
  ends (code_mod a k) e = plain_of (path (code_mod a k) env) (mods a k)
  ends (code_min cs) e = plain_of (path (code_min cs) env) (best_ends int_min cs env None)
  ends (code_max cs) e = plain_of (path (code_max cs) env) (best_ends int_max cs env None)
  ends (code_compare o a b) e = truth_of_plain (path (code_compare o a b) env) (compares o a b)
  ends (code_divides k a) e = truth_of_plain (path (code_divides k a) env) (divides k a)
  ends (code_and a b) e =
      ands MetPlain plain_wider (truth_of_plain (gives_truth false) (truth_ends false)) a b
      (lit_plain b (is_lit b (and_true (is_literal a) (is_literal b) e).1) env)
  ends (code_or a b) e =
      ors MetPlain plain_wider (truth_of_plain (gives_truth true) (truth_ends true)) a b
      (lit_plain b (is_lit b (and_true (is_literal a) (is_literal b) e).1) env)
  ends (code_not a) e = truth_of_plain (path (code_not a) env) (nots a)
  ends (code_lit k) e = absurd cc
  ends (code_truth t) e = absurd cc
  ends (code_var x) e = absurd cc
  ends (code_set_of cs) e = absurd cc
  ends (code_tuple cs) e = absurd cc
  ends (code_union cs) e = absurd cc
  ends (code_inter cs) e = absurd cc
  ends (code_diff a b) e = absurd cc
  ends (code_subset a b) e = absurd cc
  ends (code_card a) e = absurd cc
  ends (code_slice a b c) e = absurd cc
  ends (code_fresh a b) e = absurd cc
  ends (code_if a b c) e = absurd cc
  ends (code_let n m a b) e = absurd cc
  ends (code_solve n arms) e = absurd cc

  module _ (scope : List Base) (asked : Option (List Base)) (bs : List Base) where
    number_typed : (p : Path (List Value)) → EndsIn MetNumber p → IsOne Int asked bs → (v : Value) → p.gives ≡ got (v ∷ []) →
        HasBases (literal_of v) scope asked bs
    number_typed p h i v e = subst (λ w. HasBases (literal_of w) scope asked bs) (sym (h v e).0) i

    truth_typed : (p : Path (List Value)) → EndsIn MetTruth p → IsOne Truth asked bs → (v : Value) → p.gives ≡ got (v ∷ []) →
        HasBases (literal_of v) scope asked bs
    truth_typed p h i v e = subst (λ w. HasBases (literal_of w) scope asked bs) (sym (h v e).0) i

    -- the literal has the bases of the form
    typed : (c : CodeTree) → is_of_literals c ≡ true → HasBases c scope asked bs → (v : Value) → (path c env).gives ≡ got (v ∷ []) →
        HasBases (literal_of v) scope asked bs
    typed (code_sum cs) e h = number_typed (path (code_sum cs) env) (sums cs) h.2
    typed (code_sub a b) e h = number_typed (path (code_sub a b) env) (subs a b) h.2
    typed (code_mul a b) e h = number_typed (path (code_mul a b) env) (muls a b) h.2
    typed (code_neg a) e h = number_typed (path (code_neg a) env) (negs a) h.1
    typed (code_div a k) e h = number_typed (path (code_div a k) env) (divs a k) h.2
    typed (code_mod a k) e h = number_typed (path (code_mod a k) env) (mods a k) h.2
    typed (code_min cs) e h = number_typed (path (code_min cs) env) (best_ends int_min cs env None) h.2
    typed (code_max cs) e h = number_typed (path (code_max cs) env) (best_ends int_max cs env None) h.2
    typed (code_compare o a b) e h = truth_typed (path (code_compare o a b) env) (compares o a b) h.4
    typed (code_divides k a) e h = truth_typed (path (code_divides k a) env) (divides k a) h.2
    typed (code_and a b) e h =
        truth_typed (path (code_and a b) env)
        (ands MetTruth truth_wider (truth_ends false) a b (lit_truth b (is_lit b (and_true (is_literal a) (is_literal b) e).1) scope h.1 env)) h.2
    typed (code_or a b) e h =
        truth_typed (path (code_or a b) env)
        (ors MetTruth truth_wider (truth_ends true) a b (lit_truth b (is_lit b (and_true (is_literal a) (is_literal b) e).1) scope h.1 env)) h.2
    typed (code_not a) e h = truth_typed (path (code_not a) env) (nots a) h.1
    typed (code_lit k) e h = absurd cc
    typed (code_truth t) e h = absurd cc
    typed (code_var x) e h = absurd cc
    typed (code_set_of cs) e h = absurd cc
    typed (code_tuple cs) e h = absurd cc
    typed (code_union cs) e h = absurd cc
    typed (code_inter cs) e h = absurd cc
    typed (code_diff a b) e h = absurd cc
    typed (code_subset a b) e h = absurd cc
    typed (code_card a) e h = absurd cc
    typed (code_slice a b c) e h = absurd cc
    typed (code_fresh a b) e h = absurd cc
    typed (code_if a b c) e h = absurd cc
    typed (code_let n m a b) e h = absurd cc
    typed (code_solve n arms) e h = absurd cc

-- a form of literals has one value in all environments
same_at : (env : List Value) (c : CodeTree) → value_in env c ≡ value_in [] c
same_at env (code_sum cs) = sum_at env cs ∙ sym (sum_at [] cs)
same_at env (code_sub a b) = sub_at env a b ∙ sym (sub_at [] a b)
same_at env (code_mul a b) = mul_at env a b ∙ sym (mul_at [] a b)
same_at env (code_neg a) = neg_at env a ∙ sym (neg_at [] a)
same_at env (code_div a k) = div_at env a k ∙ sym (div_at [] a k)
same_at env (code_mod a k) = mod_at env a k ∙ sym (mod_at [] a k)
same_at env (code_min cs) = min_at env cs ∙ sym (min_at [] cs)
same_at env (code_max cs) = max_at env cs ∙ sym (max_at [] cs)
same_at env (code_compare o a b) = compare_at env o a b ∙ sym (compare_at [] o a b)
same_at env (code_divides k a) = divides_at env k a ∙ sym (divides_at [] k a)
same_at env (code_and a b) = and_at env a b ∙ sym (and_at [] a b)
same_at env (code_or a b) = or_at env a b ∙ sym (or_at [] a b)
same_at env (code_not a) = not_at env a ∙ sym (not_at [] a)
same_at env (code_lit k) = refl
same_at env (code_truth t) = refl
same_at env (code_var x) = refl
same_at env (code_set_of cs) = refl
same_at env (code_tuple cs) = refl
same_at env (code_union cs) = refl
same_at env (code_inter cs) = refl
same_at env (code_diff a b) = refl
same_at env (code_subset a b) = refl
same_at env (code_card a) = refl
same_at env (code_slice a b c) = refl
same_at env (code_fresh a b) = refl
same_at env (code_if a b c) = refl
same_at env (code_let n m a b) = refl
same_at env (code_solve n arms) = refl

single_is : (g : Got (List Value)) (v : Value) → single g ≡ Some v → g ≡ got (v ∷ [])
single_is (got []) v e = absurd cc
single_is (got (w ∷ [])) v e = cc
single_is (got (w ∷ x ∷ xs)) v e = absurd cc
single_is (none_at n) v e = absurd cc

cond_some : (t : Bool) (o : Option Value) (v : Value) → cond t o None ≡ Some v → (t ≡ true) × (o ≡ Some v)
cond_some true o v e = (refl, e)
cond_some false o v e = absurd cc

below : (a b : ℕ) → nat_le a b ≡ true → a ≤ b
below a b e = grind (arith, nat_tests)

-- what a form of literals ends in, in an environment
record Ended (env : List Value) (c : CodeTree) (v : Value) : Type 0 where
  literals : is_of_literals c ≡ true
  gives : (path c env).gives ≡ got (v ∷ [])
  low : (path c env).peak ≤ 2 ^ 127 - 1

ended : (env : List Value) (c : CodeTree) (v : Value) → value_in [] c ≡ Some v → Ended env c v
ended env c v e =
    let s = cond_some (is_of_literals c) (kept_value (path c env)) v (same_at env c ∙ e) in
    let k = cond_some (nat_le (path c env).peak (2 ^ 127 - 1)) (single (path c env).gives) v s.1 in
    record { literals = s.0; gives = single_is (path c env).gives v k.1; low = below (path c env).peak (2 ^ 127 - 1) k.0 }

-- a code is at least a leaf
is_leaf : (c : CodeTree) → (1 ≤ code_size c) × (1 ≤ code_depth c)
is_leaf (code_lit k) = (omega arith, omega arith)
is_leaf (code_truth b) = (omega arith, omega arith)
is_leaf (code_var x) = (omega arith, omega arith)
is_leaf (code_set_of cs) = (omega arith, omega arith)
is_leaf (code_tuple cs) = (omega arith, omega arith)
is_leaf (code_sum cs) = (omega arith, omega arith)
is_leaf (code_sub a b) = (omega arith, omega arith)
is_leaf (code_mul a b) = (omega arith, omega arith)
is_leaf (code_neg a) = (omega arith, omega arith)
is_leaf (code_div a k) = (omega arith, omega arith)
is_leaf (code_mod a k) = (omega arith, omega arith)
is_leaf (code_min cs) = (omega arith, omega arith)
is_leaf (code_max cs) = (omega arith, omega arith)
is_leaf (code_compare o a b) = (omega arith, omega arith)
is_leaf (code_divides k a) = (omega arith, omega arith)
is_leaf (code_and a b) = (omega arith, omega arith)
is_leaf (code_or a b) = (omega arith, omega arith)
is_leaf (code_not a) = (omega arith, omega arith)
is_leaf (code_union cs) = (omega arith, omega arith)
is_leaf (code_inter cs) = (omega arith, omega arith)
is_leaf (code_diff a b) = (omega arith, omega arith)
is_leaf (code_subset a b) = (omega arith, omega arith)
is_leaf (code_card a) = (omega arith, omega arith)
is_leaf (code_slice a b c) = (omega arith, omega arith)
is_leaf (code_fresh a b) = (omega arith, omega arith)
is_leaf (code_if a b c) = (omega arith, omega arith)
is_leaf (code_let n m a b) = (omega arith, omega arith)
is_leaf (code_solve n arms) = (omega arith, omega arith)

literal_path_is : (v : Value) → IsPlain v → (env : List Value) → path (literal_of v) env ≡ value_path v
literal_path_is (number z) h env = refl
literal_path_is (truth b) h env = refl
literal_path_is (elements zs) h env = absurd h

literal_size : (v : Value) → (code_size (literal_of v) ≤ 1) × (code_depth (literal_of v) ≤ 1)
literal_size (number z) = (omega arith, omega arith)
literal_size (truth b) = (omega arith, omega arith)
literal_size (elements zs) = (omega arith, omega arith)

literal_lacks : (v : Value) (x : ℕ) → Lacks x (literal_of v)
literal_lacks (number z) x = tt
literal_lacks (truth b) x = tt
literal_lacks (elements zs) x = tt

literal_spelled : (v : Value) → size_of v ≤ 2 ^ 127 - 1 → IsSpelled (literal_of v)
literal_spelled (number z) h = h
literal_spelled (truth b) h = tt
literal_spelled (elements zs) h = omega arith

literal_alone : (v : Value) → HasNoSolve (literal_of v) × IsNoTuple (literal_of v)
literal_alone (number z) = (tt, tt)
literal_alone (truth b) = (tt, tt)
literal_alone (elements zs) = (tt, tt)

literal_improves : (n : ℕ) (c : CodeTree) (v : Value) → value_in [] c ≡ Some v → Improves n c (literal_of v)
literal_improves n c v e =
    let p = ended [] c v e in
    let m = ends [] c p.literals v p.gives in
    let leaf = is_leaf c in
    let size = literal_size v in
    record {
      typed = λ scope asked bs l h. typed [] scope asked bs c p.literals h v p.gives;
      runs = λ scope asked bs env l h he.
          let q = ended env c v e in
          let k = ends env c q.literals v q.gives in
          subst (λ p. IsNoWorse (path c env) p) (sym (literal_path_is v m.0 env)) (record { gives = sym q.gives; peak = k.1 });
      size = omega (arith, leaf.0, size.0);
      deep = omega (arith, leaf.1, size.1);
      lacks = λ x l h. literal_lacks v x;
      spelled = λ h. literal_spelled v (let low = p.low in let met = m.1 in omega (arith, low, met));
      no_solve = λ h. (literal_alone v).0;
      no_tuple = λ h. (literal_alone v).1;
    }

folded_is : (c : CodeTree) → folded_value c ≡ value_in [] c
unfolding folded_value
folded_is c = refl

-- a form and what it is folded to
fold_improves : (n : ℕ) (c : CodeTree) → Improves n c (fold_form c)
fold_improves n c = by (folded_value c) refl
  where
    by : (o : Option Value) → folded_value c ≡ o → Improves n c (unwrap_or (option_map literal_of o) c)
    by None e = improves_self n c
    by (Some v) e = literal_improves n c v (sym (folded_is c) ∙ e)

pub folded_improves : (n : ℕ) (c d : CodeTree) → d ≡ fold_form c → Improves n c d
folded_improves n c d e = subst (λ x. Improves n c x) (sym e) (fold_improves n c)
