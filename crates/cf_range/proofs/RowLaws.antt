-- What the rows of tidying make of a form answers alike.
use Rattle.std.proofs.Common.{◌≡◌, ℕ, zero, suc, ℤ, pos, negsuc, neg_ℤ, ◌+ℤ◌, ◌*ℤ◌, max, ◌≤◌, Bool, true, false, cond, Option, Some, None, List, [], ◌∷◌, refl, sym, ap, subst, arith}
use Rattle.std.specs.Prelude.{unsigned_abs, nat_le, ◌-◌, ◌^◌}
use Rattle.std.proofs.lemmas.Bool.{leb-true}
use Rattle.std.proofs.lemmas.Int.{ints}
use Rattle.cf_num.specs.Limit.{limit, IsWithin, within}
use Rattle.cf_num.proofs.Ring.{mul_comm_z, neg-mul_z}
use Rattle.cf_tree.specs.CodeTree.{CodeTree, code_lit, code_truth, code_var, code_set_of, code_tuple, code_sum, code_sub, code_mul, code_neg, code_div, code_mod, code_min, code_max, code_compare, code_divides, code_and, code_or, code_not, code_union, code_inter, code_diff, code_subset, code_card, code_slice, code_fresh, code_if, code_let, code_solve, CodeTrees, no_codes, code_more}
use Rattle.cf_tree.specs.Meaning.{Got, got, none_at, Path, then_path, path, sum_path, meets, number_in}
use Rattle.cf_tree.specs.Values.{Value, number}
use Rattle.cf_tree.proofs.SetLemmas.{eq_is}
use Rattle.cf_range.specs.Alike.{Alike}
use Rattle.cf_range.specs.Ranges.{passes}
use Rattle.cf_range.specs.Tidied.{is_minus_one, alone, negation, opposite, times, product, is_zero, nonzero, plus_numeral, numerals_sum, numeral_or, sum_of_more, sum_of}
use Rattle.cf_range.proofs.NumberLemmas.{within_is, negation_fits}
use Rattle.cf_range.proofs.RangeLaws.{given_within}
use Rattle.cf_range.proofs.AlikeLemmas.{both_fit, alike_refl, alike_same, alike_trans, alike_then, met_before, either_code}

-- ---- signs
abbrev path_of : {A : Type 0} → Got A → ℕ → Path A
path_of g k = record { gives = g; peak = k }

abbrev met_number : ℤ → ℕ → Path (List Value)
met_number z k = path_of (got (number z ∷ [])) k

once_more : (k n : ℕ) → max (max k n) n ≡ max k n
once_more k n = omega arith

twice_negated : (c : CodeTree) (env : List Value) → path (code_neg (code_neg c)) env ≡ path (alone c) env
twice_negated c env = by (path c env).gives (path c env).peak
  where
    same : (z : ℤ) (k : ℕ) →
        met_number (neg_ℤ (neg_ℤ z)) (max (max k (unsigned_abs (neg_ℤ z))) (unsigned_abs (neg_ℤ (neg_ℤ z)))) ≡ met_number z (max k (unsigned_abs z))
    same (pos zero) k = ap (met_number (pos zero)) (once_more k zero)
    same (pos (suc n)) k = ap (met_number (pos (suc n))) (once_more k (suc n))
    same (negsuc n) k = ap (met_number (negsuc n)) (once_more k (suc n))

    by : (g : Got (List Value)) (k : ℕ) →
        then_path (then_path (path_of g k) (λ x. meets (neg_ℤ (number_in x)))) (λ y. meets (neg_ℤ (number_in y))) ≡ then_path (path_of g k) (λ x. meets (number_in x))
    by (got x) k = same (number_in x) k
    by (none_at n) k = refl

same_twice : (n : ℕ) → max n n ≡ n
same_twice n = omega arith

negated_literal : (k : ℤ) → met_number (neg_ℤ k) (max (unsigned_abs k) (unsigned_abs (neg_ℤ k))) ≡ met_number (neg_ℤ k) (unsigned_abs (neg_ℤ k))
negated_literal (pos zero) = ap (met_number (pos zero)) (same_twice zero)
negated_literal (pos (suc n)) = ap (met_number (negsuc n)) (same_twice (suc n))
negated_literal (negsuc n) = ap (met_number (pos (suc n))) (same_twice (suc n))

pub negation_alike : (c : CodeTree) (env : List Value) → Alike (path (code_neg c) env) (path (negation c) env)
negation_alike (code_lit k) env =
    either_code (passes k) (path (code_neg (code_lit k)) env) (code_neg (code_lit k)) (code_lit (neg_ℤ k)) env
    (λ e. alike_refl (path (code_neg (code_lit k)) env))
    (λ e. alike_same (path (code_neg (code_lit k)) env) (path (code_lit (neg_ℤ k)) env) (negated_literal k))
negation_alike (code_truth t) env = alike_refl (path (code_neg (code_truth t)) env)
negation_alike (code_var x) env = alike_refl (path (code_neg (code_var x)) env)
negation_alike (code_set_of cs) env = alike_refl (path (code_neg (code_set_of cs)) env)
negation_alike (code_tuple cs) env = alike_refl (path (code_neg (code_tuple cs)) env)
negation_alike (code_sum cs) env = alike_refl (path (code_neg (code_sum cs)) env)
negation_alike (code_sub a b) env = alike_refl (path (code_neg (code_sub a b)) env)
negation_alike (code_mul a b) env = alike_refl (path (code_neg (code_mul a b)) env)
negation_alike (code_neg a) env = alike_same (path (code_neg (code_neg a)) env) (path (alone a) env) (twice_negated a env)
negation_alike (code_div a k) env = alike_refl (path (code_neg (code_div a k)) env)
negation_alike (code_mod a k) env = alike_refl (path (code_neg (code_mod a k)) env)
negation_alike (code_min cs) env = alike_refl (path (code_neg (code_min cs)) env)
negation_alike (code_max cs) env = alike_refl (path (code_neg (code_max cs)) env)
negation_alike (code_compare o a b) env = alike_refl (path (code_neg (code_compare o a b)) env)
negation_alike (code_divides k a) env = alike_refl (path (code_neg (code_divides k a)) env)
negation_alike (code_and a b) env = alike_refl (path (code_neg (code_and a b)) env)
negation_alike (code_or a b) env = alike_refl (path (code_neg (code_or a b)) env)
negation_alike (code_not a) env = alike_refl (path (code_neg (code_not a)) env)
negation_alike (code_union cs) env = alike_refl (path (code_neg (code_union cs)) env)
negation_alike (code_inter cs) env = alike_refl (path (code_neg (code_inter cs)) env)
negation_alike (code_diff a b) env = alike_refl (path (code_neg (code_diff a b)) env)
negation_alike (code_subset a b) env = alike_refl (path (code_neg (code_subset a b)) env)
negation_alike (code_card a) env = alike_refl (path (code_neg (code_card a)) env)
negation_alike (code_slice a b c) env = alike_refl (path (code_neg (code_slice a b c)) env)
negation_alike (code_fresh a b) env = alike_refl (path (code_neg (code_fresh a b)) env)
negation_alike (code_if t a b) env = alike_refl (path (code_neg (code_if t a b)) env)
negation_alike (code_let first n a b) env = alike_refl (path (code_neg (code_let first n a b)) env)
negation_alike (code_solve n arms) env = alike_refl (path (code_neg (code_solve n arms)) env)

minus_one_is : (c : CodeTree) → is_minus_one c ≡ true → c ≡ code_lit (negsuc 0)
minus_one_is (code_lit k) e = ap code_lit (eq_is k (negsuc 0) e)
minus_one_is (code_truth t) e = cc
minus_one_is (code_var x) e = cc
minus_one_is (code_set_of cs) e = cc
minus_one_is (code_tuple cs) e = cc
minus_one_is (code_sum cs) e = cc
minus_one_is (code_sub a b) e = cc
minus_one_is (code_mul a b) e = cc
minus_one_is (code_neg a) e = cc
minus_one_is (code_div a k) e = cc
minus_one_is (code_mod a k) e = cc
minus_one_is (code_min cs) e = cc
minus_one_is (code_max cs) e = cc
minus_one_is (code_compare o a b) e = cc
minus_one_is (code_divides k a) e = cc
minus_one_is (code_and a b) e = cc
minus_one_is (code_or a b) e = cc
minus_one_is (code_not a) e = cc
minus_one_is (code_union cs) e = cc
minus_one_is (code_inter cs) e = cc
minus_one_is (code_diff a b) e = cc
minus_one_is (code_subset a b) e = cc
minus_one_is (code_card a) e = cc
minus_one_is (code_slice a b c) e = cc
minus_one_is (code_fresh a b) e = cc
minus_one_is (code_if t a b) e = cc
minus_one_is (code_let first n a b) e = cc
minus_one_is (code_solve n arms) e = cc

minus_once : (b : CodeTree) (env : List Value) → Alike (path (code_mul (code_lit (negsuc 0)) b) env) (path (code_neg b) env)
minus_once b env = met_before 1 (then_path (path b env) (λ y. meets (negsuc 0 *ℤ number_in y))) (path (code_neg b) env) (omega arith)
    (alike_then (path b env) (path b env) _ _ (alike_refl (path b env)) (λ y e l.
    alike_same (meets (negsuc 0 *ℤ number_in y)) (meets (neg_ℤ (number_in y))) (ap meets (turned (number_in y)))))
  where
    turned : (y : ℤ) → negsuc 0 *ℤ y ≡ neg_ℤ y
    turned y = omega (arith, ints)

-- ---- products with a numeral
pub zero_is : (c : CodeTree) → is_zero c ≡ true → c ≡ code_lit (pos 0)
zero_is (code_lit k) e = ap code_lit (eq_is k (pos 0) e)
zero_is (code_truth t) e = cc
zero_is (code_var x) e = cc
zero_is (code_set_of cs) e = cc
zero_is (code_tuple cs) e = cc
zero_is (code_sum cs) e = cc
zero_is (code_sub a b) e = cc
zero_is (code_mul a b) e = cc
zero_is (code_neg a) e = cc
zero_is (code_div a k) e = cc
zero_is (code_mod a k) e = cc
zero_is (code_min cs) e = cc
zero_is (code_max cs) e = cc
zero_is (code_compare o a b) e = cc
zero_is (code_divides k a) e = cc
zero_is (code_and a b) e = cc
zero_is (code_or a b) e = cc
zero_is (code_not a) e = cc
zero_is (code_union cs) e = cc
zero_is (code_inter cs) e = cc
zero_is (code_diff a b) e = cc
zero_is (code_subset a b) e = cc
zero_is (code_card a) e = cc
zero_is (code_slice a b c) e = cc
zero_is (code_fresh a b) e = cc
zero_is (code_if t a b) e = cc
zero_is (code_let first n a b) e = cc
zero_is (code_solve n arms) e = cc

sign_moved : (k : ℤ) → IsWithin k → (b : CodeTree) (env : List Value) →
    Alike (path (code_mul (code_lit k) (code_neg b)) env) (path (code_mul (code_lit (neg_ℤ k)) b) env)
sign_moved k w b env = by (path b env).gives (path b env).peak (λ y l e. given_within b env y l e)
  where
    same : (z : ℤ) → k *ℤ neg_ℤ z ≡ neg_ℤ k *ℤ z
    same z = omega (arith, ints, mul_comm_z k (neg_ℤ z), neg-mul_z z k, mul_comm_z z k, neg-mul_z k z)

    met : (z u : ℤ) (m : ℕ) → (m ≤ limit → IsWithin z) →
        Alike (met_number u (max (unsigned_abs k) (max (max m (unsigned_abs (neg_ℤ z))) (unsigned_abs u))))
        (met_number u (max (unsigned_abs (neg_ℤ k)) (max m (unsigned_abs u))))
    met z u m h = (
      λ l. let n = negation_fits k w in (omega (arith, n, l), refl),
      λ l. let n = negation_fits z (h (omega (arith, l))) in (omega (arith, n, w, l), refl),
    )

    by : (g : Got (List Value)) (m : ℕ) → ((y : List Value) → m ≤ limit → g ≡ got y → IsWithin (number_in y)) →
        Alike (then_path (meets k) (λ x. then_path (then_path (path_of g m) (λ y. meets (neg_ℤ (number_in y)))) (λ z. meets (number_in x *ℤ number_in z))))
        (then_path (meets (neg_ℤ k)) (λ x. then_path (path_of g m) (λ y. meets (number_in x *ℤ number_in y))))
    by (got y) m h =
        let z = number_in y in
        subst (λ u. Alike (met_number u (max (unsigned_abs k) (max (max m (unsigned_abs (neg_ℤ z))) (unsigned_abs u))))
        (met_number (neg_ℤ k *ℤ z) (max (unsigned_abs (neg_ℤ k)) (max m (unsigned_abs (neg_ℤ k *ℤ z)))))) (sym (same z))
        (met z (neg_ℤ k *ℤ z) m (λ l. h y l refl))
    by (none_at n) m h = (λ l. let n = negation_fits k w in (omega (arith, n, l), refl), λ l. (omega (arith, w, l), refl))

zero_product : (k : ℤ) → IsWithin k → (env : List Value) → Alike (path (code_mul (code_lit k) (code_lit (pos 0))) env) (path (code_lit (pos 0)) env)
zero_product k w env = subst (λ u. Alike (met_number u (max (unsigned_abs k) (max 0 (unsigned_abs u)))) (met_number (pos 0) 0)) (sym (none k))
    (both_fit (met_number (pos 0) (max (unsigned_abs k) (max 0 0))) (met_number (pos 0) 0) (omega (arith, w)) (omega arith) refl)
  where
    none : (k : ℤ) → k *ℤ pos 0 ≡ pos 0
    none k = omega (arith, ints)

zero_taken : (k : ℤ) → IsWithin k → (b : CodeTree) (env : List Value) →
    Alike (path (code_mul (code_lit k) b) env) (path (cond (is_zero b) b (code_mul (code_lit k) b)) env)
zero_taken k w b env = either_code (is_zero b) (path (code_mul (code_lit k) b) env) b (code_mul (code_lit k) b) env
    (λ e. subst (λ c. Alike (path (code_mul (code_lit k) c) env) (path c env)) (sym (zero_is b e)) (zero_product k w env))
    (λ e. alike_refl (path (code_mul (code_lit k) b) env))

times_alike : (k : ℤ) → IsWithin k → (b : CodeTree) (env : List Value) →
    Alike (path (code_mul (code_lit k) b) env) (path (times (code_lit k) (Some (neg_ℤ k)) b) env)
times_alike m w (code_lit k) env = zero_taken m w (code_lit k) env
times_alike m w (code_truth t) env = alike_refl (path (code_mul (code_lit m) (code_truth t)) env)
times_alike m w (code_var x) env = alike_refl (path (code_mul (code_lit m) (code_var x)) env)
times_alike m w (code_set_of cs) env = alike_refl (path (code_mul (code_lit m) (code_set_of cs)) env)
times_alike m w (code_tuple cs) env = alike_refl (path (code_mul (code_lit m) (code_tuple cs)) env)
times_alike m w (code_sum cs) env = alike_refl (path (code_mul (code_lit m) (code_sum cs)) env)
times_alike m w (code_sub a b) env = alike_refl (path (code_mul (code_lit m) (code_sub a b)) env)
times_alike m w (code_mul a b) env = alike_refl (path (code_mul (code_lit m) (code_mul a b)) env)
times_alike m w (code_neg a) env = sign_moved m w a env
times_alike m w (code_div a k) env = alike_refl (path (code_mul (code_lit m) (code_div a k)) env)
times_alike m w (code_mod a k) env = alike_refl (path (code_mul (code_lit m) (code_mod a k)) env)
times_alike m w (code_min cs) env = alike_refl (path (code_mul (code_lit m) (code_min cs)) env)
times_alike m w (code_max cs) env = alike_refl (path (code_mul (code_lit m) (code_max cs)) env)
times_alike m w (code_compare o a b) env = alike_refl (path (code_mul (code_lit m) (code_compare o a b)) env)
times_alike m w (code_divides k a) env = alike_refl (path (code_mul (code_lit m) (code_divides k a)) env)
times_alike m w (code_and a b) env = alike_refl (path (code_mul (code_lit m) (code_and a b)) env)
times_alike m w (code_or a b) env = alike_refl (path (code_mul (code_lit m) (code_or a b)) env)
times_alike m w (code_not a) env = alike_refl (path (code_mul (code_lit m) (code_not a)) env)
times_alike m w (code_union cs) env = alike_refl (path (code_mul (code_lit m) (code_union cs)) env)
times_alike m w (code_inter cs) env = alike_refl (path (code_mul (code_lit m) (code_inter cs)) env)
times_alike m w (code_diff a b) env = alike_refl (path (code_mul (code_lit m) (code_diff a b)) env)
times_alike m w (code_subset a b) env = alike_refl (path (code_mul (code_lit m) (code_subset a b)) env)
times_alike m w (code_card a) env = alike_refl (path (code_mul (code_lit m) (code_card a)) env)
times_alike m w (code_slice a b c) env = alike_refl (path (code_mul (code_lit m) (code_slice a b c)) env)
times_alike m w (code_fresh a b) env = alike_refl (path (code_mul (code_lit m) (code_fresh a b)) env)
times_alike m w (code_if t a b) env = alike_refl (path (code_mul (code_lit m) (code_if t a b)) env)
times_alike m w (code_let first n a b) env = alike_refl (path (code_mul (code_lit m) (code_let first n a b)) env)
times_alike m w (code_solve n arms) env = alike_refl (path (code_mul (code_lit m) (code_solve n arms)) env)

literal_times : (k : ℤ) (b : CodeTree) (env : List Value) →
    Alike (path (code_mul (code_lit k) b) env) (path (times (code_lit k) (opposite (code_lit k)) b) env)
literal_times k b env = by (passes k) (λ e. within_is k e)
  where
    by : (t : Bool) → (t ≡ false → IsWithin k) → Alike (path (code_mul (code_lit k) b) env) (path (times (code_lit k) (cond t None (Some (neg_ℤ k))) b) env)
    by true h = alike_refl (path (code_mul (code_lit k) b) env)
    by false h = times_alike k (h refl) b env

multiplied_alike : (a b : CodeTree) (env : List Value) → Alike (path (code_mul a b) env) (path (times a (opposite a) b) env)
multiplied_alike (code_lit k) d env = literal_times k d env
multiplied_alike (code_truth t) d env = alike_refl (path (code_mul (code_truth t) d) env)
multiplied_alike (code_var x) d env = alike_refl (path (code_mul (code_var x) d) env)
multiplied_alike (code_set_of cs) d env = alike_refl (path (code_mul (code_set_of cs) d) env)
multiplied_alike (code_tuple cs) d env = alike_refl (path (code_mul (code_tuple cs) d) env)
multiplied_alike (code_sum cs) d env = alike_refl (path (code_mul (code_sum cs) d) env)
multiplied_alike (code_sub a b) d env = alike_refl (path (code_mul (code_sub a b) d) env)
multiplied_alike (code_mul a b) d env = alike_refl (path (code_mul (code_mul a b) d) env)
multiplied_alike (code_neg a) d env = alike_refl (path (code_mul (code_neg a) d) env)
multiplied_alike (code_div a k) d env = alike_refl (path (code_mul (code_div a k) d) env)
multiplied_alike (code_mod a k) d env = alike_refl (path (code_mul (code_mod a k) d) env)
multiplied_alike (code_min cs) d env = alike_refl (path (code_mul (code_min cs) d) env)
multiplied_alike (code_max cs) d env = alike_refl (path (code_mul (code_max cs) d) env)
multiplied_alike (code_compare o a b) d env = alike_refl (path (code_mul (code_compare o a b) d) env)
multiplied_alike (code_divides k a) d env = alike_refl (path (code_mul (code_divides k a) d) env)
multiplied_alike (code_and a b) d env = alike_refl (path (code_mul (code_and a b) d) env)
multiplied_alike (code_or a b) d env = alike_refl (path (code_mul (code_or a b) d) env)
multiplied_alike (code_not a) d env = alike_refl (path (code_mul (code_not a) d) env)
multiplied_alike (code_union cs) d env = alike_refl (path (code_mul (code_union cs) d) env)
multiplied_alike (code_inter cs) d env = alike_refl (path (code_mul (code_inter cs) d) env)
multiplied_alike (code_diff a b) d env = alike_refl (path (code_mul (code_diff a b) d) env)
multiplied_alike (code_subset a b) d env = alike_refl (path (code_mul (code_subset a b) d) env)
multiplied_alike (code_card a) d env = alike_refl (path (code_mul (code_card a) d) env)
multiplied_alike (code_slice a b c) d env = alike_refl (path (code_mul (code_slice a b c) d) env)
multiplied_alike (code_fresh a b) d env = alike_refl (path (code_mul (code_fresh a b) d) env)
multiplied_alike (code_if t a b) d env = alike_refl (path (code_mul (code_if t a b) d) env)
multiplied_alike (code_let first n a b) d env = alike_refl (path (code_mul (code_let first n a b) d) env)
multiplied_alike (code_solve n arms) d env = alike_refl (path (code_mul (code_solve n arms) d) env)

pub product_alike : (a b : CodeTree) (env : List Value) → Alike (path (code_mul a b) env) (path (product a b) env)
product_alike a b env = either_code (is_minus_one a) (path (code_mul a b) env) (negation b) (times a (opposite a) b) env
    (λ e. alike_trans (path (code_mul a b) env) (path (code_neg b) env) (path (negation b) env)
    (subst (λ d. Alike (path (code_mul d b) env) (path (code_neg b) env)) (sym (minus_one_is a e)) (minus_once b env))
    (negation_alike b env))
    (λ e. multiplied_alike a b env)

-- ---- sums
either_sum : (t : Bool) (p : Path (List Value)) (cs ds : CodeTrees) (env : List Value) (z : ℤ) → (t ≡ true → Alike p (sum_path cs env z)) →
    (t ≡ false → Alike p (sum_path ds env z)) → Alike p (sum_path (cond t cs ds) env z)
either_sum true p cs ds env z h k = h refl
either_sum false p cs ds env z h k = k refl

-- a part that is 0 meets the sum that has come so far
zero_first : (cs ds : CodeTrees) (env : List Value) (z : ℤ) → IsWithin z → Alike (sum_path cs env z) (sum_path ds env z) →
    Alike (sum_path (code_more (code_lit (pos 0)) cs) env z) (sum_path ds env z)
zero_first cs ds env z w h =
    subst (λ y. Alike (path_of (sum_path cs env y).gives (max 0 (max (unsigned_abs y) (sum_path cs env y).peak))) (sum_path ds env z)) (sym (none_more z))
    (met_before 0 (path_of (sum_path cs env z).gives (max (unsigned_abs z) (sum_path cs env z).peak)) (sum_path ds env z) (omega arith)
    (met_before (unsigned_abs z) (sum_path cs env z) (sum_path ds env z) w h))
  where
    none_more : (z : ℤ) → z +ℤ pos 0 ≡ z
    none_more z = omega (arith, ints)

same_got : {A : Type 0} (x y : A) → got x ≡ got y → x ≡ y
same_got x y e = cc

-- the same part first
part_first : (c : CodeTree) (cs ds : CodeTrees) (env : List Value) (z : ℤ) → ((s : ℤ) → IsWithin s → Alike (sum_path cs env s) (sum_path ds env s)) →
    Alike (sum_path (code_more c cs) env z) (sum_path (code_more c ds) env z)
part_first c cs ds env z h = alike_then (path c env) (path c env) _ _ (alike_refl (path c env)) (λ x e l.
    alike_then (meets (z +ℤ number_in x)) (meets (z +ℤ number_in x)) _ _ (alike_refl (meets (z +ℤ number_in x))) (λ s f m.
    h (number_in s) (subst (λ xs. IsWithin (number_in xs)) (same_got (number (z +ℤ number_in x) ∷ []) s f) m)))

pub nonzero_alike : (cs : CodeTrees) (env : List Value) (z : ℤ) → IsWithin z → Alike (sum_path cs env z) (sum_path (nonzero cs) env z)
nonzero_alike no_codes env z w = alike_refl (sum_path no_codes env z)
nonzero_alike (code_more c cs) env z w = either_sum (is_zero c) (sum_path (code_more c cs) env z) (nonzero cs) (code_more c (nonzero cs)) env z
    (λ e. subst (λ d. Alike (sum_path (code_more d cs) env z) (sum_path (nonzero cs) env z)) (sym (zero_is c e))
    (zero_first cs (nonzero cs) env z w (nonzero_alike cs env z w)))
    (λ e. part_first c cs (nonzero cs) env z (nonzero_alike cs env))

sum_of_one : (y : ℤ) → Alike (met_number (pos 0 +ℤ y) (max (unsigned_abs (pos 0 +ℤ y)) 0)) (meets y)
sum_of_one y = subst (λ u. Alike (met_number u (max (unsigned_abs u) 0)) (meets y)) (sym (alone_is y))
    (alike_same (met_number y (max (unsigned_abs y) 0)) (meets y) (ap (met_number y) (greatest (unsigned_abs y))))
  where
    alone_is : (y : ℤ) → pos 0 +ℤ y ≡ y
    alone_is y = omega (arith, ints)

    greatest : (n : ℕ) → max n 0 ≡ n
    greatest n = omega arith

-- ---- numerals alone
none_not : (s : ℤ) → None ≡ Some s → ⊥
none_not s e = cc

record IsNumeral (z : ℤ) (c : CodeTree) (s : ℤ) : Type 0 where
  number_of : ℤ
  is : c ≡ code_lit number_of
  met : IsWithin number_of
  sum : s ≡ z +ℤ number_of
  small : IsWithin s

within_means : (z s : ℤ) → within z ≡ Some s → (s ≡ z) × IsWithin s
within_means z s = by (nat_le (unsigned_abs z) (2 ^ 127 - 1)) (leb-true (unsigned_abs z) (2 ^ 127 - 1))
  where
    by : (t : Bool) → (t ≡ true → IsWithin z) → cond t (Some z) None ≡ Some s → (s ≡ z) × IsWithin s
    by true h e = let same : z ≡ s = cc in (sym same, subst IsWithin same (h refl))
    by false h e = absurd (none_not s e)

on_literal : (z k s : ℤ) → plus_numeral z (code_lit k) ≡ Some s → IsNumeral z (code_lit k) s
on_literal z k s = by (passes k) (λ t. within_is k t)
  where
    by : (t : Bool) → (t ≡ false → IsWithin k) → cond t None (within (z +ℤ k)) ≡ Some s → IsNumeral z (code_lit k) s
    by true h e = absurd (none_not s e)
    by false h e = let w = within_means (z +ℤ k) s e in record { number_of = k; is = refl; met = h refl; sum = w.0; small = w.1 }

numeral_is : (z : ℤ) (c : CodeTree) (s : ℤ) → plus_numeral z c ≡ Some s → IsNumeral z c s
numeral_is z (code_lit k) s e = on_literal z k s e
numeral_is z (code_truth t) s e = cc
numeral_is z (code_var x) s e = cc
numeral_is z (code_set_of cs) s e = cc
numeral_is z (code_tuple cs) s e = cc
numeral_is z (code_sum cs) s e = cc
numeral_is z (code_sub a b) s e = cc
numeral_is z (code_mul a b) s e = cc
numeral_is z (code_neg a) s e = cc
numeral_is z (code_div a k) s e = cc
numeral_is z (code_mod a k) s e = cc
numeral_is z (code_min cs) s e = cc
numeral_is z (code_max cs) s e = cc
numeral_is z (code_compare o a b) s e = cc
numeral_is z (code_divides k a) s e = cc
numeral_is z (code_and a b) s e = cc
numeral_is z (code_or a b) s e = cc
numeral_is z (code_not a) s e = cc
numeral_is z (code_union cs) s e = cc
numeral_is z (code_inter cs) s e = cc
numeral_is z (code_diff a b) s e = cc
numeral_is z (code_subset a b) s e = cc
numeral_is z (code_card a) s e = cc
numeral_is z (code_slice a b c) s e = cc
numeral_is z (code_fresh a b) s e = cc
numeral_is z (code_if t a b) s e = cc
numeral_is z (code_let first n a b) s e = cc
numeral_is z (code_solve n arms) s e = cc

-- a path that fits, and gives this number
record Comes (p : Path (List Value)) (y : ℤ) : Type 0 where
  fits : p.peak ≤ limit
  gives : p.gives ≡ got (number y ∷ [])
  small : IsWithin y

comes_more : (c : CodeTree) (cs : CodeTrees) (env : List Value) (z s y : ℤ) → IsNumeral z c s → Comes (sum_path cs env s) y →
    Comes (sum_path (code_more c cs) env z) y
comes_more c cs env z s y n h =
    let k = n.number_of in
    let a = n.met in
    let b = n.small in
    let l = h.fits in
    subst (λ d. Comes (sum_path (code_more d cs) env z) y) (sym n.is)
    (subst (λ u. Comes (path_of (sum_path cs env u).gives (max (unsigned_abs k) (max (unsigned_abs u) (sum_path cs env u).peak))) y) n.sum
    (record { fits = omega (arith, a, b, l); gives = h.gives; small = h.small }))

numerals_come : (cs : CodeTrees) (env : List Value) (z y : ℤ) → IsWithin z → numerals_sum (Some z) cs ≡ Some y → Comes (sum_path cs env z) y
numerals_come no_codes env z y w e = let same : z ≡ y = cc in
    subst (Comes (sum_path no_codes env z)) same (record { fits = omega arith; gives = refl; small = w })
numerals_come (code_more c cs) env z y w e = by (plus_numeral z c) (numeral_is z c) (λ s v f. numerals_come cs env s y v f) e
  where
    by : (o : Option ℤ) → ((s : ℤ) → o ≡ Some s → IsNumeral z c s) → ((s : ℤ) → IsWithin s → numerals_sum (Some s) cs ≡ Some y → Comes (sum_path cs env s) y) →
        numerals_sum o cs ≡ Some y → Comes (sum_path (code_more c cs) env z) y
    by None n h e = absurd (none_not y e)
    by (Some s) n h e = let m = n s refl in comes_more c cs env z s y m (h s m.small e)

more_alike : (cs : CodeTrees) (env : List Value) → Alike (path (code_sum cs) env) (path (sum_of_more cs) env)
more_alike cs env = by (numerals_sum (Some (pos 0)) cs) (λ y e. numerals_come cs env (pos 0) y (omega arith) e)
  where
    by : (o : Option ℤ) → ((y : ℤ) → o ≡ Some y → Comes (path (code_sum cs) env) y) → Alike (path (code_sum cs) env) (path (numeral_or o cs) env)
    by None h = alike_refl (path (code_sum cs) env)
    by (Some y) h = let c = h y refl in both_fit (path (code_sum cs) env) (path (code_lit y) env) c.fits c.small (sym c.gives)

pub sum_alike : (cs : CodeTrees) (env : List Value) → Alike (path (code_sum cs) env) (path (sum_of cs) env)
sum_alike no_codes env = alike_refl (path (code_sum no_codes) env)
sum_alike (code_more c no_codes) env = alike_then (path c env) (path c env) _ _ (alike_refl (path c env)) (λ x e l. sum_of_one (number_in x))
sum_alike (code_more c (code_more d cs)) env = more_alike (code_more c (code_more d cs)) env
