-- Codes that give a number wherever they give.
use Rattle.std.proofs.Common.{◌≡◌, ℕ, ℤ, pos, ◌+ℤ◌, true, false, Option, None, List, [], ◌∷◌, refl, subst}
use Rattle.std.specs.Int.{int_min, int_max}
use Rattle.cf_tree.specs.CodeTree.{CodeTree, code_lit, code_truth, code_var, code_set_of, code_tuple, code_sum, code_sub, code_mul, code_neg, code_div, code_mod, code_min, code_max, code_compare, code_divides, code_and, code_or, code_not, code_union, code_inter, code_diff, code_subset, code_card, code_slice, code_fresh, code_if, code_let, code_solve, CodeTrees, no_codes, code_more}
use Rattle.cf_tree.specs.Meaning.{Got, got, none_at, then_gives, path, sum_path, best_path, meets, number_in}
use Rattle.cf_tree.specs.Values.{Value, number, first_of}
use Rattle.cf_range.specs.Settled.{gives_number}

stop_not : {A : Type 0} (k : ℕ) (x : A) → none_at k ≡ got x → ⊥
stop_not k x e = cc

same_got : {A : Type 0} (x y : A) → got x ≡ got y → x ≡ y
same_got x y e = cc

no_truth : false ≡ true → ⊥
no_truth e = cc

abbrev pub GivesNumber : Got (List Value) → Type 0
GivesNumber g = (vs : List Value) → g ≡ got vs → first_of vs ≡ number (number_in vs)

one_number : (z : ℤ) → GivesNumber (got (number z ∷ []))
one_number z vs e = subst (λ ws. first_of ws ≡ number (number_in ws)) (same_got (number z ∷ []) vs e) refl

then_number : (g : Got (List Value)) (go : List Value → Got (List Value)) → ((x : List Value) → GivesNumber (go x)) → GivesNumber (then_gives g go)
then_number (got x) go h vs e = h x vs e
then_number (none_at k) go h vs e = absurd (stop_not k vs e)

sum_number : (cs : CodeTrees) (env : List Value) (z : ℤ) → GivesNumber (sum_path cs env z).gives
sum_number no_codes env z = one_number z
sum_number (code_more c cs) env z = then_number (path c env).gives _ (λ x.
    then_number (meets (z +ℤ number_in x)).gives (λ s. (sum_path cs env (number_in s)).gives) (λ s. sum_number cs env (number_in s)))

best_number : (better : ℤ → ℤ → ℤ) (cs : CodeTrees) (env : List Value) (z : Option ℤ) → GivesNumber (best_path better cs env z).gives
best_number better no_codes env z = one_number _
best_number better (code_more c cs) env z = then_number (path c env).gives _ (λ x. best_number better cs env _)

pub number_given : (c : CodeTree) (env : List Value) → gives_number c ≡ true → GivesNumber (path c env).gives
number_given (code_lit k) env t = one_number k
number_given (code_truth u) env t = absurd (no_truth t)
number_given (code_var y) env t = absurd (no_truth t)
number_given (code_set_of cs) env t = absurd (no_truth t)
number_given (code_tuple cs) env t = absurd (no_truth t)
number_given (code_sum cs) env t = sum_number cs env (pos 0)
number_given (code_sub a b) env t = then_number (path a env).gives _ (λ x. then_number (path b env).gives _ (λ y. one_number _))
number_given (code_mul a b) env t = then_number (path a env).gives _ (λ x. then_number (path b env).gives _ (λ y. one_number _))
number_given (code_neg a) env t = then_number (path a env).gives _ (λ x. one_number _)
number_given (code_div a k) env t = then_number (path a env).gives _ (λ x. one_number _)
number_given (code_mod a k) env t = then_number (path a env).gives _ (λ x. one_number _)
number_given (code_min cs) env t = best_number int_min cs env None
number_given (code_max cs) env t = best_number int_max cs env None
number_given (code_compare o a b) env t = absurd (no_truth t)
number_given (code_divides k a) env t = absurd (no_truth t)
number_given (code_and a b) env t = absurd (no_truth t)
number_given (code_or a b) env t = absurd (no_truth t)
number_given (code_not a) env t = absurd (no_truth t)
number_given (code_union cs) env t = absurd (no_truth t)
number_given (code_inter cs) env t = absurd (no_truth t)
number_given (code_diff a b) env t = absurd (no_truth t)
number_given (code_subset a b) env t = absurd (no_truth t)
number_given (code_card a) env t = then_number (path a env).gives _ (λ x. one_number _)
number_given (code_slice a b c) env t = absurd (no_truth t)
number_given (code_fresh a b) env t = absurd (no_truth t)
number_given (code_if s a b) env t = absurd (no_truth t)
number_given (code_let first n a b) env t = absurd (no_truth t)
number_given (code_solve n arms) env t = absurd (no_truth t)
