-- A lowered form has the numbers of its expression, each as often.
use Rattle.std.proofs.Common.{◌≡◌, ℕ, zero, suc, ◌-◌, ◌+◌, ◌≤◌, ◌<◌, nat_eq, false, cond, ℤ, List, [], ◌∷◌, ◌++◌, length, All, refl, ap, sym, ◌∙◌, arith}
use Rattle.std.proofs.lemmas.List.Elements.{All-nil, All-cons, All-head, All-tail}
use Rattle.cf_tree.specs.declared.raw.BinOp.TheVariants.{Or}
use Rattle.cf_tree.specs.declared.raw.Param.{Param}
use Rattle.cf_tree.specs.ExprTree.{ExprTree, expr_lit, expr_truth, expr_var, expr_set_of, expr_tuple, expr_neg, expr_not, expr_abs, expr_binary, expr_chain, expr_min, expr_max, expr_divides, expr_div, expr_mod, expr_card, expr_if, expr_call, expr_let, expr_choose, expr_choose_where, expr_match, ExprTrees, no_exprs, expr_more, match_arm, MatchArmTrees, no_match_arms, match_arm_more}
use Rattle.cf_program.specs.Lowered.{divisor, test_by, test, any_test, any_fits, unless_last, with_variables, lowered, all_lowered, picked}
use Rattle.cf_program.specs.TypedProgram.{arm_numbers, numbers, numbers_all, numbers_arms}

-- how often a number stands in a list
abbrev pub times : ℕ → List ℕ → ℕ
times k [] = 0
times k (n ∷ ns) = cond (nat_eq k n) 1 0 + times k ns

pub times-append : (k : ℕ) (ms ns : List ℕ) → times k (ms ++ ns) ≡ times k ms + times k ns
times-append k [] ns = omega arith
times-append k (m ∷ ms) ns = omega (arith, times-append k ms ns)

test_by_numbers : (x d : ℕ) (k : ℤ) → numbers (test_by x d k) ≡ []
test_by_numbers x zero k = refl
test_by_numbers x (suc d) k = refl

test_numbers : (x : ℕ) (factors : List ℤ) (k : ℤ) → numbers (test x factors k) ≡ []
test_numbers x factors k = test_by_numbers x (divisor factors) k

any_test_numbers : (x : ℕ) (before : ExprTree) (arms : MatchArmTrees) → numbers before ≡ [] → numbers (any_test x before arms) ≡ []
any_test_numbers x before no_match_arms h = h
any_test_numbers x before (match_arm_more (match_arm m factors k body) arms) h =
    any_test_numbers x (expr_binary Or before (test x factors k)) arms (rw (h, test_numbers x factors k) refl)

any_fits_numbers : (x : ℕ) (arms : MatchArmTrees) → numbers (any_fits x arms) ≡ []
any_fits_numbers x no_match_arms = refl
any_fits_numbers x (match_arm_more (match_arm m factors k body) arms) = any_test_numbers x (test x factors k) arms (test_numbers x factors k)

with_variables_numbers : (m x : ℕ) (scope : List Param) (factors : List ℤ) (k : ℤ) (body : ExprTree) →
    numbers (with_variables m x scope factors k body) ≡ arm_numbers m factors ++ numbers body
with_variables_numbers m x scope [] k body = refl
with_variables_numbers m x scope (f ∷ factors) k body = refl

unless_last_numbers : (c : ℕ) (fits body : ExprTree) (arms : MatchArmTrees) (rest : ExprTree) → numbers fits ≡ [] →
    times c (numbers rest) ≡ times c (numbers_arms arms) →
    times c (numbers (unless_last fits body arms rest)) ≡ times c (numbers body) + times c (numbers_arms arms)
unless_last_numbers c fits body no_match_arms rest f r = omega arith
unless_last_numbers c fits body (match_arm_more arm arms) rest f r = rw f (times-append c (numbers body) (numbers rest)
    ∙ ap (λ n. times c (numbers body) + n) r)

-- two lists and three
pub pairs : (c : ℕ) (xs bs xs' bs' : List ℕ) → times c xs' ≡ times c xs → times c bs' ≡ times c bs → times c (xs' ++ bs') ≡ times c (xs ++ bs)
pairs c xs bs xs' bs' p q = omega (arith, p, q, times-append c xs' bs', times-append c xs bs)

module _ (c : ℕ) where
  match_numbers : (n : ℕ) (xs xs' ts ps rs : List ℕ) → ts ≡ [] → times c xs' ≡ times c xs → times c ps ≡ times c rs →
      times c ((xs' ++ (ts ++ [] ++ n ∷ [])) ++ ps) ≡ times c (n ∷ xs ++ rs)
  match_numbers n xs xs' ts ps rs t p q =
      rw t (omega (arith, p, q, times-append c (xs' ++ n ∷ []) ps, times-append c xs' (n ∷ []), times-append c (n ∷ xs) rs))

  arm_counts : (whole arm ms ls bs rs : List ℕ) → times c whole ≡ times c arm + times c rs → arm ≡ ms ++ ls → times c ls ≡ times c bs →
      times c whole ≡ times c (ms ++ bs ++ rs)
  arm_counts whole arm ms ls bs rs w e l =
      let counted : times c arm ≡ times c ms + times c ls = ap (times c) e ∙ times-append c ms ls in
      omega (arith, w, l, counted, times-append c (ms ++ bs) rs, times-append c ms bs)

  mutual
    pub lowered_numbers : (e : ExprTree) → times c (numbers (lowered e)) ≡ times c (numbers e)
    lowered_numbers (expr_lit k) = refl
    lowered_numbers (expr_truth t) = refl
    lowered_numbers (expr_var x) = refl
    lowered_numbers (expr_set_of es) = all_lowered_numbers es
    lowered_numbers (expr_tuple es) = all_lowered_numbers es
    lowered_numbers (expr_neg a) = lowered_numbers a
    lowered_numbers (expr_not a) = lowered_numbers a
    lowered_numbers (expr_abs a) = lowered_numbers a
    lowered_numbers (expr_binary op a b) = pairs c (numbers a) (numbers b) (numbers (lowered a)) (numbers (lowered b)) (lowered_numbers a) (lowered_numbers b)
    lowered_numbers (expr_chain orders es) = all_lowered_numbers es
    lowered_numbers (expr_min es) = all_lowered_numbers es
    lowered_numbers (expr_max es) = all_lowered_numbers es
    lowered_numbers (expr_divides k a) = lowered_numbers a
    lowered_numbers (expr_div a k) = lowered_numbers a
    lowered_numbers (expr_mod a k) = lowered_numbers a
    lowered_numbers (expr_card a) = lowered_numbers a
    lowered_numbers (expr_if t a b) =
        pairs c (numbers t ++ numbers a) (numbers b) (numbers (lowered t) ++ numbers (lowered a)) (numbers (lowered b))
        (pairs c (numbers t) (numbers a) (numbers (lowered t)) (numbers (lowered a)) (lowered_numbers t) (lowered_numbers a)) (lowered_numbers b)
    lowered_numbers (expr_call f es) = all_lowered_numbers es
    lowered_numbers (expr_let n a b) = pairs c (numbers a) (numbers b) (numbers (lowered a)) (numbers (lowered b)) (lowered_numbers a) (lowered_numbers b)
    lowered_numbers (expr_choose n scope outputs rel) = refl
    lowered_numbers (expr_choose_where n scope outputs hidden given rel aim) = refl
    lowered_numbers (expr_match n scope a arms) =
        match_numbers n (numbers a) (numbers (lowered a)) (numbers (any_fits (length scope - 1) arms)) (numbers (picked (length scope - 1) scope arms))
        (numbers_arms arms)
        (any_fits_numbers (length scope - 1) arms) (lowered_numbers a) (picked_numbers (length scope - 1) scope arms)

    all_lowered_numbers : (es : ExprTrees) → times c (numbers_all (all_lowered es)) ≡ times c (numbers_all es)
    all_lowered_numbers no_exprs = refl
    all_lowered_numbers (expr_more e es) =
        pairs c (numbers e) (numbers_all es) (numbers (lowered e)) (numbers_all (all_lowered es)) (lowered_numbers e) (all_lowered_numbers es)

    picked_numbers : (x : ℕ) (scope : List Param) (arms : MatchArmTrees) → times c (numbers (picked x scope arms)) ≡ times c (numbers_arms arms)
    picked_numbers x scope no_match_arms = refl
    picked_numbers x scope (match_arm_more (match_arm m factors k body) arms) =
        arm_counts (numbers (unless_last (test x factors k) (with_variables m x scope factors k (lowered body)) arms (picked x scope arms)))
        (numbers (with_variables m x scope factors k (lowered body))) (arm_numbers m factors) (numbers (lowered body)) (numbers body) (numbers_arms arms)
        (unless_last_numbers c (test x factors k) (with_variables m x scope factors k (lowered body)) arms (picked x scope arms) (test_numbers x factors k)
        (picked_numbers x scope arms))
        (with_variables_numbers m x scope factors k (lowered body)) (lowered_numbers body)

-- ---- positive numbers, by their counts
apart : (j i : ℕ) → j < i → nat_eq j i ≡ false
apart j i h = grind arith

zero_apart : (n : ℕ) (ns : List ℕ) → times 0 (suc n ∷ ns) ≡ times 0 ns
zero_apart n ns = rw (apart 0 (suc n) (omega arith)) (omega arith)

pub positive_none : (ns : List ℕ) → All (λ n. 1 ≤ n) ns → times 0 ns ≡ 0
positive_none [] h = refl
positive_none (zero ∷ ns) h = absurd (let first = All-head (λ n. 1 ≤ n) zero ns h in omega (arith, first))
positive_none (suc n ∷ ns) h = zero_apart n ns ∙ positive_none ns (All-tail (λ n. 1 ≤ n) (suc n) ns h)

none_zero : (ns : List ℕ) → times 0 (zero ∷ ns) ≡ 0 → ⊥
none_zero ns h = omega (arith, h)

pub none_positive : (ns : List ℕ) → times 0 ns ≡ 0 → All (λ n. 1 ≤ n) ns
none_positive [] h = All-nil (λ n. 1 ≤ n)
none_positive (zero ∷ ns) h = absurd (none_zero ns h)
none_positive (suc n ∷ ns) h = All-cons (λ n. 1 ≤ n) (suc n) ns (omega arith) (none_positive ns (sym (zero_apart n ns) ∙ h))
