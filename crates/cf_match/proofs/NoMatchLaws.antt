-- A lowered form holds no match, and lowering it again changes nothing.
use Rattle.std.proofs.Common.{◌≡◌, ℕ, zero, suc, ◌-◌, ℤ, List, [], ◌∷◌, length, refl, ap}
use Rattle.cf_tree.specs.declared.raw.BinOp.TheVariants.{Or}
use Rattle.cf_tree.specs.declared.raw.Param.{Param}
use Rattle.cf_tree.specs.ExprTree.{ExprTree, expr_lit, expr_truth, expr_var, expr_set_of, expr_tuple, expr_neg, expr_not, expr_abs, expr_binary, expr_chain, expr_min, expr_max, expr_divides, expr_div, expr_mod, expr_card, expr_if, expr_call, expr_let, expr_choose, expr_choose_where, expr_match, ExprTrees, no_exprs, expr_more, match_arm, MatchArmTrees, no_match_arms, match_arm_more}
use Rattle.cf_program.specs.Lowered.{divisor, test_by, test, any_test, any_fits, unless_last, with_variables, lowered, all_lowered, picked}
use Rattle.cf_program.specs.NoMatch.{HasNoMatch, HaveNoMatch}

test_by_none : (x d : ℕ) (k : ℤ) → HasNoMatch (test_by x d k)
test_by_none x zero k = (tt, tt)
test_by_none x (suc d) k = (tt, tt)

test_none : (x : ℕ) (factors : List ℤ) (k : ℤ) → HasNoMatch (test x factors k)
test_none x factors k = test_by_none x (divisor factors) k

any_test_none : (x : ℕ) (before : ExprTree) (arms : MatchArmTrees) → HasNoMatch before → HasNoMatch (any_test x before arms)
any_test_none x before no_match_arms h = h
any_test_none x before (match_arm_more (match_arm m factors k body) arms) h =
    any_test_none x (expr_binary Or before (test x factors k)) arms (h, test_none x factors k)

any_fits_none : (x : ℕ) (arms : MatchArmTrees) → HasNoMatch (any_fits x arms)
any_fits_none x no_match_arms = tt
any_fits_none x (match_arm_more (match_arm m factors k body) arms) = any_test_none x (test x factors k) arms (test_none x factors k)

with_variables_none : (m x : ℕ) (scope : List Param) (factors : List ℤ) (k : ℤ) (body : ExprTree) → HasNoMatch body →
    HasNoMatch (with_variables m x scope factors k body)
with_variables_none m x scope [] k body h = h
with_variables_none m x scope (f ∷ factors) k body h = (tt, h)

unless_last_none : (fits body : ExprTree) (arms : MatchArmTrees) (rest : ExprTree) → HasNoMatch fits → HasNoMatch body → HasNoMatch rest →
    HasNoMatch (unless_last fits body arms rest)
unless_last_none fits body no_match_arms rest f b r = b
unless_last_none fits body (match_arm_more arm arms) rest f b r = (f, b, r)

mutual
  pub lowered_none : (e : ExprTree) → HasNoMatch (lowered e)
  lowered_none (expr_lit k) = tt
  lowered_none (expr_truth t) = tt
  lowered_none (expr_var x) = tt
  lowered_none (expr_set_of es) = all_lowered_none es
  lowered_none (expr_tuple es) = all_lowered_none es
  lowered_none (expr_neg a) = lowered_none a
  lowered_none (expr_not a) = lowered_none a
  lowered_none (expr_abs a) = lowered_none a
  lowered_none (expr_binary op a b) = (lowered_none a, lowered_none b)
  lowered_none (expr_chain orders es) = all_lowered_none es
  lowered_none (expr_min es) = all_lowered_none es
  lowered_none (expr_max es) = all_lowered_none es
  lowered_none (expr_divides k a) = lowered_none a
  lowered_none (expr_div a k) = lowered_none a
  lowered_none (expr_mod a k) = lowered_none a
  lowered_none (expr_card a) = lowered_none a
  lowered_none (expr_if t a b) = (lowered_none t, lowered_none a, lowered_none b)
  lowered_none (expr_call f es) = all_lowered_none es
  lowered_none (expr_let n a b) = (lowered_none a, lowered_none b)
  lowered_none (expr_choose n scope outputs rel) = tt
  lowered_none (expr_choose_where n scope outputs hidden given rel aim) = tt
  lowered_none (expr_match n scope a arms) =
      ((lowered_none a, (any_fits_none (length scope - 1) arms, tt, tt)), picked_none (length scope - 1) scope arms)

  all_lowered_none : (es : ExprTrees) → HaveNoMatch (all_lowered es)
  all_lowered_none no_exprs = tt
  all_lowered_none (expr_more e es) = (lowered_none e, all_lowered_none es)

  picked_none : (x : ℕ) (scope : List Param) (arms : MatchArmTrees) → HasNoMatch (picked x scope arms)
  picked_none x scope no_match_arms = tt
  picked_none x scope (match_arm_more (match_arm m factors k body) arms) =
      unless_last_none (test x factors k) (with_variables m x scope factors k (lowered body)) arms (picked x scope arms) (test_none x factors k)
      (with_variables_none m x scope factors k (lowered body) (lowered_none body)) (picked_none x scope arms)

mutual
  pub lowered_same : (e : ExprTree) → HasNoMatch e → lowered e ≡ e
  lowered_same (expr_lit k) p = refl
  lowered_same (expr_truth t) p = refl
  lowered_same (expr_var x) p = refl
  lowered_same (expr_set_of es) p = ap expr_set_of (all_lowered_same es p)
  lowered_same (expr_tuple es) p = ap expr_tuple (all_lowered_same es p)
  lowered_same (expr_neg a) p = ap expr_neg (lowered_same a p)
  lowered_same (expr_not a) p = ap expr_not (lowered_same a p)
  lowered_same (expr_abs a) p = ap expr_abs (lowered_same a p)
  lowered_same (expr_binary op a b) p = rw (lowered_same a p.0, lowered_same b p.1) refl
  lowered_same (expr_chain orders es) p = ap (λ cs. expr_chain orders cs) (all_lowered_same es p)
  lowered_same (expr_min es) p = ap expr_min (all_lowered_same es p)
  lowered_same (expr_max es) p = ap expr_max (all_lowered_same es p)
  lowered_same (expr_divides k a) p = ap (λ c. expr_divides k c) (lowered_same a p)
  lowered_same (expr_div a k) p = ap (λ c. expr_div c k) (lowered_same a p)
  lowered_same (expr_mod a k) p = ap (λ c. expr_mod c k) (lowered_same a p)
  lowered_same (expr_card a) p = ap expr_card (lowered_same a p)
  lowered_same (expr_if t a b) p = rw (lowered_same t p.0, lowered_same a p.1, lowered_same b p.2) refl
  lowered_same (expr_call f es) p = ap (λ cs. expr_call f cs) (all_lowered_same es p)
  lowered_same (expr_let n a b) p = rw (lowered_same a p.0, lowered_same b p.1) refl
  lowered_same (expr_choose n params outputs rel) p = refl
  lowered_same (expr_choose_where n params outputs hidden given rel aim) p = refl
  lowered_same (expr_match n params a arms) p = absurd p

  all_lowered_same : (es : ExprTrees) → HaveNoMatch es → all_lowered es ≡ es
  all_lowered_same no_exprs p = refl
  all_lowered_same (expr_more e es) p = rw (lowered_same e p.0, all_lowered_same es p.1) refl

pub lowered_again : (e : ExprTree) → lowered (lowered e) ≡ lowered e
lowered_again e = lowered_same (lowered e) (lowered_none e)
