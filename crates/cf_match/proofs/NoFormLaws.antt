-- A lowered form has no form that its expression has not.
use Rattle.std.proofs.Common.{ℕ, zero, suc, ◌-◌, ℤ, List, [], ◌∷◌, length}
use Rattle.cf_tree.specs.declared.raw.BinOp.TheVariants.{Or}
use Rattle.cf_tree.specs.declared.raw.Param.{Param}
use Rattle.cf_tree.specs.ExprTree.{ExprTree, expr_lit, expr_truth, expr_var, expr_set_of, expr_tuple, expr_neg, expr_not, expr_abs, expr_binary, expr_chain, expr_min, expr_max, expr_divides, expr_div, expr_mod, expr_card, expr_if, expr_call, expr_let, expr_choose, expr_choose_where, expr_match, ExprTrees, no_exprs, expr_more, match_arm, MatchArmTrees, no_match_arms, match_arm_more}
use Rattle.cf_program.specs.Lowered.{divisor, test_by, test, any_test, any_fits, unless_last, with_variables, lowered, all_lowered, picked}
use Rattle.cf_program.specs.NoForm.{HasNoForm, HaveNoForm, ArmsHaveNoForm}

test_by_formed : (x d : ℕ) (k : ℤ) → HasNoForm (test_by x d k)
test_by_formed x zero k = (tt, tt, tt)
test_by_formed x (suc d) k = (tt, tt, tt)

test_formed : (x : ℕ) (factors : List ℤ) (k : ℤ) → HasNoForm (test x factors k)
test_formed x factors k = test_by_formed x (divisor factors) k

any_test_formed : (x : ℕ) (before : ExprTree) (arms : MatchArmTrees) → HasNoForm before → HasNoForm (any_test x before arms)
any_test_formed x before no_match_arms h = h
any_test_formed x before (match_arm_more (match_arm m factors k body) arms) h =
    any_test_formed x (expr_binary Or before (test x factors k)) arms (tt, h, test_formed x factors k)

any_fits_formed : (x : ℕ) (arms : MatchArmTrees) → HasNoForm (any_fits x arms)
any_fits_formed x no_match_arms = tt
any_fits_formed x (match_arm_more (match_arm m factors k body) arms) = any_test_formed x (test x factors k) arms (test_formed x factors k)

with_variables_formed : (m x : ℕ) (scope : List Param) (factors : List ℤ) (k : ℤ) (body : ExprTree) → HasNoForm body →
    HasNoForm (with_variables m x scope factors k body)
with_variables_formed m x scope [] k body h = h
with_variables_formed m x scope (f ∷ factors) k body h = (tt, h)

unless_last_formed : (fits body : ExprTree) (arms : MatchArmTrees) (rest : ExprTree) → HasNoForm fits → HasNoForm body → HasNoForm rest →
    HasNoForm (unless_last fits body arms rest)
unless_last_formed fits body no_match_arms rest f b r = b
unless_last_formed fits body (match_arm_more arm arms) rest f b r = (f, b, r)

mutual
  pub lowered_formed : (e : ExprTree) → HasNoForm e → HasNoForm (lowered e)
  lowered_formed (expr_lit k) h = tt
  lowered_formed (expr_truth t) h = tt
  lowered_formed (expr_var x) h = tt
  lowered_formed (expr_set_of es) h = all_lowered_formed es h
  lowered_formed (expr_tuple es) h = all_lowered_formed es h
  lowered_formed (expr_neg a) h = lowered_formed a h
  lowered_formed (expr_not a) h = lowered_formed a h
  lowered_formed (expr_abs a) h = lowered_formed a h
  lowered_formed (expr_binary op a b) h = (h.0, lowered_formed a h.1, lowered_formed b h.2)
  lowered_formed (expr_chain orders es) h = absurd h
  lowered_formed (expr_min es) h = absurd h
  lowered_formed (expr_max es) h = absurd h
  lowered_formed (expr_divides k a) h = lowered_formed a h
  lowered_formed (expr_div a k) h = lowered_formed a h
  lowered_formed (expr_mod a k) h = lowered_formed a h
  lowered_formed (expr_card a) h = lowered_formed a h
  lowered_formed (expr_if t a b) h = (lowered_formed t h.0, lowered_formed a h.1, lowered_formed b h.2)
  lowered_formed (expr_call f es) h = all_lowered_formed es h
  lowered_formed (expr_let n a b) h = (lowered_formed a h.0, lowered_formed b h.1)
  lowered_formed (expr_choose n scope outputs rel) h = tt
  lowered_formed (expr_choose_where n scope outputs hidden given rel aim) h = absurd h
  lowered_formed (expr_match n scope a arms) h =
      ((lowered_formed a h.0, (any_fits_formed (length scope - 1) arms, tt, tt)), picked_formed (length scope - 1) scope arms h.1)

  all_lowered_formed : (es : ExprTrees) → HaveNoForm es → HaveNoForm (all_lowered es)
  all_lowered_formed no_exprs h = tt
  all_lowered_formed (expr_more e es) h = (lowered_formed e h.0, all_lowered_formed es h.1)

  picked_formed : (x : ℕ) (scope : List Param) (arms : MatchArmTrees) → ArmsHaveNoForm arms → HasNoForm (picked x scope arms)
  picked_formed x scope no_match_arms h = tt
  picked_formed x scope (match_arm_more (match_arm m factors k body) arms) h =
      unless_last_formed (test x factors k) (with_variables m x scope factors k (lowered body)) arms (picked x scope arms) (test_formed x factors k)
      (with_variables_formed m x scope factors k (lowered body) (lowered_formed body h.0)) (picked_formed x scope arms h.1)
