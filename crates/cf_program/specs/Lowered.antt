-- Matches as chooses: the lowered form of an expression.
--
-- A match of a value first binds it under the name `match`, where a choose without solutions stands for a value that no arm fits; then it tests the arms in order.
use Rattle.std.specs.Prelude.{ℕ, zero, suc, ◌-◌, ℤ, pos, unsigned_abs, false, List, [], ◌∷◌, length, map}
use Rattle.cf_num.specs.Divisors.{gcd_of}
use Rattle.cf_tree.specs.declared.base.Base.TheVariants.{Int}
use Rattle.cf_tree.specs.declared.base.Order.TheVariants.{Eq}
use Rattle.cf_tree.specs.declared.raw.BinOp.TheVariants.{Or, Compare}
use Rattle.cf_tree.specs.declared.raw.Param.{Param}
use Rattle.cf_tree.specs.DefView.{DefTree}
use Rattle.cf_tree.specs.ExprTree.{ExprTree, expr_lit, expr_truth, expr_var, expr_set_of, expr_tuple, expr_neg, expr_not, expr_abs, expr_binary, expr_chain, expr_min, expr_max, expr_divides, expr_div, expr_mod, expr_card, expr_if, expr_call, expr_let, expr_choose, expr_choose_where, expr_match, ExprTrees, no_exprs, expr_more, match_arm, MatchArmTrees, no_match_arms, match_arm_more}
use Rattle.cf_tree.specs.Numbers.{remainder}
use Rattle.cf_tree.specs.RelTree.{TermTree, term_lit, term_var, term_add, term_mul, rel_false, rel_compare}

-- the greatest common divisor of the factors of a pattern, 0 where all are 0
abbrev pub divisor : List ℤ → ℕ
divisor [] = 0
divisor (f ∷ factors) = gcd_of (unsigned_abs f) (divisor factors)

-- the test whether some numbers make a pattern the number of level x: with divisor 0 it is the constant alone, else all numbers with the constant's remainder
abbrev pub test_by : ℕ → ℕ → ℤ → ExprTree
test_by x zero k = expr_binary (Compare Eq) (expr_var x) (expr_lit k)
test_by x (suc d) k = expr_binary (Compare Eq) (expr_mod (expr_var x) (pos (suc d))) (expr_lit (remainder k (pos (suc d))))

abbrev pub test : ℕ → List ℤ → ℤ → ExprTree
test x factors k = test_by x (divisor factors) k

-- `sum`, then each factor times its variable, from level y on, then the constant
abbrev pub added : TermTree → ℕ → List ℤ → ℤ → TermTree
added sum y [] k = term_add sum (term_lit k)
added sum y (f ∷ factors) k = added (term_add sum (term_mul (term_lit f) (term_var y))) (suc y) factors k

-- the sum of a pattern with variables from level y on
abbrev pub pattern_term : ℕ → List ℤ → ℤ → TermTree
pattern_term y [] k = term_lit k
pattern_term y (f ∷ factors) k = added (term_mul (term_lit f) (term_var y)) (suc y) factors k

-- the body of an arm, for which choose number m picks the variables
abbrev pub with_variables : ℕ → ℕ → List Param → List ℤ → ℤ → ExprTree → ExprTree
with_variables m x scope [] k body = body
with_variables m x scope (f ∷ factors) k body =
    expr_let (length (f ∷ factors))
    (expr_choose m scope (map (λ _. Int) (f ∷ factors)) (rel_compare Eq (term_var x) (pattern_term (suc x) (f ∷ factors) k)))
    body

-- whether any of the arms fits, with the tests before on the left
abbrev pub any_test : ℕ → ExprTree → MatchArmTrees → ExprTree
any_test x before no_match_arms = before
any_test x before (match_arm_more (match_arm m factors k body) arms) = any_test x (expr_binary Or before (test x factors k)) arms

abbrev pub any_fits : ℕ → MatchArmTrees → ExprTree
any_fits x no_match_arms = expr_truth false
any_fits x (match_arm_more (match_arm m factors k body) arms) = any_test x (test x factors k) arms

-- the matched value, of level x, where an arm fits it
abbrev pub fitting : ℕ → ℕ → List Param → ExprTree → MatchArmTrees → ExprTree
fitting n x scope a arms =
    expr_let 1 a (expr_if (any_fits x arms) (expr_var x) (expr_choose n scope (Int ∷ []) rel_false))

-- the body of an arm where it fits, and else the rest; the last arm needs no test
abbrev pub unless_last : ExprTree → ExprTree → MatchArmTrees → ExprTree → ExprTree
unless_last fits body no_match_arms rest = body
unless_last fits body (match_arm_more arm arms) rest = expr_if fits body rest

abbrev mutual
  pub lowered : ExprTree → ExprTree
  lowered (expr_lit k) = expr_lit k
  lowered (expr_truth t) = expr_truth t
  lowered (expr_var x) = expr_var x
  lowered (expr_set_of es) = expr_set_of (all_lowered es)
  lowered (expr_tuple es) = expr_tuple (all_lowered es)
  lowered (expr_neg a) = expr_neg (lowered a)
  lowered (expr_not a) = expr_not (lowered a)
  lowered (expr_abs a) = expr_abs (lowered a)
  lowered (expr_binary op a b) = expr_binary op (lowered a) (lowered b)
  lowered (expr_chain orders es) = expr_chain orders (all_lowered es)
  lowered (expr_min es) = expr_min (all_lowered es)
  lowered (expr_max es) = expr_max (all_lowered es)
  lowered (expr_divides k a) = expr_divides k (lowered a)
  lowered (expr_div a k) = expr_div (lowered a) k
  lowered (expr_mod a k) = expr_mod (lowered a) k
  lowered (expr_card a) = expr_card (lowered a)
  lowered (expr_if t a b) = expr_if (lowered t) (lowered a) (lowered b)
  lowered (expr_call f es) = expr_call f (all_lowered es)
  lowered (expr_let n a b) = expr_let n (lowered a) (lowered b)
  lowered (expr_choose n scope outputs rel) = expr_choose n scope outputs rel
  lowered (expr_choose_where n scope outputs hidden given rel aim) = expr_choose_where n scope outputs hidden given rel aim
  lowered (expr_match n scope a arms) =
      expr_let 1 (fitting n (length scope - 1) scope (lowered a) arms) (picked (length scope - 1) scope arms)

  pub all_lowered : ExprTrees → ExprTrees
  all_lowered no_exprs = no_exprs
  all_lowered (expr_more e es) = expr_more (lowered e) (all_lowered es)

  -- the first arm that fits the value of level x
  pub picked : ℕ → List Param → MatchArmTrees → ExprTree
  picked x scope no_match_arms = expr_tuple no_exprs
  picked x scope (match_arm_more (match_arm m factors k body) arms) =
      unless_last (test x factors k) (with_variables m x scope factors k (lowered body)) arms (picked x scope arms)

-- a function with each match as the chooses that it stands for
abbrev pub lowered_def : DefTree → DefTree
lowered_def d = record { name = d.name; params = d.params; results = d.results; body = lowered d.body }
