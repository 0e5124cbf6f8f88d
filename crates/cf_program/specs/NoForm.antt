-- Expressions in which no chain stands, no `min` and `max`, no `==>`, and no choose whose relation is an expression.
use Rattle.cf_tree.specs.declared.raw.BinOp.{BinOp}
use Rattle.cf_tree.specs.declared.raw.BinOp.TheVariants.{Implies}
use Rattle.cf_tree.specs.ExprTree.{ExprTree, expr_lit, expr_truth, expr_var, expr_set_of, expr_tuple, expr_neg, expr_not, expr_abs, expr_binary, expr_chain, expr_min, expr_max, expr_divides, expr_div, expr_mod, expr_card, expr_if, expr_call, expr_let, expr_choose, expr_choose_where, expr_match, ExprTrees, no_exprs, expr_more, match_arm, MatchArmTrees, no_match_arms, match_arm_more}

abbrev pub IsNotImplies : BinOp → Type 0
IsNotImplies Implies = ⊥
IsNotImplies op = Unit {0}

abbrev mutual
  pub HasNoForm : ExprTree → Type 0
  HasNoForm (expr_lit k) = Unit {0}
  HasNoForm (expr_truth t) = Unit {0}
  HasNoForm (expr_var x) = Unit {0}
  HasNoForm (expr_set_of es) = HaveNoForm es
  HasNoForm (expr_tuple es) = HaveNoForm es
  HasNoForm (expr_neg a) = HasNoForm a
  HasNoForm (expr_not a) = HasNoForm a
  HasNoForm (expr_abs a) = HasNoForm a
  HasNoForm (expr_binary op a b) = IsNotImplies op × HasNoForm a × HasNoForm b
  HasNoForm (expr_chain orders es) = ⊥
  HasNoForm (expr_min es) = ⊥
  HasNoForm (expr_max es) = ⊥
  HasNoForm (expr_divides k a) = HasNoForm a
  HasNoForm (expr_div a k) = HasNoForm a
  HasNoForm (expr_mod a k) = HasNoForm a
  HasNoForm (expr_card a) = HasNoForm a
  HasNoForm (expr_if t a b) = HasNoForm t × HasNoForm a × HasNoForm b
  HasNoForm (expr_call f es) = HaveNoForm es
  HasNoForm (expr_let n a b) = HasNoForm a × HasNoForm b
  HasNoForm (expr_choose n scope outputs rel) = Unit {0}
  HasNoForm (expr_choose_where n scope outputs hidden given rel aim) = ⊥
  HasNoForm (expr_match n scope a arms) = HasNoForm a × ArmsHaveNoForm arms

  pub HaveNoForm : ExprTrees → Type 0
  HaveNoForm no_exprs = Unit {0}
  HaveNoForm (expr_more e es) = HasNoForm e × HaveNoForm es

  pub ArmsHaveNoForm : MatchArmTrees → Type 0
  ArmsHaveNoForm no_match_arms = Unit {0}
  ArmsHaveNoForm (match_arm_more (match_arm m factors k body) arms) = HasNoForm body × ArmsHaveNoForm arms
