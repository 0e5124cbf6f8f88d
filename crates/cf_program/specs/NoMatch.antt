-- Expressions in which no match stands, outside of the relations of chooses.
use Rattle.cf_tree.specs.ExprTree.{ExprTree, expr_lit, expr_truth, expr_var, expr_set_of, expr_tuple, expr_neg, expr_not, expr_abs, expr_binary, expr_chain, expr_min, expr_max, expr_divides, expr_div, expr_mod, expr_card, expr_if, expr_call, expr_let, expr_choose, expr_choose_where, expr_match, ExprTrees, no_exprs, expr_more}

abbrev mutual
  pub HasNoMatch : ExprTree → Type 0
  HasNoMatch (expr_lit k) = Unit {0}
  HasNoMatch (expr_truth t) = Unit {0}
  HasNoMatch (expr_var x) = Unit {0}
  HasNoMatch (expr_set_of es) = HaveNoMatch es
  HasNoMatch (expr_tuple es) = HaveNoMatch es
  HasNoMatch (expr_neg a) = HasNoMatch a
  HasNoMatch (expr_not a) = HasNoMatch a
  HasNoMatch (expr_abs a) = HasNoMatch a
  HasNoMatch (expr_binary op a b) = HasNoMatch a × HasNoMatch b
  HasNoMatch (expr_chain orders es) = HaveNoMatch es
  HasNoMatch (expr_min es) = HaveNoMatch es
  HasNoMatch (expr_max es) = HaveNoMatch es
  HasNoMatch (expr_divides k a) = HasNoMatch a
  HasNoMatch (expr_div a k) = HasNoMatch a
  HasNoMatch (expr_mod a k) = HasNoMatch a
  HasNoMatch (expr_card a) = HasNoMatch a
  HasNoMatch (expr_if t a b) = HasNoMatch t × HasNoMatch a × HasNoMatch b
  HasNoMatch (expr_call f es) = HaveNoMatch es
  HasNoMatch (expr_let n a b) = HasNoMatch a × HasNoMatch b
  HasNoMatch (expr_choose n scope outputs rel) = Unit {0}
  HasNoMatch (expr_choose_where n scope outputs hidden given rel aim) = Unit {0}
  HasNoMatch (expr_match n scope a arms) = ⊥

  pub HaveNoMatch : ExprTrees → Type 0
  HaveNoMatch no_exprs = Unit {0}
  HaveNoMatch (expr_more e es) = HasNoMatch e × HaveNoMatch es
