-- The plain trees that source expressions with levels stand for.
use Rattle.std.specs.Prelude.{List, map}
use Rattle.cf_tree.specs.ExprTree.{ExprTree, expr_lit, expr_truth, expr_var, expr_set_of, expr_tuple, expr_neg, expr_not, expr_abs, expr_binary, expr_chain, expr_min, expr_max, expr_divides, expr_div, expr_mod, expr_card, expr_if, expr_call, expr_let, expr_choose, expr_choose_where, expr_match, ExprTrees, MatchArmTree, match_arm, MatchArmTrees, GivenExpr, holds_always, holds_where, AimExpr, at_any, at_least, at_greatest, exprs_of, match_arms_of}
use Rattle.cf_tree.specs.RelView.{rel_tree}
use Rattle.cf_tree.specs.declared.expr.Aim.{Aim}
use Rattle.cf_tree.specs.declared.expr.Expr.{Expr}
use Rattle.cf_tree.specs.declared.expr.Given.{Given}
use Rattle.cf_tree.specs.declared.expr.MatchArm.{MatchArm}
use Rattle.cf_tree.specs.declared.expr.Aim.TheOpen.{Aim-F, Expr-F, Given-F, MatchArm-F}
use Rattle.cf_tree.specs.declared.expr.Aim.TheFolds.{fold-Aim, fold-Expr, fold-Given, fold-MatchArm}

-- one level, with the trees of the parts in their places
abbrev pub expr_step : Expr-F AimExpr ExprTree GivenExpr MatchArmTree → ExprTree
expr_step (Expr-F.Lit k) = expr_lit k
expr_step (Expr-F.Truth t) = expr_truth t
expr_step (Expr-F.Var n) = expr_var n
expr_step (Expr-F.SetOf es) = expr_set_of (exprs_of es.items)
expr_step (Expr-F.Tuple es) = expr_tuple (exprs_of es.items)
expr_step (Expr-F.Neg a) = expr_neg a.value
expr_step (Expr-F.Not a) = expr_not a.value
expr_step (Expr-F.Abs a) = expr_abs a.value
expr_step (Expr-F.Binary op a b) = expr_binary op a.value b.value
expr_step (Expr-F.Chain orders es) = expr_chain orders.items (exprs_of es.items)
expr_step (Expr-F.Min es) = expr_min (exprs_of es.items)
expr_step (Expr-F.Max es) = expr_max (exprs_of es.items)
expr_step (Expr-F.Divides k a) = expr_divides k a.value
expr_step (Expr-F.Div a k) = expr_div a.value k
expr_step (Expr-F.Mod a k) = expr_mod a.value k
expr_step (Expr-F.Card a) = expr_card a.value
expr_step (Expr-F.If a b c) = expr_if a.value b.value c.value
expr_step (Expr-F.Call n es) = expr_call n (exprs_of es.items)
expr_step (Expr-F.Let n a b) = expr_let n a.value b.value
expr_step (Expr-F.Choose n ps bs r) = expr_choose n ps.items bs.items (rel_tree r)
expr_step (Expr-F.ChooseWhere n ps bs hs g a aim) = expr_choose_where n ps.items bs.items hs.items g a.value aim
expr_step (Expr-F.Match n ps a arms) = expr_match n ps.items a.value (match_arms_of arms.items)

abbrev pub match_arm_step : MatchArm-F AimExpr ExprTree GivenExpr MatchArmTree → MatchArmTree
match_arm_step a = match_arm a.number a.factors.items a.constant a.body

abbrev pub given_step : Given-F AimExpr ExprTree GivenExpr MatchArmTree → GivenExpr
given_step Given-F.Always = holds_always
given_step (Given-F.Where a) = holds_where a.value

abbrev pub aim_step : Aim-F AimExpr ExprTree GivenExpr MatchArmTree → AimExpr
aim_step Aim-F.Any = at_any
aim_step (Aim-F.Least a) = at_least a.value
aim_step (Aim-F.Greatest a) = at_greatest a.value

abbrev pub expr_tree : Expr → ExprTree
expr_tree = fold-Expr AimExpr ExprTree GivenExpr MatchArmTree aim_step expr_step given_step match_arm_step

abbrev pub match_arm_tree : MatchArm → MatchArmTree
match_arm_tree = fold-MatchArm AimExpr ExprTree GivenExpr MatchArmTree aim_step expr_step given_step match_arm_step

abbrev pub given_expr : Given → GivenExpr
given_expr = fold-Given AimExpr ExprTree GivenExpr MatchArmTree aim_step expr_step given_step match_arm_step

abbrev pub aim_expr : Aim → AimExpr
aim_expr = fold-Aim AimExpr ExprTree GivenExpr MatchArmTree aim_step expr_step given_step match_arm_step

abbrev pub expr_trees : List Expr → ExprTrees
expr_trees es = exprs_of (map expr_tree es)

abbrev pub match_arm_trees : List MatchArm → MatchArmTrees
match_arm_trees arms = match_arms_of (map match_arm_tree arms)
