-- Parameters of functions that stand nowhere in them.
use Rattle.std.specs.Prelude.{ℕ, suc, nat_lt, Bool, true, false, ◌||◌, ◌==◌, List, [], ◌∷◌, ◌++◌, length, flat_map, if◌then◌else◌}
use Rattle.cf_tree.specs.declared.raw.Param.{Param}
use Rattle.cf_tree.specs.DefView.{DefTree}
use Rattle.cf_tree.specs.ExprTree.{ExprTree, expr_lit, expr_truth, expr_var, expr_set_of, expr_tuple, expr_neg, expr_not, expr_abs, expr_binary, expr_chain, expr_min, expr_max, expr_divides, expr_div, expr_mod, expr_card, expr_if, expr_call, expr_let, expr_choose, expr_choose_where, expr_match, ExprTrees, no_exprs, expr_more, MatchArmTree, match_arm, MatchArmTrees, no_match_arms, match_arm_more, GivenExpr, holds_always, holds_where, AimExpr, at_any, at_least, at_greatest}
use Rattle.cf_tree.specs.Occurs.{rel_holds}

-- whether the variable of level x stands in an expression: in a part of it, in what is given, in a relation or in an objective
abbrev mutual
  pub stands : ℕ → ExprTree → Bool
  stands x (expr_lit k) = false
  stands x (expr_truth t) = false
  stands x (expr_var y) = x == y
  stands x (expr_set_of es) = stands_among x es
  stands x (expr_tuple es) = stands_among x es
  stands x (expr_neg a) = stands x a
  stands x (expr_not a) = stands x a
  stands x (expr_abs a) = stands x a
  stands x (expr_binary op a b) = stands x a || stands x b
  stands x (expr_chain orders es) = stands_among x es
  stands x (expr_min es) = stands_among x es
  stands x (expr_max es) = stands_among x es
  stands x (expr_divides k a) = stands x a
  stands x (expr_div a k) = stands x a
  stands x (expr_mod a k) = stands x a
  stands x (expr_card a) = stands x a
  stands x (expr_if t a b) = stands x t || stands x a || stands x b
  stands x (expr_call f es) = stands_among x es
  stands x (expr_let n a b) = stands x a || stands x b
  stands x (expr_choose n scope outputs rel) = rel_holds x rel
  stands x (expr_choose_where n scope outputs hidden given rel aim) = stands_in_given x given || stands x rel || stands_in_aim x aim
  stands x (expr_match n scope a arms) = stands x a || stands_in_arms x arms

  pub stands_among : ℕ → ExprTrees → Bool
  stands_among x no_exprs = false
  stands_among x (expr_more e es) = stands x e || stands_among x es

  pub stands_in_arm : ℕ → MatchArmTree → Bool
  stands_in_arm x (match_arm n factors k body) = stands x body

  pub stands_in_arms : ℕ → MatchArmTrees → Bool
  stands_in_arms x no_match_arms = false
  stands_in_arms x (match_arm_more a arms) = stands_in_arm x a || stands_in_arms x arms

  pub stands_in_given : ℕ → GivenExpr → Bool
  stands_in_given x holds_always = false
  stands_in_given x (holds_where a) = stands x a

  pub stands_in_aim : ℕ → AimExpr → Bool
  stands_in_aim x at_any = false
  stands_in_aim x (at_least a) = stands x a
  stands_in_aim x (at_greatest a) = stands x a

-- the parameters, of which the first has level x, whose variables do not stand in the body
abbrev pub unused_from : ℕ → List Param → ExprTree → List Param
unused_from x [] body = []
unused_from x (p ∷ ps) body = if stands x body then unused_from (suc x) ps body else p ∷ unused_from (suc x) ps body

-- of a function with more parameters none is told
abbrev pub most_params : ℕ
most_params = 1000

-- those of a function that stand nowhere in it
abbrev pub unused : DefTree → List Param
unused d = if nat_lt most_params (length d.params) then [] else unused_from 0 d.params d.body

-- those of functions
abbrev pub all_unused : List DefTree → List Param
all_unused ds = flat_map unused ds
