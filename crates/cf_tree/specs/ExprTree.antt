-- Plain trees of source expressions with levels in the place of names.
use Rattle.std.specs.Prelude.{ℕ, ℤ, ◌+◌, max, Bool, List, [], ◌∷◌}
use Rattle.cf_tree.specs.declared.base.Base.{Base}
use Rattle.cf_tree.specs.declared.base.Order.{Order}
use Rattle.cf_tree.specs.declared.raw.BinOp.{BinOp}
use Rattle.cf_tree.specs.declared.raw.Param.{Param}
use Rattle.cf_tree.specs.RelTree.{RelTree}
use Rattle.cf_tree.specs.RelSize.{rel_size, rel_depth}

mutual
  pub data ExprTree : Type 0 where
    expr_lit : ℤ → ExprTree
    expr_truth : Bool → ExprTree
    expr_var : ℕ → ExprTree
    expr_set_of : ExprTrees → ExprTree
    expr_tuple : ExprTrees → ExprTree
    expr_neg : ExprTree → ExprTree
    expr_not : ExprTree → ExprTree
    expr_abs : ExprTree → ExprTree
    expr_binary : BinOp → ExprTree → ExprTree → ExprTree
    -- the orders between the parts
    expr_chain : List Order → ExprTrees → ExprTree
    expr_min : ExprTrees → ExprTree
    expr_max : ExprTrees → ExprTree
    expr_divides : ℤ → ExprTree → ExprTree
    expr_div : ExprTree → ℤ → ExprTree
    expr_mod : ExprTree → ℤ → ExprTree
    expr_card : ExprTree → ExprTree
    expr_if : ExprTree → ExprTree → ExprTree → ExprTree
    expr_call : ℕ → ExprTrees → ExprTree
    expr_let : ℕ → ExprTree → ExprTree → ExprTree
    expr_choose : ℕ → List Param → List Base → RelTree → ExprTree
    -- the bases of the outputs and of the hidden ones, what is given, the relation, and what is aimed at
    expr_choose_where : ℕ → List Param → List Base → List Base → GivenExpr → ExprTree → AimExpr → ExprTree
    expr_match : ℕ → List Param → ExprTree → MatchArmTrees → ExprTree

  pub data ExprTrees : Type 0 where
    no_exprs : ExprTrees
    expr_more : ExprTree → ExprTrees → ExprTrees

  -- the number, the factors and the constant of the pattern, and the body
  pub data MatchArmTree : Type 0 where
    match_arm : ℕ → List ℤ → ℤ → ExprTree → MatchArmTree

  pub data MatchArmTrees : Type 0 where
    no_match_arms : MatchArmTrees
    match_arm_more : MatchArmTree → MatchArmTrees → MatchArmTrees

  -- what a choose takes its inputs to be
  pub data GivenExpr : Type 0 where
    holds_always : GivenExpr
    holds_where : ExprTree → GivenExpr

  -- which of its solutions a choose allows: any, or those at which an expression, one number or several, is least or greatest
  pub data AimExpr : Type 0 where
    at_any : AimExpr
    at_least : ExprTree → AimExpr
    at_greatest : ExprTree → AimExpr

abbrev pub exprs_of : List ExprTree → ExprTrees
exprs_of [] = no_exprs
exprs_of (e ∷ es) = expr_more e (exprs_of es)

abbrev pub match_arms_of : List MatchArmTree → MatchArmTrees
match_arms_of [] = no_match_arms
match_arms_of (a ∷ arms) = match_arm_more a (match_arms_of arms)

-- how many nodes an expression has, those of relations among them; the pattern of an arm is one
abbrev mutual
  pub expr_size : ExprTree → ℕ
  expr_size (expr_lit k) = 1
  expr_size (expr_truth t) = 1
  expr_size (expr_var n) = 1
  expr_size (expr_set_of es) = 1 + exprs_size es
  expr_size (expr_tuple es) = 1 + exprs_size es
  expr_size (expr_neg a) = 1 + expr_size a
  expr_size (expr_not a) = 1 + expr_size a
  expr_size (expr_abs a) = 1 + expr_size a
  expr_size (expr_binary op a b) = 1 + expr_size a + expr_size b
  expr_size (expr_chain orders es) = 1 + exprs_size es
  expr_size (expr_min es) = 1 + exprs_size es
  expr_size (expr_max es) = 1 + exprs_size es
  expr_size (expr_divides k a) = 1 + expr_size a
  expr_size (expr_div a k) = 1 + expr_size a
  expr_size (expr_mod a k) = 1 + expr_size a
  expr_size (expr_card a) = 1 + expr_size a
  expr_size (expr_if a b c) = 1 + expr_size a + expr_size b + expr_size c
  expr_size (expr_call n es) = 1 + exprs_size es
  expr_size (expr_let n a b) = 1 + expr_size a + expr_size b
  expr_size (expr_choose n ps bs r) = 1 + rel_size r
  expr_size (expr_choose_where n ps bs hs g a aim) = 1 + given_expr_size g + expr_size a + aim_expr_size aim
  expr_size (expr_match n ps a arms) = 1 + expr_size a + match_arms_size arms

  pub exprs_size : ExprTrees → ℕ
  exprs_size no_exprs = 0
  exprs_size (expr_more e es) = expr_size e + exprs_size es

  pub match_arm_size : MatchArmTree → ℕ
  match_arm_size (match_arm n factors k body) = 1 + expr_size body

  pub match_arms_size : MatchArmTrees → ℕ
  match_arms_size no_match_arms = 0
  match_arms_size (match_arm_more a arms) = match_arm_size a + match_arms_size arms

  pub given_expr_size : GivenExpr → ℕ
  given_expr_size holds_always = 0
  given_expr_size (holds_where a) = expr_size a

  pub aim_expr_size : AimExpr → ℕ
  aim_expr_size at_any = 0
  aim_expr_size (at_least a) = expr_size a
  aim_expr_size (at_greatest a) = expr_size a

-- 1 for a leaf, and 1 more than the deepest part for any other expression; the pattern of an arm is a leaf
abbrev mutual
  pub expr_depth : ExprTree → ℕ
  expr_depth (expr_lit k) = 1
  expr_depth (expr_truth t) = 1
  expr_depth (expr_var n) = 1
  expr_depth (expr_set_of es) = 1 + exprs_depth es
  expr_depth (expr_tuple es) = 1 + exprs_depth es
  expr_depth (expr_neg a) = 1 + expr_depth a
  expr_depth (expr_not a) = 1 + expr_depth a
  expr_depth (expr_abs a) = 1 + expr_depth a
  expr_depth (expr_binary op a b) = 1 + max (expr_depth a) (expr_depth b)
  expr_depth (expr_chain orders es) = 1 + exprs_depth es
  expr_depth (expr_min es) = 1 + exprs_depth es
  expr_depth (expr_max es) = 1 + exprs_depth es
  expr_depth (expr_divides k a) = 1 + expr_depth a
  expr_depth (expr_div a k) = 1 + expr_depth a
  expr_depth (expr_mod a k) = 1 + expr_depth a
  expr_depth (expr_card a) = 1 + expr_depth a
  expr_depth (expr_if a b c) = 1 + max (expr_depth a) (max (expr_depth b) (expr_depth c))
  expr_depth (expr_call n es) = 1 + exprs_depth es
  expr_depth (expr_let n a b) = 1 + max (expr_depth a) (expr_depth b)
  expr_depth (expr_choose n ps bs r) = 1 + rel_depth r
  expr_depth (expr_choose_where n ps bs hs g a aim) = 1 + max (given_expr_depth g) (max (expr_depth a) (aim_expr_depth aim))
  expr_depth (expr_match n ps a arms) = 1 + max (expr_depth a) (match_arms_depth arms)

  pub exprs_depth : ExprTrees → ℕ
  exprs_depth no_exprs = 0
  exprs_depth (expr_more e es) = max (expr_depth e) (exprs_depth es)

  pub match_arm_depth : MatchArmTree → ℕ
  match_arm_depth (match_arm n factors k body) = max 1 (expr_depth body)

  pub match_arms_depth : MatchArmTrees → ℕ
  match_arms_depth no_match_arms = 0
  match_arms_depth (match_arm_more a arms) = max (match_arm_depth a) (match_arms_depth arms)

  pub given_expr_depth : GivenExpr → ℕ
  given_expr_depth holds_always = 0
  given_expr_depth (holds_where a) = expr_depth a

  pub aim_expr_depth : AimExpr → ℕ
  aim_expr_depth at_any = 0
  aim_expr_depth (at_least a) = expr_depth a
  aim_expr_depth (at_greatest a) = expr_depth a
