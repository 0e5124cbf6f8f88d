-- The chooses of a source whose relations are expressions.
use Rattle.std.specs.Prelude.{ℕ, List, [], ◌∷◌, ◌++◌, map, reverse}
use Rattle.cf_tree.specs.declared.base.Base.{Base}
use Rattle.cf_tree.specs.declared.raw.Param.{Param}
use Rattle.cf_tree.specs.DefView.{DefTree}
use Rattle.cf_tree.specs.ExprTree.{ExprTree, expr_lit, expr_truth, expr_var, expr_set_of, expr_tuple, expr_neg, expr_not, expr_abs, expr_binary, expr_divides, expr_div, expr_mod, expr_card, expr_if, expr_call, expr_let, expr_choose, expr_match, expr_chain, expr_min, expr_max, expr_choose_where, ExprTrees, no_exprs, expr_more, match_arm, MatchArmTrees, no_match_arms, match_arm_more, GivenExpr, AimExpr}

pub record SourceChoose : Type 0 where
  pub number : ℕ
  pub scope : List Param
  pub outputs : List Base
  pub hidden : List Base
  pub given : GivenExpr
  pub relation : ExprTree
  pub aim : AimExpr

-- those in an expression, in the order of the text
abbrev mutual
  pub chooses_in : ExprTree → List SourceChoose
  chooses_in (expr_lit k) = []
  chooses_in (expr_truth t) = []
  chooses_in (expr_var x) = []
  chooses_in (expr_set_of es) = chooses_in_all es
  chooses_in (expr_tuple es) = chooses_in_all es
  chooses_in (expr_neg a) = chooses_in a
  chooses_in (expr_not a) = chooses_in a
  chooses_in (expr_abs a) = chooses_in a
  chooses_in (expr_binary op a b) = chooses_in a ++ chooses_in b
  chooses_in (expr_divides k a) = chooses_in a
  chooses_in (expr_div a k) = chooses_in a
  chooses_in (expr_mod a k) = chooses_in a
  chooses_in (expr_card a) = chooses_in a
  chooses_in (expr_if t a b) = chooses_in t ++ chooses_in a ++ chooses_in b
  chooses_in (expr_call f es) = chooses_in_all es
  chooses_in (expr_let n a b) = chooses_in a ++ chooses_in b
  chooses_in (expr_choose n scope outputs rel) = []
  chooses_in (expr_match n scope a arms) = chooses_in a ++ chooses_in_arms arms
  chooses_in (expr_chain orders es) = chooses_in_all es
  chooses_in (expr_min es) = chooses_in_all es
  chooses_in (expr_max es) = chooses_in_all es
  chooses_in (expr_choose_where n scope outputs hidden given rel aim) =
      record { number = n; scope = scope; outputs = outputs; hidden = hidden; given = given; relation = rel; aim = aim } ∷ []

  pub chooses_in_all : ExprTrees → List SourceChoose
  chooses_in_all no_exprs = []
  chooses_in_all (expr_more e es) = chooses_in e ++ chooses_in_all es

  pub chooses_in_arms : MatchArmTrees → List SourceChoose
  chooses_in_arms no_match_arms = []
  chooses_in_arms (match_arm_more (match_arm m factors k body) arms) = chooses_in body ++ chooses_in_arms arms

-- a choose with the bodies of the functions before its own, last first
abbrev pub WithBodies : Type 0
WithBodies = List ExprTree × SourceChoose

-- those of functions behind these ones
abbrev pub chooses_behind : List DefTree → List DefTree → List WithBodies
chooses_behind before [] = []
chooses_behind before (d ∷ ds) = map (λ q. (reverse (map (λ f. f.body) before), q)) (chooses_in d.body) ++ chooses_behind (before ++ d ∷ []) ds

abbrev pub source_chooses : List DefTree → List WithBodies
source_chooses ds = chooses_behind [] ds
