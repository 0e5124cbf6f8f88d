-- The matches of a program: the number of each, the numbers of its arms, and their classes.
use Rattle.std.specs.Prelude.{ℕ, List, [], ◌∷◌, ◌++◌}
use Rattle.cf_tree.specs.DefView.{DefTree}
use Rattle.cf_tree.specs.ExprTree.{ExprTree, expr_lit, expr_truth, expr_var, expr_set_of, expr_tuple, expr_neg, expr_not, expr_abs, expr_binary, expr_chain, expr_min, expr_max, expr_divides, expr_div, expr_mod, expr_card, expr_if, expr_call, expr_let, expr_choose, expr_choose_where, expr_match, ExprTrees, no_exprs, expr_more, MatchArmTree, match_arm, MatchArmTrees, no_match_arms, match_arm_more}
use Rattle.cf_match.specs.declared.class.Class.{Class}
use Rattle.cf_match.specs.declared.lowered.MatchInfo.{MatchInfo}
use Rattle.cf_match.specs.Classes.{class_of}

pub record MatchTree : Type 0 where
  pub number : ℕ
  pub arms : List ℕ
  pub classes : List Class

abbrev pub match_tree : MatchInfo → MatchTree
match_tree m = record { number = m.number; arms = m.arms.items; classes = m.classes.items }

-- the number of an arm, 0 for one without variables
abbrev pub number_of_arm : MatchArmTree → ℕ
number_of_arm (match_arm m factors k body) = m

abbrev pub class_of_arm : MatchArmTree → Class
class_of_arm (match_arm m factors k body) = class_of factors k

abbrev pub numbers_of : MatchArmTrees → List ℕ
numbers_of no_match_arms = []
numbers_of (match_arm_more a arms) = number_of_arm a ∷ numbers_of arms

abbrev pub classes_of : MatchArmTrees → List Class
classes_of no_match_arms = []
classes_of (match_arm_more a arms) = class_of_arm a ∷ classes_of arms

-- the matches in an expression, in the order of the text
abbrev mutual
  pub matches : ExprTree → List MatchTree
  matches (expr_lit k) = []
  matches (expr_truth t) = []
  matches (expr_var x) = []
  matches (expr_set_of es) = matches_all es
  matches (expr_tuple es) = matches_all es
  matches (expr_neg a) = matches a
  matches (expr_not a) = matches a
  matches (expr_abs a) = matches a
  matches (expr_binary op a b) = matches a ++ matches b
  matches (expr_chain orders es) = matches_all es
  matches (expr_min es) = matches_all es
  matches (expr_max es) = matches_all es
  matches (expr_divides k a) = matches a
  matches (expr_div a k) = matches a
  matches (expr_mod a k) = matches a
  matches (expr_card a) = matches a
  matches (expr_if t a b) = matches t ++ matches a ++ matches b
  matches (expr_call f es) = matches_all es
  matches (expr_let n a b) = matches a ++ matches b
  matches (expr_choose n scope outputs rel) = []
  matches (expr_choose_where n scope outputs hidden given rel aim) = []
  matches (expr_match n scope a arms) = record { number = n; arms = numbers_of arms; classes = classes_of arms } ∷ matches a ++ matches_arms arms

  pub matches_all : ExprTrees → List MatchTree
  matches_all no_exprs = []
  matches_all (expr_more e es) = matches e ++ matches_all es

  pub matches_arms : MatchArmTrees → List MatchTree
  matches_arms no_match_arms = []
  matches_arms (match_arm_more (match_arm m factors k body) arms) = matches body ++ matches_arms arms

-- those of all functions
abbrev pub all_matches : List DefTree → List MatchTree
all_matches [] = []
all_matches (d ∷ ds) = matches d.body ++ all_matches ds
