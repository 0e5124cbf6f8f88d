-- Forms over other parts, and lowered forms over parts that are lowered already. These words serve only the proofs of private functions.
use Rattle.std.specs.Prelude.{ℕ, ◌-◌, List, [], ◌∷◌, length}
use Rattle.cf_tree.specs.declared.base.Order.TheVariants.{Eq}
use Rattle.cf_tree.specs.declared.raw.BinOp.TheVariants.{Compare}
use Rattle.cf_tree.specs.declared.raw.Param.{Param}
use Rattle.cf_tree.specs.ExprTree.{ExprTree, expr_lit, expr_var, expr_set_of, expr_tuple, expr_neg, expr_not, expr_abs, expr_binary, expr_min, expr_max, expr_divides, expr_div, expr_mod, expr_card, expr_call, expr_let, ExprTrees, no_exprs, MatchArmTree, match_arm, MatchArmTrees, no_match_arms, match_arm_more}
use Rattle.cf_program.specs.Lowered.{test, with_variables, unless_last, fitting, lowered}
use Rattle.cf_match.specs.declared.class.Class.{Class}
use Rattle.cf_match.specs.declared.class.Class.TheVariants.{Point, Residue}

-- the same form over these parts
abbrev pub over_list : ExprTree → ExprTrees → ExprTree
over_list (expr_set_of es) parts = expr_set_of parts
over_list (expr_min es) parts = expr_min parts
over_list (expr_max es) parts = expr_max parts
over_list (expr_call f es) parts = expr_call f parts
over_list _ parts = expr_tuple parts

-- the same form over this part
abbrev pub over_one : ExprTree → ExprTree → ExprTree
over_one (expr_neg a) part = expr_neg part
over_one (expr_not a) part = expr_not part
over_one (expr_abs a) part = expr_abs part
over_one (expr_divides k a) part = expr_divides k part
over_one (expr_div a k) part = expr_div part k
over_one (expr_mod a k) part = expr_mod part k
over_one _ part = expr_card part

-- the same form over these two parts
abbrev pub over_two : ExprTree → ExprTree → ExprTree → ExprTree
over_two (expr_binary op a b) first second = expr_binary op first second
over_two (expr_let n a b) first second = expr_let n first second
over_two _ first second = first

-- the test whether the number of level x is in a class
abbrev pub class_test : ℕ → Class → ExprTree
class_test x (Point c) = expr_binary (Compare Eq) (expr_var x) (expr_lit c)
class_test x (Residue g r) = expr_binary (Compare Eq) (expr_mod (expr_var x) g) (expr_lit r)

abbrev pub body_of : MatchArmTree → ExprTree
body_of (match_arm m factors k body) = body

-- the test whether an arm fits the number of level x
abbrev pub fits_test : ℕ → MatchArmTree → ExprTree
fits_test x (match_arm m factors k body) = test x factors k

-- a lowered body behind the choose of its arm's variables
abbrev pub with_arm : ℕ → List Param → MatchArmTree → ExprTree → ExprTree
with_arm x scope (match_arm m factors k body) b = with_variables m x scope factors k b

abbrev pub bodies_lowered : MatchArmTrees → List ExprTree
bodies_lowered no_match_arms = []
bodies_lowered (match_arm_more a arms) = lowered (body_of a) ∷ bodies_lowered arms

-- the first arm that fits the value of level x, where the arms have these bodies
abbrev pub picked_of : ℕ → List Param → MatchArmTrees → List ExprTree → ExprTree
picked_of x scope no_match_arms bodies = expr_tuple no_exprs
picked_of x scope (match_arm_more a arms) [] = expr_tuple no_exprs
picked_of x scope (match_arm_more a arms) (b ∷ bodies) = unless_last (fits_test x a) (with_arm x scope a b) arms (picked_of x scope arms bodies)

-- a match whose value and bodies are lowered
abbrev pub match_of : ℕ → List Param → ExprTree → MatchArmTrees → List ExprTree → ExprTree
match_of n scope a arms bodies = expr_let 1 (fitting n (length scope - 1) scope a arms) (picked_of (length scope - 1) scope arms bodies)
