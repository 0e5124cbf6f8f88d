-- Forms over lowered parts are the lowered forms.
use Rattle.std.proofs.Common.{◌≡◌, ℕ, zero, suc, ◌-◌, ℤ, List, [], ◌∷◌, ◌++◌, map, length, reverse, Result, IfOk, refl, ap, subst}
use Rattle.std.proofs.lemmas.List.{reverse-append, reverse-reverse}
use Rattle.cf_tree.specs.declared.expr.Expr.{Expr}
use Rattle.cf_tree.specs.declared.memory.NoMemory.{NoMemory}
use Rattle.cf_tree.specs.declared.raw.BinOp.TheVariants.{Or}
use Rattle.cf_tree.specs.declared.raw.Param.{Param}
use Rattle.cf_tree.specs.ExprTree.{ExprTree, expr_binary, expr_match, expr_more, expr_let, exprs_of, MatchArmTree, match_arm, MatchArmTrees, no_match_arms, match_arm_more, match_arms_of}
use Rattle.cf_tree.specs.ExprView.{expr_tree}
use Rattle.cf_program.specs.Lowered.{divisor, test_by, test, any_test, any_fits, with_variables, unless_last, fitting, lowered, all_lowered, picked}
use Rattle.cf_match.specs.Classes.{class_by}
use Rattle.cf_match.specs.Forms.{class_test, body_of, fits_test, with_arm, bodies_lowered, picked_of, match_of}
use Rattle.cf_match.specs.Matches.{class_of_arm}

pub lowered_parts : (es : List ExprTree) → exprs_of (map lowered es) ≡ all_lowered (exprs_of es)
lowered_parts [] = refl
lowered_parts (e ∷ es) = ap (λ ps. expr_more (lowered e) ps) (lowered_parts es)

pub bodies_of_arms : (arms : List MatchArmTree) → map (λ a. lowered (body_of a)) arms ≡ bodies_lowered (match_arms_of arms)
bodies_of_arms [] = refl
bodies_of_arms (a ∷ arms) = ap (λ bs. lowered (body_of a) ∷ bs) (bodies_of_arms arms)

pub picked_is : (x : ℕ) (scope : List Param) (arms : MatchArmTrees) → picked_of x scope arms (bodies_lowered arms) ≡ picked x scope arms
picked_is x scope no_match_arms = refl
picked_is x scope (match_arm_more (match_arm m factors k body) arms) =
    ap (λ rest. unless_last (test x factors k) (with_variables m x scope factors k (lowered body)) arms rest) (picked_is x scope arms)

pub match_is : (n : ℕ) (scope : List Param) (a : ExprTree) (arms : MatchArmTrees) →
    match_of n scope (lowered a) arms (bodies_lowered arms) ≡ lowered (expr_match n scope a arms)
match_is n scope a arms = ap (λ rest. expr_let 1 (fitting n (length scope - 1) scope (lowered a) arms) rest) (picked_is (length scope - 1) scope arms)

pub match_lowered : (r : Result Expr NoMemory) (n : ℕ) (scope : List Param) (a b : ExprTree) (arms : MatchArmTrees) (bodies : List ExprTree) →
    b ≡ lowered a → bodies ≡ bodies_lowered arms → IfOk r (λ e. expr_tree e ≡ match_of n scope b arms bodies) →
    IfOk r (λ e. expr_tree e ≡ lowered (expr_match n scope a arms))
match_lowered r n scope a b arms bodies value made h =
    let both : match_of n scope b arms bodies ≡ lowered (expr_match n scope a arms) = rw (value, made) (match_is n scope a arms) in
    subst (λ t. IfOk r (λ e. expr_tree e ≡ t)) both h

class_test_by : (x d : ℕ) (k : ℤ) → class_test x (class_by d k) ≡ test_by x d k
class_test_by x zero k = refl
class_test_by x (suc d) k = refl

pub class_test_is : (x : ℕ) (a : MatchArmTree) → class_test x (class_of_arm a) ≡ fits_test x a
class_test_is x (match_arm m factors k body) = class_test_by x (divisor factors) k

pub any_test_more : (x : ℕ) (before : ExprTree) (a : MatchArmTree) (arms : MatchArmTrees) →
    any_test x (expr_binary Or before (fits_test x a)) arms ≡ any_test x before (match_arm_more a arms)
any_test_more x before (match_arm m factors k body) arms = refl

pub any_fits_more : (x : ℕ) (a : MatchArmTree) (arms : MatchArmTrees) → any_test x (fits_test x a) arms ≡ any_fits x (match_arm_more a arms)
any_fits_more x (match_arm m factors k body) arms = refl

pub picked_next : (x : ℕ) (scope : List Param) (a : MatchArmTree) (arms : MatchArmTrees) (old new : List Expr) (body : Expr) → old ≡ new ++ body ∷ [] →
    unless_last (fits_test x a) (with_arm x scope a (expr_tree body)) arms (picked_of x scope arms (map expr_tree (reverse new)))
    ≡ picked_of x scope (match_arm_more a arms) (map expr_tree (reverse old))
picked_next x scope a arms old new body e = rw (e, reverse-append new (body ∷ [])) refl

pub ruleset forms = (lowered_parts, bodies_of_arms, picked_is, match_is, class_test_is, any_test_more, any_fits_more, picked_next, reverse-reverse)
