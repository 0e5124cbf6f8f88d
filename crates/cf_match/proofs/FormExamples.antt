-- Worked examples that hold down the words for forms over other parts, and for lowered forms over lowered parts.
use Rattle.std.specs.Prelude.{pos, negsuc, ◌≡◌, List, [], ◌∷◌, codes, refl}
use Rattle.cf_num.specs.Divisors.{gcd_by}
use Rattle.cf_tree.specs.declared.base.Base.TheVariants.{Int}
use Rattle.cf_tree.specs.declared.base.Order.TheVariants.{Eq}
use Rattle.cf_tree.specs.declared.raw.BinOp.TheVariants.{Add, Or, Compare}
use Rattle.cf_tree.specs.declared.raw.Param.{Param}
use Rattle.cf_tree.specs.ExprTree.{ExprTree, expr_lit, expr_var, expr_set_of, expr_tuple, expr_neg, expr_not, expr_abs, expr_binary, expr_min, expr_max, expr_divides, expr_div, expr_mod, expr_card, expr_if, expr_call, expr_let, expr_choose, expr_match, ExprTrees, no_exprs, exprs_of, MatchArmTree, match_arm, no_match_arms, match_arms_of}
use Rattle.cf_tree.specs.RelTree.{term_lit, term_var, term_add, term_mul, rel_false, rel_compare}
use Rattle.cf_match.specs.declared.class.Class.TheVariants.{Point, Residue}
use Rattle.cf_match.specs.Forms.{over_list, over_one, over_two, class_test, body_of, fits_test, with_arm, bodies_lowered, picked_of, match_of}

abbrev a : ExprTree
a = expr_lit (pos 5)

abbrev b : ExprTree
b = expr_lit (pos 6)

abbrev c : ExprTree
c = expr_lit (pos 7)

abbrev parts : ExprTrees
parts = exprs_of (b ∷ c ∷ [])

over_lists : (over_list (expr_set_of (exprs_of (a ∷ []))) parts ≡ expr_set_of parts) × (over_list (expr_call 3 no_exprs) parts ≡ expr_call 3 parts)
    × (over_list (expr_tuple (exprs_of (a ∷ []))) parts ≡ expr_tuple parts) × (over_list (expr_min (exprs_of (a ∷ []))) parts ≡ expr_min parts)
    × (over_list (expr_max (exprs_of (a ∷ []))) parts ≡ expr_max parts)
over_lists = (refl, refl, refl, refl, refl)

over_ones : (over_one (expr_neg a) b ≡ expr_neg b) × (over_one (expr_not a) b ≡ expr_not b) × (over_one (expr_abs a) b ≡ expr_abs b)
    × (over_one (expr_divides (pos 3) a) b ≡ expr_divides (pos 3) b) × (over_one (expr_div a (pos 3)) b ≡ expr_div b (pos 3))
    × (over_one (expr_mod a (pos 3)) b ≡ expr_mod b (pos 3)) × (over_one (expr_card a) b ≡ expr_card b)
over_ones = (refl, refl, refl, refl, refl, refl, refl)

over_twos : (over_two (expr_binary Add a a) b c ≡ expr_binary Add b c) × (over_two (expr_let 2 a a) b c ≡ expr_let 2 b c) × (over_two a b c ≡ b)
over_twos = (refl, refl, refl)

class_tests : (class_test 4 (Point (negsuc 2)) ≡ expr_binary (Compare Eq) (expr_var 4) (expr_lit (negsuc 2)))
    × (class_test 4 (Residue (pos 6) (pos 5)) ≡ expr_binary (Compare Eq) (expr_mod (expr_var 4) (pos 6)) (expr_lit (pos 5)))
class_tests = (refl, refl)

-- the scope of a match behind one variable, whose value has level 1
abbrev scope : List Param
scope =
    record { place = record { line = 1; column = 10 }; name = codes "a"; base = Int }
    ∷ record { place = record { line = 1; column = 25 }; name = codes "match"; base = Int } ∷ []

-- `2 * i - 3 then 5`, and `4 then 6`
abbrev odd : MatchArmTree
odd = match_arm 2 (pos 2 ∷ []) (negsuc 2) a

abbrev four : MatchArmTree
four = match_arm 0 [] (pos 4) b

abbrev is_odd : ExprTree
is_odd = expr_binary (Compare Eq) (expr_mod (expr_var 1) (pos 2)) (expr_lit (pos 1))

abbrev is_four : ExprTree
is_four = expr_binary (Compare Eq) (expr_var 1) (expr_lit (pos 4))

-- a body behind the choose of i
abbrev with_i : ExprTree → ExprTree
with_i body =
    expr_let 1
    (expr_choose 2 scope (Int ∷ []) (rel_compare Eq (term_var 1) (term_add (term_mul (term_lit (pos 2)) (term_var 2)) (term_lit (negsuc 2)))))
    body

of_arms : (body_of odd ≡ a) × (fits_test 1 odd ≡ is_odd) × (fits_test 1 four ≡ is_four) × (with_arm 1 scope odd c ≡ with_i c) × (with_arm 1 scope four c ≡ c)
unfolding gcd_by
of_arms = (refl, refl, refl, refl, refl)

-- a match without arms, and its lowered form
abbrev bare : ExprTree
bare = expr_match 7 scope a no_match_arms

abbrev low : ExprTree
low = match_of 7 scope a no_match_arms []

of_bodies : (bodies_lowered no_match_arms ≡ []) × (bodies_lowered (match_arms_of (match_arm 0 [] (pos 3) bare ∷ four ∷ [])) ≡ low ∷ b ∷ [])
of_bodies = (refl, refl)

-- the last arm needs no test; arms without bodies are left out
of_picks : (picked_of 1 scope no_match_arms (a ∷ []) ≡ expr_tuple no_exprs) × (picked_of 1 scope (match_arms_of (odd ∷ [])) [] ≡ expr_tuple no_exprs)
    × (picked_of 1 scope (match_arms_of (odd ∷ [])) (c ∷ []) ≡ with_i c)
    × (picked_of 1 scope (match_arms_of (four ∷ odd ∷ [])) (b ∷ c ∷ []) ≡ expr_if is_four b (with_i c))
    × (picked_of 1 scope (match_arms_of (odd ∷ four ∷ four ∷ [])) (b ∷ c ∷ a ∷ []) ≡ expr_if is_odd (with_i b) (expr_if is_four c a))
unfolding gcd_by
of_picks = (refl, refl, refl, refl, refl)

of_matches : match_of 7 scope (expr_var 0) (match_arms_of (odd ∷ four ∷ [])) (b ∷ c ∷ []) ≡
    expr_let 1 (expr_let 1 (expr_var 0) (expr_if (expr_binary Or is_odd is_four) (expr_var 1) (expr_choose 7 scope (Int ∷ []) rel_false)))
    (expr_if is_odd (with_i b) c)
unfolding gcd_by
of_matches = refl
