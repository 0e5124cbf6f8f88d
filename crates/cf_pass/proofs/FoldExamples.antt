-- Worked examples of what is folded: each form once, what is not of literals, numbers past the limit, and whole codes.
use Rattle.std.specs.Prelude.{ℕ, pos, negsuc, ◌≡◌, true, false, List, [], ◌∷◌, refl}
use Rattle.cf_tree.specs.declared.base.Order.TheVariants.{Eq, Lt, Ge}
use Rattle.cf_tree.specs.CodeTree.{CodeTree, code_lit, code_truth, code_var, code_set_of, code_tuple, code_sum, code_sub, code_mul, code_neg, code_div, code_mod, code_min, code_max, code_compare}
use Rattle.cf_tree.specs.CodeTree.{code_divides, code_and, code_or, code_not, code_union, code_card, code_if, code_let, code_solve, codes_of, need_item, let_item, items_of, arm_of, arms_of}
use Rattle.cf_pass.specs.Folding.{folded_value, fold_form, fold_units}
use Rattle.cf_pass.specs.Rewritten.{rewritten, units_of}

-- the form c is folded to d, which is one unit
abbrev Folds : CodeTree → CodeTree → Type 0
Folds c d = (fold_form c ≡ d) × (fold_units c ≡ 1)

-- the form c stays
abbrev Stays : CodeTree → Type 0
Stays c = (fold_form c ≡ c) × (fold_units c ≡ 0)

abbrev num : ℕ → CodeTree
num n = code_lit (pos n)

-- the number - 1 - n
abbrev less : ℕ → CodeTree
less n = code_lit (negsuc n)

abbrev yes : CodeTree
yes = code_truth true

abbrev no : CodeTree
no = code_truth false

abbrev sum : List CodeTree → CodeTree
sum cs = code_sum (codes_of cs)

abbrev var : CodeTree
var = code_var 0

-- 2^127 - 1, and numbers past it of either sign
abbrev most : CodeTree
most = num 170141183460469231731687303715884105727

abbrev least : CodeTree
least = less 170141183460469231731687303715884105726

abbrev past : CodeTree
past = num 170141183460469231731687303715884105728

abbrev past_below : CodeTree
past_below = less 170141183460469231731687303715884105727

-- ---- each form

sum-folds : Folds (sum (num 1 ∷ less 4 ∷ num 2 ∷ [])) (less 1)
unfolding folded_value
sum-folds = (refl, refl)

sub-folds : Folds (code_sub (num 2) (num 5)) (less 2)
unfolding folded_value
sub-folds = (refl, refl)

mul-folds : Folds (code_mul (num 3) (less 3)) (less 11)
unfolding folded_value
mul-folds = (refl, refl)

neg-folds : Folds (code_neg (num 7)) (less 6)
unfolding folded_value
neg-folds = (refl, refl)

div-folds : Folds (code_div (less 6) (pos 2)) (less 3)
unfolding folded_value
div-folds = (refl, refl)

mod-folds : Folds (code_mod (less 6) (pos 2)) (num 1)
unfolding folded_value
mod-folds = (refl, refl)

min-folds : Folds (code_min (codes_of (num 4 ∷ less 1 ∷ num 9 ∷ []))) (less 1)
unfolding folded_value
min-folds = (refl, refl)

max-folds : Folds (code_max (codes_of (num 4 ∷ less 1 ∷ num 9 ∷ []))) (num 9)
unfolding folded_value
max-folds = (refl, refl)

compare-numbers-folds : Folds (code_compare Lt (num 1) (num 2)) yes
unfolding folded_value
compare-numbers-folds = (refl, refl)

compare-numbers-fails : Folds (code_compare Ge (num 1) (num 2)) no
unfolding folded_value
compare-numbers-fails = (refl, refl)

compare-truths-folds : Folds (code_compare Eq yes no) no
unfolding folded_value
compare-truths-folds = (refl, refl)

divides-folds : Folds (code_divides (pos 3) (num 9)) yes
unfolding folded_value
divides-folds = (refl, refl)

and-both-folds : Folds (code_and yes yes) yes
unfolding folded_value
and-both-folds = (refl, refl)

and-right_fails-folds : Folds (code_and yes no) no
unfolding folded_value
and-right_fails-folds = (refl, refl)

and-left_fails-folds : Folds (code_and no yes) no
unfolding folded_value
and-left_fails-folds = (refl, refl)

or-neither-folds : Folds (code_or no no) no
unfolding folded_value
or-neither-folds = (refl, refl)

or-right_holds-folds : Folds (code_or no yes) yes
unfolding folded_value
or-right_holds-folds = (refl, refl)

or-left_holds-folds : Folds (code_or yes no) yes
unfolding folded_value
or-left_holds-folds = (refl, refl)

not-folds : Folds (code_not yes) no
unfolding folded_value
not-folds = (refl, refl)

-- ---- not of literals, or another form

sum-of_variable-stays : Stays (sum (num 1 ∷ var ∷ []))
unfolding folded_value
sum-of_variable-stays = (refl, refl)

sub-left_variable-stays : Stays (code_sub var (num 1))
unfolding folded_value
sub-left_variable-stays = (refl, refl)

sub-right_variable-stays : Stays (code_sub (num 1) var)
unfolding folded_value
sub-right_variable-stays = (refl, refl)

and-right_variable-stays : Stays (code_and no var)
unfolding folded_value
and-right_variable-stays = (refl, refl)

or-right_variable-stays : Stays (code_or yes var)
unfolding folded_value
or-right_variable-stays = (refl, refl)

form_of_forms-stays : Stays (code_neg (code_neg (num 1)))
unfolding folded_value
form_of_forms-stays = (refl, refl)

literal-stays : Stays (num 5)
unfolding folded_value
literal-stays = (refl, refl)

negative_literal-stays : Stays (less 4)
unfolding folded_value
negative_literal-stays = (refl, refl)

truth-stays : Stays yes
unfolding folded_value
truth-stays = (refl, refl)

tuple-stays : Stays (code_tuple (codes_of (num 1 ∷ num 2 ∷ [])))
unfolding folded_value
tuple-stays = (refl, refl)

if-stays : Stays (code_if yes (num 1) (num 2))
unfolding folded_value
if-stays = (refl, refl)

card-stays : Stays (code_card (code_set_of (codes_of (num 1 ∷ []))))
unfolding folded_value
card-stays = (refl, refl)

union-of_literals-stays : Stays (code_union (codes_of (code_set_of (codes_of (num 1 ∷ [])) ∷ code_set_of (codes_of (num 2 ∷ [])) ∷ [])))
unfolding folded_value
union-of_literals-stays = (refl, refl)

-- ---- values at the limit and past it

sum-at_limit-folds : Folds (sum (most ∷ less 0 ∷ num 1 ∷ [])) most
unfolding folded_value
sum-at_limit-folds = (refl, refl)

neg-at_limit-folds : Folds (code_neg most) least
unfolding folded_value
neg-at_limit-folds = (refl, refl)

sum-past-stays : Stays (sum (most ∷ num 1 ∷ []))
unfolding folded_value
sum-past-stays = (refl, refl)

sub-past-stays : Stays (code_sub least (num 1))
unfolding folded_value
sub-past-stays = (refl, refl)

mul-past-stays : Stays (code_mul (num 18446744073709551616) (num 9223372036854775808))
unfolding folded_value
mul-past-stays = (refl, refl)

-- ---- a small value, but a number past the limit is met

sum-partly_past-stays : Stays (sum (most ∷ num 1 ∷ less 0 ∷ []))
unfolding folded_value
sum-partly_past-stays = (refl, refl)

sub-of_past-stays : Stays (code_sub past past)
unfolding folded_value
sub-of_past-stays = (refl, refl)

mul-of_past-stays : Stays (code_mul (num 0) past)
unfolding folded_value
mul-of_past-stays = (refl, refl)

neg-of_past-stays : Stays (code_neg past_below)
unfolding folded_value
neg-of_past-stays = (refl, refl)

div-of_past-stays : Stays (code_div past_below (pos 2))
unfolding folded_value
div-of_past-stays = (refl, refl)

mod-of_past-stays : Stays (code_mod past_below (pos 2))
unfolding folded_value
mod-of_past-stays = (refl, refl)

min-of_past-stays : Stays (code_min (codes_of (num 3 ∷ past ∷ [])))
unfolding folded_value
min-of_past-stays = (refl, refl)

max-of_past-stays : Stays (code_max (codes_of (past_below ∷ num 3 ∷ [])))
unfolding folded_value
max-of_past-stays = (refl, refl)

compare-of_past-stays : Stays (code_compare Lt past_below (num 0))
unfolding folded_value
compare-of_past-stays = (refl, refl)

divides-of_past-stays : Stays (code_divides (pos 2) past_below)
unfolding folded_value
divides-of_past-stays = (refl, refl)

-- ---- whole codes, parts first

-- the code c becomes d, with k units
abbrev Becomes : CodeTree → ℕ → CodeTree → Type 0
Becomes c k d = (rewritten (λ n c. fold_form c) 1 c ≡ d) × (units_of (λ n c. fold_form c) (λ n c. fold_units c) 1 c ≡ k)

nested-becomes : Becomes (code_and (code_compare Eq (sum (code_mul (num 2) (num 3) ∷ less 0 ∷ [])) (num 5)) (code_not no)) 5 yes
unfolding folded_value
nested-becomes = (refl, refl)

around_a_variable-becomes : Becomes (code_neg (sum (var ∷ code_sub (num 2) (num 3) ∷ []))) 1 (code_neg (sum (var ∷ less 0 ∷ [])))
unfolding folded_value
around_a_variable-becomes = (refl, refl)

past_inside-becomes : Becomes (code_sub (sum (most ∷ num 1 ∷ [])) (code_neg (num 1))) 1 (code_sub (sum (most ∷ num 1 ∷ [])) (less 0))
unfolding folded_value
past_inside-becomes = (refl, refl)

in_other_forms-becomes : Becomes (code_if (code_or no no) (code_card var) (code_let 1 1 (code_neg (num 1)) (code_max (codes_of (num 1 ∷ num 2 ∷ []))))) 3
    (code_if no (code_card var) (code_let 1 1 (less 0) (num 2)))
unfolding folded_value
in_other_forms-becomes = (refl, refl)

-- an arm with a let, a need and a give
abbrev solve : CodeTree → CodeTree → CodeTree → CodeTree
solve value need give = code_solve 7 (arms_of (arm_of [] (items_of (let_item value ∷ need_item need ∷ [])) (codes_of (give ∷ [])) ∷ []))

need_over_comparison-becomes : Becomes (solve var (code_compare Lt (num 1) (num 2)) var) 1 (solve var yes var)
unfolding folded_value
need_over_comparison-becomes = (refl, refl)

all_of_an_arm-becomes : Becomes (solve (code_neg (num 2)) (code_divides (pos 2) (num 3)) (sum (num 1 ∷ num 1 ∷ []))) 3 (solve (less 1) no (num 2))
unfolding folded_value
all_of_an_arm-becomes = (refl, refl)
