-- What late programs come to: each form, each way to end, and chooses whose coefficients are inputs.
use Rattle.std.proofs.Common.{◌≡◌, ℕ, ℤ, pos, negsuc, List, [], ◌∷◌, ◌++◌, length, map, refl}
use Rattle.std.specs.Prelude.{true, false, codes}
use Rattle.cf_num.specs.Divisors.{gcd_by, factors_by}
use Rattle.cf_num.specs.Parts.{parts_of}
use Rattle.cf_tree.specs.declared.base.Base.{Base}
use Rattle.cf_tree.specs.declared.base.Base.TheVariants.{Int, Set}
use Rattle.cf_tree.specs.declared.base.Order.TheVariants.{Eq, Le}
use Rattle.cf_tree.specs.declared.raw.BinOp.TheVariants.{Add, Sub, Mul, And, Or, Union, Inter, Diff, Subset, Implies, Compare}
use Rattle.cf_tree.specs.declared.raw.Param.{Param}
use Rattle.cf_tree.specs.ExprTree.{ExprTree, expr_lit, expr_truth, expr_var, expr_set_of, expr_tuple, expr_neg, expr_not, expr_abs, expr_binary, expr_chain, expr_min, expr_max, expr_divides, expr_div, expr_mod, expr_card, expr_if, expr_call, expr_let, expr_choose, expr_choose_where, expr_match, exprs_of, match_arm, match_arms_of, holds_always, at_any}
use Rattle.cf_tree.specs.RelTree.{rel_and, rel_compare, set_var, term_add, term_card, term_mul, term_var}
use Rattle.cf_tree.specs.Values.{Value, number, truth, elements, no_solution}
use Rattle.cf_linear.specs.declared.refusal.LimitKind.TheVariants.{Search}
use Rattle.cf_linear.specs.declared.refusal.Refusal.TheVariants.{Past, Limit}
use Rattle.cf_linear.specs.Arm.{arm}
use Rattle.cf_linear.specs.Cases.{disjuncts, case_count, system_of_case, first_systems, write_atom, written_passes}
use Rattle.cf_linear.specs.Chooses.{arms, first_refused, refusal_by, limit}
use Rattle.cf_linear.specs.Stages.{run, run_for, clean_stage, equation_stage, bound_stage, unknown_stage, row_stage, stage}
use Rattle.cf_linear.specs.Steps.{clean, mix, factors_of, merge, merge_passes, merge_factor, last, pick, searched, dropped, searched_by, bound, bound_passes, bound_factor}
use Rattle.cf_late.specs.ChooseRun.{LateOutcome, comes_to, overflow, refused, gives}
use Rattle.cf_late.specs.LateRun.{late_run}
use Rattle.cf_late.specs.Runnable.{IsRunnable}

abbrev param : Base → Param
param b = record { place = record { line = 1; column = 1 }; name = codes "a"; base = b }

abbrev params : List Base → List Param
params bs = map param bs

abbrev numbers : List ℤ → List Value
numbers zs = map number zs

abbrev none : ℕ → LateOutcome
none n = comes_to (no_solution n)

-- what an expression comes to behind these functions
abbrev runs : List ExprTree → ExprTree → List Value → LateOutcome
runs before e env = late_run (before ++ e ∷ []) (length before) env

-- 2^127 - 1, and one more
abbrev greatest : ℤ
greatest = pos 170141183460469231731687303715884105727

abbrev past : ℤ
past = pos 170141183460469231731687303715884105728

-- ---- coefficients that are inputs: a * x == b
abbrev multiple : ExprTree
multiple = expr_choose 1 (params (Int ∷ Int ∷ [])) (Int ∷ []) (rel_compare Eq (term_mul (term_var 0) (term_var 2)) (term_var 1))

multiple-divides : runs [] multiple (numbers (pos 3 ∷ pos 12 ∷ [])) ≡ gives (numbers (pos 4 ∷ []))
unfolding arms arm first_systems disjuncts system_of_case write_atom run run_for stage clean_stage equation_stage bound_stage unknown_stage row_stage clean
    mix factors_of merge merge_passes merge_factor last pick searched dropped searched_by bound bound_passes bound_factor gcd_by factors_by parts_of limit
    refusal_by case_count written_passes first_refused
multiple-divides = refl

multiple-does_not : runs [] multiple (numbers (pos 3 ∷ pos 10 ∷ [])) ≡ none 1
unfolding arms arm first_systems disjuncts system_of_case write_atom run run_for stage clean_stage equation_stage bound_stage unknown_stage row_stage clean
    mix factors_of merge merge_passes merge_factor last pick searched dropped searched_by bound bound_passes bound_factor gcd_by factors_by parts_of limit
    refusal_by case_count written_passes first_refused
multiple-does_not = refl

multiple-of_zero : runs [] multiple (numbers (pos 0 ∷ pos 5 ∷ [])) ≡ none 1
unfolding arms arm first_systems disjuncts system_of_case write_atom run run_for stage clean_stage equation_stage bound_stage unknown_stage row_stage clean
    mix factors_of merge merge_passes merge_factor last pick searched dropped searched_by bound bound_passes bound_factor gcd_by factors_by parts_of limit
    refusal_by case_count written_passes first_refused
multiple-of_zero = refl

multiple-zero_of_zero : runs [] multiple (numbers (pos 0 ∷ pos 0 ∷ [])) ≡ gives (numbers (pos 0 ∷ []))
unfolding arms arm first_systems disjuncts system_of_case write_atom run run_for stage clean_stage equation_stage bound_stage unknown_stage row_stage clean
    mix factors_of merge merge_passes merge_factor last pick searched dropped searched_by bound bound_passes bound_factor gcd_by factors_by parts_of limit
    refusal_by case_count written_passes first_refused
multiple-zero_of_zero = refl

multiple-negative : runs [] multiple (numbers (negsuc 3 ∷ pos 12 ∷ [])) ≡ gives (numbers (negsuc 2 ∷ []))
unfolding arms arm first_systems disjuncts system_of_case write_atom run run_for stage clean_stage equation_stage bound_stage unknown_stage row_stage clean
    mix factors_of merge merge_passes merge_factor last pick searched dropped searched_by bound bound_passes bound_factor gcd_by factors_by parts_of limit
    refusal_by case_count written_passes first_refused
multiple-negative = refl

-- a <= p * x + q * y && p * x + q * y <= b
abbrev weights : ExprTree
weights =
    let sum = term_add (term_mul (term_var 0) (term_var 4)) (term_mul (term_var 1) (term_var 5)) in
    expr_choose 1 (params (Int ∷ Int ∷ Int ∷ Int ∷ [])) (Int ∷ Int ∷ [])
    (rel_and (rel_compare Le (term_var 2) sum) (rel_compare Le sum (term_var 3)))

weights-exact : runs [] weights (numbers (pos 2 ∷ pos 3 ∷ pos 7 ∷ pos 7 ∷ [])) ≡ gives (numbers (pos 14 ∷ negsuc 6 ∷ []))
unfolding arms arm first_systems disjuncts system_of_case write_atom run run_for stage clean_stage equation_stage bound_stage unknown_stage row_stage clean
    mix factors_of merge merge_passes merge_factor last pick searched dropped searched_by bound bound_passes bound_factor gcd_by factors_by parts_of limit
    refusal_by case_count written_passes first_refused
weights-exact = refl

weights-search : runs [] weights (numbers (pos 2097152 ∷ pos 2097153 ∷ pos 0 ∷ pos 9 ∷ [])) ≡ refused 1 (Limit Search 2097152)
unfolding arms arm first_systems disjuncts system_of_case write_atom run run_for stage clean_stage equation_stage bound_stage unknown_stage row_stage clean
    mix factors_of merge merge_passes merge_factor last pick searched dropped searched_by bound bound_passes bound_factor gcd_by factors_by parts_of limit
    refusal_by case_count written_passes first_refused
weights-search = refl

-- a * b <= x, where literals multiply
abbrev above : ExprTree
above = expr_choose 1 (params (Int ∷ Int ∷ [])) (Int ∷ []) (rel_compare Le (term_mul (term_var 0) (term_var 1)) (term_var 2))

above-product : runs [] above (numbers (pos 3 ∷ negsuc 4 ∷ [])) ≡ gives (numbers (negsuc 14 ∷ []))
unfolding arms arm first_systems disjuncts system_of_case write_atom run run_for stage clean_stage equation_stage bound_stage unknown_stage row_stage clean
    mix factors_of merge merge_passes merge_factor last pick searched dropped searched_by bound bound_passes bound_factor gcd_by factors_by parts_of limit
    refusal_by case_count written_passes first_refused
above-product = refl

above-past : runs [] above (numbers (pos 1267650600228229401496703205376 ∷ pos 1267650600228229401496703205376 ∷ [])) ≡ refused 1 Past
unfolding arms arm first_systems disjuncts system_of_case write_atom run run_for stage clean_stage equation_stage bound_stage unknown_stage row_stage clean
    mix factors_of merge merge_passes merge_factor last pick searched dropped searched_by bound bound_passes bound_factor gcd_by factors_by parts_of limit
    refusal_by case_count written_passes first_refused
above-past = refl

-- a * card(s) == x, where the set stays a variable
abbrev copies : ExprTree
copies = expr_choose 2 (params (Int ∷ Set ∷ [])) (Int ∷ []) (rel_compare Eq (term_mul (term_var 0) (term_card (set_var 1))) (term_var 2))

copies-of_set : runs [] copies (number (pos 3) ∷ elements (pos 5 ∷ pos 7 ∷ []) ∷ []) ≡ gives (numbers (pos 6 ∷ []))
unfolding arms arm first_systems disjuncts system_of_case write_atom run run_for stage clean_stage equation_stage bound_stage unknown_stage row_stage clean
    mix factors_of merge merge_passes merge_factor last pick searched dropped searched_by bound bound_passes bound_factor gcd_by factors_by parts_of limit
    refusal_by case_count written_passes first_refused
copies-of_set = refl

-- a choose behind a let is entered with the value that the let bound
behind-let : runs [] (expr_let 1 (expr_binary Sub (expr_var 0) (expr_lit (pos 1)))
    (expr_choose 1 (params (Int ∷ Int ∷ [])) (Int ∷ []) (rel_compare Eq (term_mul (term_var 1) (term_var 2)) (term_var 0)))) (numbers (pos 2 ∷ [])) ≡ gives
    (numbers (pos 2 ∷ []))
unfolding arms arm first_systems disjuncts system_of_case write_atom run run_for stage clean_stage equation_stage bound_stage unknown_stage row_stage clean
    mix factors_of merge merge_passes merge_factor last pick searched dropped searched_by bound bound_passes bound_factor gcd_by factors_by parts_of limit
    refusal_by case_count written_passes first_refused
behind-let = refl

-- ---- the first part that gives no values decides
refused-first : runs [] (expr_tuple (exprs_of (above ∷ expr_neg (expr_lit past) ∷ [])))
    (numbers (pos 1267650600228229401496703205376 ∷ pos 1267650600228229401496703205376 ∷ [])) ≡ refused 1 Past
unfolding arms arm first_systems disjuncts system_of_case write_atom run run_for stage clean_stage equation_stage bound_stage unknown_stage row_stage clean
    mix factors_of merge merge_passes merge_factor last pick searched dropped searched_by bound bound_passes bound_factor gcd_by factors_by parts_of limit
    refusal_by case_count written_passes first_refused
refused-first = refl

overflow-first : runs [] (expr_tuple (exprs_of (expr_neg (expr_lit past) ∷ above ∷ [])))
    (numbers (pos 1267650600228229401496703205376 ∷ pos 1267650600228229401496703205376 ∷ [])) ≡ overflow
unfolding arms arm first_systems disjuncts system_of_case write_atom run run_for stage clean_stage equation_stage bound_stage unknown_stage row_stage clean
    mix factors_of merge merge_passes merge_factor last pick searched dropped searched_by bound bound_passes bound_factor gcd_by factors_by parts_of limit
    refusal_by case_count written_passes first_refused
overflow-first = refl

none-first : runs [] (expr_tuple (exprs_of (multiple ∷ above ∷ []))) (numbers (pos 0 ∷ pos 1267650600228229401496703205376 ∷ [])) ≡ none 1
unfolding arms arm first_systems disjuncts system_of_case write_atom run run_for stage clean_stage equation_stage bound_stage unknown_stage row_stage clean
    mix factors_of merge merge_passes merge_factor last pick searched dropped searched_by bound bound_passes bound_factor gcd_by factors_by parts_of limit
    refusal_by case_count written_passes first_refused
none-first = refl

right-none : runs [] (expr_binary Add (expr_lit (pos 1)) multiple) (numbers (pos 0 ∷ pos 5 ∷ [])) ≡ none 1
unfolding arms arm first_systems disjuncts system_of_case write_atom run run_for stage clean_stage equation_stage bound_stage unknown_stage row_stage clean
    mix factors_of merge merge_passes merge_factor last pick searched dropped searched_by bound bound_passes bound_factor gcd_by factors_by parts_of limit
    refusal_by case_count written_passes first_refused
right-none = refl

-- ---- operations
abbrev square : ExprTree
square = expr_binary Mul (expr_var 0) (expr_var 0)

-- 2^64
abbrev root : ℤ
root = pos 18446744073709551616

abbrev passing : ExprTree
passing = expr_binary Mul (expr_lit root) (expr_lit root)

abbrev set : List ℤ → List Value
set zs = elements zs ∷ []

square-of_root : runs [] (square) (numbers (root ∷ [])) ≡ overflow
square-of_root = refl

square-of_three : runs [] (square) (numbers (pos 3 ∷ [])) ≡ gives (numbers (pos 9 ∷ []))
square-of_three = refl

literal : runs [] (expr_lit (negsuc 4)) [] ≡ gives (numbers (negsuc 4 ∷ []))
literal = refl

truth-value : runs [] (expr_truth true) [] ≡ gives (truth true ∷ [])
truth-value = refl

variable : runs [] (expr_var 1) (numbers (pos 7 ∷ pos 8 ∷ [])) ≡ gives (numbers (pos 8 ∷ []))
variable = refl

variable-past : runs [] (expr_var 0) (numbers (past ∷ [])) ≡ gives (numbers (past ∷ []))
variable-past = refl

negative : runs [] (expr_neg (expr_var 0)) (numbers (greatest ∷ [])) ≡ gives (numbers (negsuc 170141183460469231731687303715884105726 ∷ []))
negative = refl

negative-past : runs [] (expr_neg (expr_var 0)) (numbers (past ∷ [])) ≡ overflow
negative-past = refl

negation : runs [] (expr_not (expr_truth true)) [] ≡ gives (truth false ∷ [])
negation = refl

absolute-value : runs [] (expr_abs (expr_lit (negsuc 6))) [] ≡ gives (numbers (pos 7 ∷ []))
absolute-value = refl

absolute-past : runs [] (expr_abs (expr_var 0)) (numbers (past ∷ [])) ≡ overflow
absolute-past = refl

sum : runs [] (expr_binary Add (expr_lit (pos 3)) (expr_lit (pos 4))) [] ≡ gives (numbers (pos 7 ∷ []))
sum = refl

sum-past : runs [] (expr_binary Add (expr_lit greatest) (expr_lit (pos 1))) [] ≡ overflow
sum-past = refl

difference : runs [] (expr_binary Sub (expr_lit (pos 3)) (expr_lit (pos 4))) [] ≡ gives (numbers (negsuc 0 ∷ []))
difference = refl

and-decided : runs [] (expr_binary And (expr_truth false) (expr_binary (Compare Eq) passing passing)) [] ≡ gives (truth false ∷ [])
and-decided = refl

and-right : runs [] (expr_binary And (expr_truth true) (expr_binary (Compare Eq) passing passing)) [] ≡ overflow
and-right = refl

or-decided : runs [] (expr_binary Or (expr_truth true) (expr_binary (Compare Eq) passing passing)) [] ≡ gives (truth true ∷ [])
or-decided = refl

or-right : runs [] (expr_binary Or (expr_truth false) (expr_truth false)) [] ≡ gives (truth false ∷ [])
or-right = refl

implies-decided : runs [] (expr_binary Implies (expr_truth false) (expr_binary (Compare Eq) passing passing)) [] ≡ gives (truth true ∷ [])
implies-decided = refl

implies-right : runs [] (expr_binary Implies (expr_truth true) (expr_truth false)) [] ≡ gives (truth false ∷ [])
implies-right = refl

-- forms that do not stand here
abbrev forms : List ExprTree
forms =
    expr_chain (Le ∷ Le ∷ []) (exprs_of (passing ∷ passing ∷ passing ∷ [])) ∷ expr_min (exprs_of (passing ∷ passing ∷ []))
    ∷ expr_max (exprs_of (passing ∷ passing ∷ [])) ∷ expr_choose_where 1 [] (Int ∷ []) [] holds_always passing at_any ∷ []

forms-give_nothing : map (λ e. runs [] e []) forms ≡ gives [] ∷ gives [] ∷ gives [] ∷ gives [] ∷ []
forms-give_nothing = refl

not_runnable : (IsRunnable (expr_chain (Le ∷ []) (exprs_of (expr_truth true ∷ expr_truth true ∷ []))) → ⊥)
    × (IsRunnable (expr_min (exprs_of (expr_truth true ∷ []))) → ⊥) × (IsRunnable (expr_max (exprs_of (expr_truth true ∷ []))) → ⊥)
    × (IsRunnable (expr_choose_where 1 [] (Int ∷ []) [] holds_always (expr_truth true) at_any) → ⊥)
not_runnable = ((λ h. h), (λ h. h), (λ h. h), λ h. h)

set-form : runs [] (expr_set_of (exprs_of (expr_lit (pos 2) ∷ expr_lit (pos 1) ∷ expr_lit (pos 2) ∷ []))) [] ≡ gives (set (pos 1 ∷ pos 2 ∷ []))
set-form = refl

union : runs [] (expr_binary Union (expr_var 0) (expr_var 1)) (elements (pos 1 ∷ []) ∷ elements (pos 2 ∷ []) ∷ []) ≡ gives (set (pos 1 ∷ pos 2 ∷ []))
union = refl

intersection : runs [] (expr_binary Inter (expr_var 0) (expr_var 1)) (elements (pos 1 ∷ pos 2 ∷ []) ∷ elements (pos 2 ∷ []) ∷ []) ≡ gives (set (pos 2 ∷ []))
intersection = refl

set-difference : runs [] (expr_binary Diff (expr_var 0) (expr_var 1)) (elements (pos 1 ∷ pos 2 ∷ []) ∷ elements (pos 2 ∷ []) ∷ []) ≡ gives (set (pos 1 ∷ []))
set-difference = refl

subset : runs [] (expr_binary Subset (expr_var 0) (expr_var 1)) (elements (pos 1 ∷ pos 2 ∷ []) ∷ elements (pos 2 ∷ []) ∷ []) ≡ gives (truth false ∷ [])
subset = refl

comparison : runs [] (expr_binary (Compare Le) (expr_lit (pos 2)) (expr_lit (pos 1))) [] ≡ gives (truth false ∷ [])
comparison = refl

pair : runs [] (expr_tuple (exprs_of (expr_lit (pos 1) ∷ expr_truth false ∷ []))) [] ≡ gives (number (pos 1) ∷ truth false ∷ [])
pair = refl

divided : runs [] (expr_div (expr_lit (negsuc 6)) (pos 2)) [] ≡ gives (numbers (negsuc 3 ∷ []))
divided = refl

divided-past : runs [] (expr_div (expr_var 0) (pos 1)) (numbers (past ∷ [])) ≡ overflow
divided-past = refl

rest : runs [] (expr_mod (expr_lit (negsuc 6)) (pos 2)) [] ≡ gives (numbers (pos 1 ∷ []))
rest = refl

divisor : runs [] (expr_divides (pos 3) (expr_lit (pos 7))) [] ≡ gives (truth false ∷ [])
divisor = refl

size : runs [] (expr_card (expr_var 0)) (set (pos 4 ∷ pos 5 ∷ [])) ≡ gives (numbers (pos 2 ∷ []))
size = refl

if-true : runs [] (expr_if (expr_truth true) (expr_lit (pos 1)) passing) [] ≡ gives (numbers (pos 1 ∷ []))
if-true = refl

if-false : runs [] (expr_if (expr_truth false) (expr_lit (pos 1)) passing) [] ≡ overflow
if-false = refl

let-of_pair : runs [] (expr_let 2 (expr_tuple (exprs_of (expr_lit (pos 1) ∷ expr_lit (pos 2) ∷ []))) (expr_binary Sub (expr_var 1) (expr_var 2)))
    (numbers (pos 9 ∷ [])) ≡ gives (numbers (negsuc 0 ∷ []))
let-of_pair = refl

call : runs (expr_binary Sub (expr_var 1) (expr_var 0) ∷ expr_call 0 (exprs_of (expr_lit (pos 3) ∷ expr_var 0 ∷ [])) ∷ [])
    (expr_call 1 (exprs_of (expr_lit (pos 5) ∷ []))) [] ≡ gives (numbers (pos 2 ∷ []))
call = refl

-- main need not stand last, and a function calls only those before it
main-first : late_run (expr_lit (pos 1) ∷ expr_lit (pos 2) ∷ []) 0 [] ≡ gives (numbers (pos 1 ∷ []))
main-first = refl

call-itself : runs (expr_lit (pos 1) ∷ []) (expr_call 1 (exprs_of [])) [] ≡ gives []
call-itself = refl

call-stops : runs (expr_lit (pos 1) ∷ []) (expr_call 0 (exprs_of (passing ∷ []))) [] ≡ overflow
call-stops = refl

-- ---- matches: 2 * i then i + 100, 3 then 0, 6 * i + 3 * j + 1 then 7
abbrev scope : List Param
scope = params (Int ∷ Int ∷ [])

abbrev matched : ExprTree
matched =
    expr_match 1 scope (expr_var 0) (match_arms_of (
    match_arm 2 (pos 2 ∷ []) (pos 0) (expr_binary Add (expr_var 2) (expr_lit (pos 100))) ∷
    match_arm 0 [] (pos 3) (expr_var 1) ∷
    match_arm 3 (pos 6 ∷ pos 3 ∷ []) (pos 1) (expr_tuple (exprs_of (expr_binary Sub (expr_lit (pos 0)) (expr_var 1) ∷ []))) ∷ []))

match-first_arm : runs [] matched (numbers (pos 8 ∷ [])) ≡ gives (numbers (pos 104 ∷ []))
unfolding arms arm first_systems disjuncts system_of_case write_atom run run_for stage clean_stage equation_stage bound_stage unknown_stage row_stage clean
    mix factors_of merge merge_passes merge_factor last pick searched dropped searched_by bound bound_passes bound_factor gcd_by factors_by parts_of limit
    refusal_by case_count written_passes first_refused
match-first_arm = refl

match-negative : runs [] matched (numbers (negsuc 7 ∷ [])) ≡ gives (numbers (pos 96 ∷ []))
unfolding arms arm first_systems disjuncts system_of_case write_atom run run_for stage clean_stage equation_stage bound_stage unknown_stage row_stage clean
    mix factors_of merge merge_passes merge_factor last pick searched dropped searched_by bound bound_passes bound_factor gcd_by factors_by parts_of limit
    refusal_by case_count written_passes first_refused
match-negative = refl

-- both the first and the last arm fit
match-first_of_two : runs [] matched (numbers (pos 4 ∷ [])) ≡ gives (numbers (pos 102 ∷ []))
unfolding arms arm first_systems disjuncts system_of_case write_atom run run_for stage clean_stage equation_stage bound_stage unknown_stage row_stage clean
    mix factors_of merge merge_passes merge_factor last pick searched dropped searched_by bound bound_passes bound_factor gcd_by factors_by parts_of limit
    refusal_by case_count written_passes first_refused
match-first_of_two = refl

match-constant : runs [] matched (numbers (pos 3 ∷ [])) ≡ gives (numbers (pos 3 ∷ []))
unfolding gcd_by
match-constant = refl

match-two_variables : runs [] matched (numbers (pos 7 ∷ [])) ≡ gives (numbers (negsuc 6 ∷ []))
unfolding arms arm first_systems disjuncts system_of_case write_atom run run_for stage clean_stage equation_stage bound_stage unknown_stage row_stage clean
    mix factors_of merge merge_passes merge_factor last pick searched dropped searched_by bound bound_passes bound_factor gcd_by factors_by parts_of limit
    refusal_by case_count written_passes first_refused
match-two_variables = refl

match-no_arm : runs [] matched (numbers (pos 5 ∷ [])) ≡ none 1
unfolding gcd_by
match-no_arm = refl

match-stops : runs [] (expr_match 1 scope (expr_neg (expr_lit past)) (match_arms_of [])) (numbers (pos 5 ∷ [])) ≡ overflow
match-stops = refl

-- factors of 0 alone: the constant is the only number, and the variable is still picked
match-zero_factor : runs [] (expr_match 1 scope (expr_var 0) (match_arms_of (match_arm 2 (pos 0 ∷ []) (pos 3) (expr_var 2) ∷ []))) (numbers (pos 3 ∷ [])) ≡
    gives (numbers (pos 0 ∷ []))
unfolding arms arm first_systems disjuncts system_of_case write_atom run run_for stage clean_stage equation_stage bound_stage unknown_stage row_stage clean
    mix factors_of merge merge_passes merge_factor last pick searched dropped searched_by bound bound_passes bound_factor gcd_by factors_by parts_of limit
    refusal_by case_count written_passes first_refused
match-zero_factor = refl
