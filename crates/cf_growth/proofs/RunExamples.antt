-- What sources pick, and where they may overflow: each is computed.
use Rattle.std.proofs.Common.{◌≡◌, ◌<◌, ℕ, ℤ, pos, negsuc, Option, Some, None, List, [], ◌∷◌, map, true, false, inr, refl, sym, subst, arith, ◌++◌, length}
use Rattle.std.specs.Prelude.{codes}
use Rattle.cf_num.specs.Divisors.{gcd_by, factors_by}
use Rattle.cf_num.specs.Parts.{parts_of}
use Rattle.cf_num.specs.Limit.{limit}
use Rattle.cf_tree.specs.declared.base.Base.{Base}
use Rattle.cf_tree.specs.declared.base.Base.TheVariants.{Int}
use Rattle.cf_tree.specs.declared.base.Order.TheVariants.{Eq, Le}
use Rattle.cf_tree.specs.declared.raw.BinOp.TheVariants.{Add, Sub, Mul, And, Or, Union, Inter, Diff, Subset, Implies, Compare}
use Rattle.cf_tree.specs.declared.raw.Param.{Param}
use Rattle.cf_tree.specs.Allowed.{goes_on}
use Rattle.cf_tree.specs.ExprTree.{ExprTree, expr_lit, expr_truth, expr_var, expr_set_of, expr_tuple, expr_neg, expr_not, expr_abs, expr_binary, expr_chain, expr_min, expr_max, expr_divides, expr_div, expr_mod, expr_card, expr_if, expr_call, expr_let, expr_choose, expr_choose_where, exprs_of, holds_always, at_any}
use Rattle.cf_tree.specs.RelTree.{RelTree, rel_and, rel_compare, term_add, term_lit, term_mul, term_var}
use Rattle.cf_tree.specs.Values.{Value, Outcome, number, truth, elements, values, no_solution}
use Rattle.cf_linear.specs.Arm.{arm}
use Rattle.cf_linear.specs.Cases.{disjuncts, system_of_case, first_systems, write_atom}
use Rattle.cf_linear.specs.Chooses.{arms, growth_of_case, growth}
use Rattle.cf_linear.specs.Stages.{run, run_for, clean_stage, equation_stage, bound_stage, unknown_stage, row_stage, stage}
use Rattle.cf_linear.specs.Steps.{clean, mix, factors_of, merge, merge_passes, merge_factor, last, pick, searched, dropped, searched_by, bound, bound_passes, bound_factor}
use Rattle.cf_growth.specs.Overflowing.{MayOverflow, picked}
use Rattle.cf_growth.specs.Reaching.{reach}

abbrev pub param : Base → Param
param b = record { place = record { line = 1; column = 1 }; name = codes "a"; base = b }

abbrev pub numbers : List ℤ → List Value
numbers zs = map number zs

abbrev gives : List Value → Option Outcome
gives vs = Some (values vs)

-- what an expression of these functions picks
abbrev picks : List ExprTree → ExprTree → List Value → Option Outcome
picks before e env = picked (before ++ e ∷ []) (length before) env

-- 2^127 - 1, and one more
abbrev greatest : ℤ
greatest = pos 170141183460469231731687303715884105727

abbrev past : ℤ
past = pos 170141183460469231731687303715884105728

-- ---- chooses
-- a <= 2 * x && 2 * x <= b
abbrev rounding : RelTree
rounding = rel_and (rel_compare Le (term_var 0) (term_mul (term_lit (pos 2)) (term_var 2)))
    (rel_compare Le (term_mul (term_lit (pos 2)) (term_var 2)) (term_var 1))

abbrev rounding_main : ExprTree
rounding_main = expr_choose 1 (param Int ∷ param Int ∷ []) (Int ∷ []) rounding

-- 2^126 - 2
abbrev large : ℤ
large = pos 85070591730234615865843651857942052862

rounding-of_large : picks [] rounding_main (numbers (large ∷ large ∷ [])) ≡ gives (numbers (pos 42535295865117307932921825928971026431 ∷ []))
unfolding arms arm first_systems disjuncts system_of_case write_atom run run_for stage clean_stage equation_stage bound_stage unknown_stage row_stage clean mix factors_of merge merge_passes merge_factor last pick searched dropped searched_by bound bound_passes bound_factor gcd_by factors_by parts_of
rounding-of_large = refl

rounding-without_solution : picks [] rounding_main (numbers (pos 3 ∷ pos 3 ∷ [])) ≡ Some (no_solution 1)
unfolding arms arm first_systems disjuncts system_of_case write_atom run run_for stage clean_stage equation_stage bound_stage unknown_stage row_stage clean mix factors_of merge merge_passes merge_factor last pick searched dropped searched_by bound bound_passes bound_factor gcd_by factors_by parts_of
rounding-without_solution = refl

rounding-past : picks [] rounding_main (numbers (past ∷ past ∷ [])) ≡ None
unfolding arms arm first_systems disjuncts system_of_case write_atom run run_for stage clean_stage equation_stage bound_stage unknown_stage row_stage clean mix factors_of merge merge_passes merge_factor last pick searched dropped searched_by bound bound_passes bound_factor gcd_by factors_by parts_of
rounding-past = refl

-- 2 * (1 + 2^126 - 2) is 2^127 - 2
rounding-reach : reach (Int ∷ Int ∷ []) (Int ∷ []) rounding (numbers (large ∷ large ∷ [])) ≡ 170141183460469231731687303715884105726
unfolding arms arm first_systems disjuncts system_of_case write_atom run run_for stage clean_stage equation_stage bound_stage unknown_stage row_stage clean mix factors_of merge merge_passes merge_factor last pick searched dropped searched_by bound bound_passes bound_factor gcd_by factors_by parts_of growth growth_of_case
rounding-reach = refl

-- one more may pass
rounding-reach_more : reach (Int ∷ Int ∷ []) (Int ∷ []) rounding (numbers (large ∷ pos 85070591730234615865843651857942052863 ∷ [])) ≡
    170141183460469231731687303715884105728
unfolding arms arm first_systems disjuncts system_of_case write_atom run run_for stage clean_stage equation_stage bound_stage unknown_stage row_stage clean mix factors_of merge merge_passes merge_factor last pick searched dropped searched_by bound bound_passes bound_factor gcd_by factors_by parts_of growth growth_of_case
rounding-reach_more = refl

abbrev seconds : RelTree
seconds =
    rel_and
    (rel_and
    (rel_and
    (rel_and
    (rel_and
    (rel_compare Eq
    (term_add (term_add (term_mul (term_var 1) (term_lit (pos 3600))) (term_mul (term_var 2) (term_lit (pos 60)))) (term_var 3)) (term_var 0))
    (rel_compare Le (term_lit (pos 0)) (term_var 1)))
    (rel_compare Le (term_lit (pos 0)) (term_var 2)))
    (rel_compare Le (term_var 2) (term_lit (pos 59))))
    (rel_compare Le (term_lit (pos 0)) (term_var 3)))
    (rel_compare Le (term_var 3) (term_lit (pos 59)))

-- 10^27 seconds
seconds-of_large : picks [] (expr_choose 1 (param Int ∷ []) (Int ∷ Int ∷ Int ∷ []) seconds) (numbers (pos 1000000000000000000000000000 ∷ [])) ≡
    gives (numbers (pos 277777777777777777777777 ∷ pos 46 ∷ pos 40 ∷ []))
unfolding arms arm first_systems disjuncts system_of_case write_atom run run_for stage clean_stage equation_stage bound_stage unknown_stage row_stage clean mix factors_of merge merge_passes merge_factor last pick searched dropped searched_by bound bound_passes bound_factor gcd_by factors_by parts_of
seconds-of_large = refl

-- ---- operations
abbrev square : ExprTree
square = expr_binary Mul (expr_var 0) (expr_var 0)

-- 2^64
abbrev root : ℤ
root = pos 18446744073709551616

abbrev overflow : ExprTree
overflow = expr_binary Mul (expr_lit root) (expr_lit root)

abbrev set : List ℤ → List Value
set zs = elements zs ∷ []

square-of_root : picks [] (square) (numbers (root ∷ [])) ≡ None
square-of_root = refl

square-of_three : picks [] (square) (numbers (pos 3 ∷ [])) ≡ gives (numbers (pos 9 ∷ []))
square-of_three = refl

literal : picks [] (expr_lit (negsuc 4)) [] ≡ gives (numbers (negsuc 4 ∷ []))
literal = refl

truth-value : picks [] (expr_truth true) [] ≡ gives (truth true ∷ [])
truth-value = refl

variable : picks [] (expr_var 1) (numbers (pos 7 ∷ pos 8 ∷ [])) ≡ gives (numbers (pos 8 ∷ []))
variable = refl

variable-past : picks [] (expr_var 0) (numbers (past ∷ [])) ≡ gives (numbers (past ∷ []))
variable-past = refl

negative : picks [] (expr_neg (expr_var 0)) (numbers (greatest ∷ [])) ≡ gives (numbers (negsuc 170141183460469231731687303715884105726 ∷ []))
negative = refl

negative-past : picks [] (expr_neg (expr_var 0)) (numbers (past ∷ [])) ≡ None
negative-past = refl

negation : picks [] (expr_not (expr_truth true)) [] ≡ gives (truth false ∷ [])
negation = refl

absolute-value : picks [] (expr_abs (expr_lit (negsuc 6))) [] ≡ gives (numbers (pos 7 ∷ []))
absolute-value = refl

absolute-past : picks [] (expr_abs (expr_var 0)) (numbers (past ∷ [])) ≡ None
absolute-past = refl

sum : picks [] (expr_binary Add (expr_lit (pos 3)) (expr_lit (pos 4))) [] ≡ gives (numbers (pos 7 ∷ []))
sum = refl

sum-past : picks [] (expr_binary Add (expr_lit greatest) (expr_lit (pos 1))) [] ≡ None
sum-past = refl

difference : picks [] (expr_binary Sub (expr_lit (pos 3)) (expr_lit (pos 4))) [] ≡ gives (numbers (negsuc 0 ∷ []))
difference = refl

and-decided : picks [] (expr_binary And (expr_truth false) (expr_binary (Compare Eq) overflow overflow)) [] ≡ gives (truth false ∷ [])
and-decided = refl

and-right : picks [] (expr_binary And (expr_truth true) (expr_binary (Compare Eq) overflow overflow)) [] ≡ None
and-right = refl

or-decided : picks [] (expr_binary Or (expr_truth true) (expr_binary (Compare Eq) overflow overflow)) [] ≡ gives (truth true ∷ [])
or-decided = refl

or-right : picks [] (expr_binary Or (expr_truth false) (expr_truth false)) [] ≡ gives (truth false ∷ [])
or-right = refl

implies-decided : picks [] (expr_binary Implies (expr_truth false) (expr_binary (Compare Eq) overflow overflow)) [] ≡ gives (truth true ∷ [])
implies-decided = refl

implies-right : picks [] (expr_binary Implies (expr_truth true) (expr_truth false)) [] ≡ gives (truth false ∷ [])
implies-right = refl

-- forms that do not stand here
abbrev forms : List ExprTree
forms =
    expr_chain (Le ∷ Le ∷ []) (exprs_of (overflow ∷ overflow ∷ overflow ∷ [])) ∷ expr_min (exprs_of (overflow ∷ overflow ∷ []))
    ∷ expr_max (exprs_of (overflow ∷ overflow ∷ [])) ∷ expr_choose_where 1 [] (Int ∷ []) [] holds_always overflow at_any ∷ []

forms-give_nothing : map (λ e. picks [] e []) forms ≡ gives [] ∷ gives [] ∷ gives [] ∷ gives [] ∷ []
forms-give_nothing = refl

set-form : picks [] (expr_set_of (exprs_of (expr_lit (pos 2) ∷ expr_lit (pos 1) ∷ expr_lit (pos 2) ∷ []))) [] ≡ gives (set (pos 1 ∷ pos 2 ∷ []))
set-form = refl

union : picks [] (expr_binary Union (expr_var 0) (expr_var 1)) (elements (pos 1 ∷ []) ∷ elements (pos 2 ∷ []) ∷ []) ≡ gives (set (pos 1 ∷ pos 2 ∷ []))
union = refl

intersection : picks [] (expr_binary Inter (expr_var 0) (expr_var 1)) (elements (pos 1 ∷ pos 2 ∷ []) ∷ elements (pos 2 ∷ []) ∷ []) ≡ gives (set (pos 2 ∷ []))
intersection = refl

set-difference : picks [] (expr_binary Diff (expr_var 0) (expr_var 1)) (elements (pos 1 ∷ pos 2 ∷ []) ∷ elements (pos 2 ∷ []) ∷ []) ≡ gives (set (pos 1 ∷ []))
set-difference = refl

subset : picks [] (expr_binary Subset (expr_var 0) (expr_var 1)) (elements (pos 1 ∷ pos 2 ∷ []) ∷ elements (pos 2 ∷ []) ∷ []) ≡ gives (truth false ∷ [])
subset = refl

comparison : picks [] (expr_binary (Compare Le) (expr_lit (pos 2)) (expr_lit (pos 1))) [] ≡ gives (truth false ∷ [])
comparison = refl

pair : picks [] (expr_tuple (exprs_of (expr_lit (pos 1) ∷ expr_truth false ∷ []))) [] ≡ gives (number (pos 1) ∷ truth false ∷ [])
pair = refl

divided : picks [] (expr_div (expr_lit (negsuc 6)) (pos 2)) [] ≡ gives (numbers (negsuc 3 ∷ []))
divided = refl

divided-past : picks [] (expr_div (expr_var 0) (pos 1)) (numbers (past ∷ [])) ≡ None
divided-past = refl

rest : picks [] (expr_mod (expr_lit (negsuc 6)) (pos 2)) [] ≡ gives (numbers (pos 1 ∷ []))
rest = refl

divisor : picks [] (expr_divides (pos 3) (expr_lit (pos 7))) [] ≡ gives (truth false ∷ [])
divisor = refl

size : picks [] (expr_card (expr_var 0)) (set (pos 4 ∷ pos 5 ∷ [])) ≡ gives (numbers (pos 2 ∷ []))
size = refl

if-true : picks [] (expr_if (expr_truth true) (expr_lit (pos 1)) overflow) [] ≡ gives (numbers (pos 1 ∷ []))
if-true = refl

if-false : picks [] (expr_if (expr_truth false) (expr_lit (pos 1)) overflow) [] ≡ None
if-false = refl

let-of_pair : picks [] (expr_let 2 (expr_tuple (exprs_of (expr_lit (pos 1) ∷ expr_lit (pos 2) ∷ []))) (expr_binary Sub (expr_var 1) (expr_var 2)))
    (numbers (pos 9 ∷ [])) ≡ gives (numbers (negsuc 0 ∷ []))
let-of_pair = refl

call : picks (expr_binary Sub (expr_var 1) (expr_var 0) ∷ expr_call 0 (exprs_of (expr_lit (pos 3) ∷ expr_var 0 ∷ [])) ∷ [])
    (expr_call 1 (exprs_of (expr_lit (pos 5) ∷ []))) [] ≡ gives (numbers (pos 2 ∷ []))
call = refl

-- no number is both at least 1 and at most 0
abbrev without : ℕ → ExprTree
without n = expr_choose n [] (Int ∷ []) (rel_and (rel_compare Le (term_lit (pos 1)) (term_var 0)) (rel_compare Le (term_var 0) (term_lit (pos 0))))

stops-at_the_left : picks [] (expr_tuple (exprs_of (without 1 ∷ overflow ∷ []))) [] ≡ Some (no_solution 1)
unfolding arms arm first_systems disjuncts system_of_case write_atom run run_for stage clean_stage equation_stage bound_stage unknown_stage row_stage clean mix factors_of merge merge_passes merge_factor last pick searched dropped searched_by bound bound_passes bound_factor gcd_by factors_by parts_of
stops-at_the_left = refl

overflow-comes_first : picks [] (expr_tuple (exprs_of (overflow ∷ without 1 ∷ []))) [] ≡ None
unfolding arms arm first_systems disjuncts system_of_case write_atom run run_for stage clean_stage equation_stage bound_stage unknown_stage row_stage clean mix factors_of merge merge_passes merge_factor last pick searched dropped searched_by bound bound_passes bound_factor gcd_by factors_by parts_of
overflow-comes_first = refl

stops-at_the_right : picks [] (expr_binary Add (expr_lit (pos 1)) (without 2)) [] ≡ Some (no_solution 2)
unfolding arms arm first_systems disjuncts system_of_case write_atom run run_for stage clean_stage equation_stage bound_stage unknown_stage row_stage clean mix factors_of merge merge_passes merge_factor last pick searched dropped searched_by bound bound_passes bound_factor gcd_by factors_by parts_of
stops-at_the_right = refl

-- ---- where a near path may overflow
square-may : MayOverflow (square ∷ []) 0 (numbers (root ∷ []))
square-may = inr (numbers (root ∷ []), refl, inr (numbers (root ∷ []), refl, omega arith))

rounding-may_not : MayOverflow (rounding_main ∷ []) 0 (numbers (large ∷ large ∷ [])) → ⊥
rounding-may_not h = omega (arith, subst (λ n. limit < n) rounding-reach h)

rounding-may : MayOverflow (rounding_main ∷ []) 0 (numbers (large ∷ pos 85070591730234615865843651857942052863 ∷ []))
rounding-may = subst (λ n. limit < n) (sym rounding-reach_more) (omega arith)

-- the value that is met first may be any near one, and what follows may overflow
let-may : MayOverflow (expr_let 1 (expr_var 0) (expr_binary Mul (expr_var 1) (expr_var 1)) ∷ []) 0 (numbers (root ∷ []))
let-may = inr (numbers (root ∷ []), refl, inr (numbers (root ∷ []), refl, inr (numbers (root ∷ []), refl, omega arith)))

call-may : MayOverflow (square ∷ expr_call 0 (exprs_of (expr_lit root ∷ [])) ∷ []) 1 []
call-may = inr (
  numbers (root ∷ []),
  goes_on (numbers (root ∷ [])) refl (goes_on [] refl refl),
  inr (numbers (root ∷ []), refl, inr (numbers (root ∷ []), refl, omega arith)),
)
