-- Where a program may overflow and where not: one worked program for each clause, with the last value that does not pass and the first that does.
use Rattle.std.proofs.Common.{◌≡◌, ◌<◌, ◌≤◌, ℕ, ℤ, pos, negsuc, neg_ℤ, List, [], ◌∷◌, length, MatchBool, ◌+◌, ◌*◌, ◌++◌, true, false, inl, inr, refl, sym, subst, arith}
use Rattle.std.proofs.lemmas.Int.{ints}
use Rattle.cf_num.specs.Divisors.{gcd_by, factors_by}
use Rattle.cf_num.specs.Limit.{limit}
use Rattle.cf_num.specs.Parts.{parts_of}
use Rattle.cf_tree.specs.declared.base.Base.TheVariants.{Int}
use Rattle.cf_tree.specs.declared.base.Order.TheVariants.{Eq, Le}
use Rattle.cf_tree.specs.declared.raw.BinOp.{BinOp}
use Rattle.cf_tree.specs.declared.raw.BinOp.TheVariants.{Add, Sub, Mul, And, Or, Union, Implies, Compare}
use Rattle.cf_tree.specs.Allowed.{operation, goes_on}
use Rattle.cf_tree.specs.ExprTree.{ExprTree, expr_lit, expr_truth, expr_var, expr_set_of, expr_tuple, expr_neg, expr_not, expr_abs, expr_binary, expr_chain, expr_min, expr_max, expr_divides, expr_div, expr_mod, expr_card, expr_if, expr_call, expr_let, expr_choose, expr_choose_where, expr_match, exprs_of, no_match_arms, holds_always, at_any}
use Rattle.cf_tree.specs.Numbers.{absolute, quotient, remainder}
use Rattle.cf_tree.specs.RelTree.{RelTree, rel_and, rel_compare, term_lit, term_var}
use Rattle.cf_tree.specs.Values.{Value, number, truth, elements, Outcome, values, no_solution, number_of, truth_of, elements_of, value_at, first_of}
use Rattle.cf_linear.specs.Arm.{arm}
use Rattle.cf_linear.specs.Cases.{disjuncts, system_of_case, first_systems, write_atom}
use Rattle.cf_linear.specs.Chooses.{arms, growth_of_case, growth}
use Rattle.cf_linear.specs.Stages.{run, run_for, clean_stage, equation_stage, bound_stage, unknown_stage, row_stage, stage}
use Rattle.cf_linear.specs.Steps.{clean, mix, factors_of, merge, merge_passes, merge_factor, last, pick, searched, dropped, searched_by, bound, bound_passes, bound_factor}
use Rattle.cf_growth.specs.Overflowing.{MayOverflow, Passes, NearIn, RightPasses}
use Rattle.cf_growth.specs.Reaching.{reach}
use Rattle.cf_growth.proofs.RunExamples.{param, numbers}

-- whether the expression may overflow as the one function of a program, at these arguments
abbrev May : ExprTree → List Value → Type 0
May e env = MayOverflow (e ∷ []) 0 env

abbrev MayNot : ExprTree → List Value → Type 0
MayNot e env = May e env → ⊥

-- the number alone
abbrev at : ℤ → List Value
at z = numbers (z ∷ [])

-- 2^127 - 1, and one more
abbrev greatest : ℤ
greatest = pos 170141183460469231731687303715884105727

abbrev past : ℤ
past = pos 170141183460469231731687303715884105728

-- -(2^127 - 1), and one less
abbrev least : ℤ
least = negsuc 170141183460469231731687303715884105726

abbrev past_least : ℤ
past_least = negsuc 170141183460469231731687303715884105727

-- 2^127 - 2, and that below 0
abbrev below : ℤ
below = pos 170141183460469231731687303715884105726

abbrev above_least : ℤ
above_least = negsuc 170141183460469231731687303715884105725

-- 2^64, whose square passes
abbrev root : ℤ
root = pos 18446744073709551616

abbrev overflow : ExprTree
overflow = expr_binary Mul (expr_lit root) (expr_lit root)

-- no number is both at least 1 and at most 0
abbrev never : RelTree
never = rel_and (rel_compare Le (term_lit (pos 1)) (term_var 0)) (rel_compare Le (term_var 0) (term_lit (pos 0)))

abbrev without : ExprTree
without = expr_choose 1 [] (Int ∷ []) never

-- what no function is called with
abbrev no_calls : ℕ → List Value → Outcome → Type 0
no_calls f xs o = ⊥

-- the values of a path at whose end these values stand
same-values : (xs vs : List Value) → values xs ≡ values vs → xs ≡ vs
same-values xs vs e = cc e

-- what holds of the values of some path holds of the only ones
of-these : (P : List Value → Type 0) (xs vs : List Value) → values xs ≡ values vs → P xs → P vs
of-these P xs vs e p = subst P (same-values xs vs e) p

greatest-stays : Passes (number greatest) → ⊥
greatest-stays p = omega (arith, p)

past-passes : Passes (number past)
past-passes = omega arith

-- 2^64 * 2^64
overflow-may : (env : List Value) → May overflow env
overflow-may env = inr (at root, refl, inr (at root, refl, omega arith))

-- ---- leaves
literal-not : MayNot (expr_lit past) []
literal-not h = h

truth-not : MayNot (expr_truth true) []
truth-not h = h

variable-not : MayNot (expr_var 0) (at past)
variable-not h = h

match-not : MayNot (expr_match 1 [] overflow no_match_arms) []
match-not h = h

chain-not : MayNot (expr_chain (Le ∷ Le ∷ []) (exprs_of (overflow ∷ overflow ∷ overflow ∷ []))) []
chain-not h = h

least-not : MayNot (expr_min (exprs_of (overflow ∷ overflow ∷ []))) []
least-not h = h

greatest-not : MayNot (expr_max (exprs_of (overflow ∷ overflow ∷ []))) []
greatest-not h = h

choose_where-not : MayNot (expr_choose_where 1 [] (Int ∷ []) [] holds_always overflow at_any) []
choose_where-not h = h

-- ---- one part
negative-not : MayNot (expr_neg (expr_var 0)) (at greatest)
negative-not (inl h) = h
negative-not (inr (xs, e, p)) = greatest-stays (of-these (λ v. Passes (number (neg_ℤ (number_of (first_of v))))) xs (at greatest) e p)

negative-may : May (expr_neg (expr_var 0)) (at past)
negative-may = inr (at past, refl, omega arith)

negative-part : May (expr_neg overflow) []
negative-part = inl (overflow-may [])

not-part : May (expr_not overflow) []
not-part = overflow-may []

not-not : MayNot (expr_not (expr_var 0)) (truth true ∷ [])
not-not h = h

-- of -(2^127 - 1)
absolute-not : MayNot (expr_abs (expr_var 0)) (at least)
absolute-not (inl h) = h
absolute-not (inr (xs, e, p)) =
    greatest-stays (of-these (λ v. Passes (number (absolute (number_of (first_of v))))) xs (at least) e p)

-- of -(2^127)
absolute-may : May (expr_abs (expr_var 0)) (at past_least)
absolute-may = inr (at past_least, refl, omega arith)

absolute-part : May (expr_abs overflow) []
absolute-part = inl (overflow-may [])

-- 2^127 divided by 2 is 2^126
divided-not : MayNot (expr_div (expr_var 0) (pos 2)) (at past)
divided-not (inl h) = h
divided-not (inr (xs, e, p)) =
    let q : Passes (number (pos 85070591730234615865843651857942052864)) =
    of-these (λ v. Passes (number (quotient (number_of (first_of v)) (pos 2)))) xs (at past) e p in omega (arith, q)

divided-may : May (expr_div (expr_var 0) (pos 1)) (at past)
divided-may = inr (at past, refl, omega arith)

divided-part : May (expr_div overflow (pos 2)) []
divided-part = inl (overflow-may [])

-- what 5 leaves of 2^127 is 3
rest-not : MayNot (expr_mod (expr_var 0) (pos 5)) (at past)
rest-not (inl h) = h
rest-not (inr (xs, e, p)) =
    let q : Passes (number (pos 3)) = of-these (λ v. Passes (number (remainder (number_of (first_of v)) (pos 5)))) xs (at past) e p in omega (arith, q)

-- what 2^128 leaves of 2^127 is 2^127
rest-may : May (expr_mod (expr_var 0) (pos 340282366920938463463374607431768211456)) (at past)
rest-may = inr (at past, refl, omega arith)

rest-part : May (expr_mod overflow (pos 5)) []
rest-part = inl (overflow-may [])

divisor-not : MayNot (expr_divides (pos 5) (expr_var 0)) (at past)
divisor-not h = h

divisor-part : May (expr_divides (pos 5) overflow) []
divisor-part = overflow-may []

size-not : (zs : List ℤ) → length zs ≤ limit → MayNot (expr_card (expr_var 0)) (elements zs ∷ [])
size-not zs few (inl h) = h
size-not zs few (inr (xs, e, p)) =
    let q : limit < length zs = of-these (λ v. Passes (number (pos (length (elements_of (first_of v)))))) xs (elements zs ∷ []) e p in omega (arith, few, q)

two-not : MayNot (expr_card (expr_var 0)) (elements (pos 4 ∷ pos 5 ∷ []) ∷ [])
two-not = size-not (pos 4 ∷ pos 5 ∷ []) (omega arith)

size-may : (zs : List ℤ) → limit < length zs → May (expr_card (expr_var 0)) (elements zs ∷ [])
size-may zs many = inr (elements zs ∷ [], refl, many)

size-part : May (expr_card (expr_set_of (exprs_of (expr_lit (pos 1) ∷ overflow ∷ [])))) []
size-part = inl (inr (at (pos 1), refl, inl (overflow-may [])))

-- ---- several parts, from left to right
set-first : May (expr_set_of (exprs_of (overflow ∷ []))) []
set-first = inl (overflow-may [])

tuple-second : May (expr_tuple (exprs_of (expr_lit (pos 1) ∷ overflow ∷ []))) []
tuple-second = inr (at (pos 1), refl, inl (overflow-may []))

tuple-not : MayNot (expr_tuple (exprs_of (expr_var 0 ∷ expr_var 0 ∷ []))) (at past)
tuple-not (inl h) = h
tuple-not (inr (xs, e, inl h)) = h
tuple-not (inr (xs, e, inr (ys, f, h))) = h

-- ---- two parts
-- with both sides in scope
abbrev both : BinOp → ExprTree
both op = expr_binary op (expr_var 0) (expr_var 1)

-- 2^127 - 2 and 1 more
sum-not : MayNot (both Add) (numbers (below ∷ pos 1 ∷ []))
sum-not (inl h) = h
sum-not (inr (xs, e, inl h)) = h
sum-not (inr (xs, e, inr (ys, f, p))) =
    let q = of-these (λ v. Passes (operation Add (first_of v) (first_of ys))) xs (at below) e p in
    greatest-stays (of-these (λ v. Passes (operation Add (number below) (first_of v))) ys (at (pos 1)) f q)

sum-may : May (both Add) (numbers (greatest ∷ pos 1 ∷ []))
sum-may = inr (at greatest, refl, inr (at (pos 1), refl, omega arith))

-- -(2^127 - 2) and 1 less
difference-not : MayNot (both Sub) (numbers (above_least ∷ pos 1 ∷ []))
difference-not (inl h) = h
difference-not (inr (xs, e, inl h)) = h
difference-not (inr (xs, e, inr (ys, f, p))) =
    let q = of-these (λ v. Passes (operation Sub (first_of v) (first_of ys))) xs (at above_least) e p in
    greatest-stays (of-these (λ v. Passes (operation Sub (number above_least) (first_of v))) ys (at (pos 1)) f q)

difference-may : May (both Sub) (numbers (least ∷ pos 1 ∷ []))
difference-may = inr (at least, refl, inr (at (pos 1), refl, omega arith))

-- 2^64 times 2^63 - 1
product-not : MayNot (both Mul) (numbers (root ∷ pos 9223372036854775807 ∷ []))
product-not (inl h) = h
product-not (inr (xs, e, inl h)) = h
product-not (inr (xs, e, inr (ys, f, p))) =
    let q = of-these (λ v. Passes (operation Mul (first_of v) (first_of ys))) xs (at root) e p in
    let r : Passes (number (pos 170141183460469231713240559642174554112)) =
    of-these (λ v. Passes (operation Mul (number root) (first_of v))) ys (at (pos 9223372036854775807)) f q in omega (arith, r)

product-may : May (both Mul) (numbers (root ∷ pos 9223372036854775808 ∷ []))
product-may = inr (at root, refl, inr (at (pos 9223372036854775808), refl, omega arith))

-- a set and a truth value never pass
union-not : MayNot (both Union) (elements (past ∷ []) ∷ elements (past ∷ []) ∷ [])
union-not (inl h) = h
union-not (inr (xs, e, inl h)) = h
union-not (inr (xs, e, inr (ys, f, p))) = omega (arith, p)

comparison-not : MayNot (both (Compare Le)) (numbers (past ∷ past ∷ []))
comparison-not (inl h) = h
comparison-not (inr (xs, e, inl h)) = h
comparison-not (inr (xs, e, inr (ys, f, p))) = omega (arith, p)

left-part : May (expr_binary Add overflow (expr_lit (pos 1))) []
left-part = inl (overflow-may [])

right-part : May (expr_binary Add (expr_lit (pos 1)) overflow) []
right-part = inr (at (pos 1), refl, inl (overflow-may []))

-- the right side of &&, of || and of ==> is reached where the left one does not decide
and-left : May (expr_binary And overflow (expr_truth false)) []
and-left = inl (overflow-may [])

and-right : May (expr_binary And (expr_truth true) overflow) []
and-right = inr (truth true ∷ [], refl, overflow-may [])

and-decided : MayNot (expr_binary And (expr_truth false) overflow) []
and-decided (inl h) = h
and-decided (inr (xs, e, p)) = of-these (λ v. RightPasses And (first_of v) (NearIn no_calls overflow []) (May overflow [])) xs (truth false ∷ []) e p

or-right : May (expr_binary Or (expr_truth false) overflow) []
or-right = inr (truth false ∷ [], refl, overflow-may [])

or-decided : MayNot (expr_binary Or (expr_truth true) overflow) []
or-decided (inl h) = h
or-decided (inr (xs, e, p)) = of-these (λ v. RightPasses Or (first_of v) (NearIn no_calls overflow []) (May overflow [])) xs (truth true ∷ []) e p

implies-left : May (expr_binary Implies overflow (expr_truth false)) []
implies-left = inl (overflow-may [])

implies-right : May (expr_binary Implies (expr_truth true) overflow) []
implies-right = inr (truth true ∷ [], refl, overflow-may [])

implies-decided : MayNot (expr_binary Implies (expr_truth false) overflow) []
implies-decided (inl h) = h
implies-decided (inr (xs, e, p)) = of-these (λ v. RightPasses Implies (first_of v) (NearIn no_calls overflow []) (May overflow [])) xs (truth false ∷ []) e p

-- ---- branches
if-test : May (expr_if overflow (expr_lit (pos 1)) (expr_lit (pos 2))) []
if-test = inl (overflow-may [])

if-true : May (expr_if (expr_truth true) overflow (expr_lit (pos 1))) []
if-true = inr (truth true ∷ [], refl, overflow-may [])

if-false : May (expr_if (expr_truth false) (expr_lit (pos 1)) overflow) []
if-false = inr (truth false ∷ [], refl, overflow-may [])

if-true_alone : MayNot (expr_if (expr_truth true) (expr_lit (pos 1)) overflow) []
if-true_alone (inl h) = h
if-true_alone (inr (xs, e, p)) = of-these (λ v. MatchBool (truth_of (first_of v)) ⊥ (May overflow [])) xs (truth true ∷ []) e p

if-false_alone : MayNot (expr_if (expr_truth false) overflow (expr_lit (pos 1))) []
if-false_alone (inl h) = h
if-false_alone (inr (xs, e, p)) = of-these (λ v. MatchBool (truth_of (first_of v)) (May overflow []) ⊥) xs (truth false ∷ []) e p

-- ---- lets
let-first : May (expr_let 1 overflow (expr_lit (pos 1))) []
let-first = inl (overflow-may [])

-- the bound variable stands behind those in scope
let-not : MayNot (expr_let 1 (expr_lit (pos 1)) (expr_neg (expr_var 1))) (at past)
let-not (inl h) = h
let-not (inr (xs, e, inl h)) = h
let-not (inr (xs, e, inr (ys, f, p))) =
    let g = of-these (λ v. values ys ≡ values (value_at (at past ++ v) 1 ∷ [])) xs (at (pos 1)) e f in
    let q : Passes (number (negsuc 0)) = of-these (λ v. Passes (number (neg_ℤ (number_of (first_of v))))) ys (at (pos 1)) g p in omega (arith, q)

let-scope : May (expr_let 1 (expr_lit (pos 1)) (expr_neg (expr_var 0))) (at past)
let-scope = inr (at (pos 1), refl, inr (at past, refl, omega arith))

-- ---- calls
call-argument : MayOverflow (expr_var 0 ∷ expr_call 0 (exprs_of (overflow ∷ [])) ∷ []) 1 []
call-argument = inl (inl (overflow-may []))

-- a function is named by its place in the source
first-function : MayOverflow (overflow ∷ expr_var 0 ∷ []) 0 []
first-function = overflow-may []

second-function : MayOverflow (overflow ∷ expr_var 0 ∷ []) 1 [] → ⊥
second-function h = h

no-function : MayOverflow (overflow ∷ []) 1 [] → ⊥
no-function h = h

call-not : MayOverflow (overflow ∷ expr_var 0 ∷ expr_call 1 (exprs_of (expr_lit (pos 1) ∷ [])) ∷ []) 2 [] → ⊥
call-not (inl (inl h)) = h
call-not (inl (inr (xs, e, h))) = h
call-not (inr (xs, e, h)) = h

-- at the values of its arguments
call-value : MayOverflow (expr_neg (expr_var 0) ∷ expr_call 0 (exprs_of (expr_lit past ∷ [])) ∷ []) 1 []
call-value = inr (at past, goes_on (at past) refl (goes_on [] refl refl), inr (at past, refl, omega arith))

-- ---- chooses
-- x = a
abbrev equal : RelTree
equal = rel_compare Eq (term_var 1) (term_var 0)

abbrev same : ExprTree
same = expr_choose 1 (param Int ∷ []) (Int ∷ []) equal

equal-growth : growth (Int ∷ []) (Int ∷ []) equal ≡ 1
unfolding arms arm first_systems disjuncts system_of_case write_atom run run_for stage clean_stage equation_stage bound_stage unknown_stage row_stage clean mix factors_of merge merge_passes merge_factor last pick searched dropped searched_by bound bound_passes bound_factor gcd_by factors_by parts_of growth growth_of_case
equal-growth = refl

-- a reach of 2^127 - 1
choose-not : MayNot same (at below)
choose-not h = omega (arith, subst (λ n. limit < n * (1 + 170141183460469231731687303715884105726)) equal-growth h)

-- and of 2^127
choose-may : May same (at greatest)
choose-may = subst (λ n. limit < n * (1 + 170141183460469231731687303715884105727)) (sym equal-growth) (omega arith)

without-reach : reach [] (Int ∷ []) never [] ≡ 1
unfolding arms arm first_systems disjuncts system_of_case write_atom run run_for stage clean_stage equation_stage bound_stage unknown_stage row_stage clean mix factors_of merge merge_passes merge_factor last pick searched dropped searched_by bound bound_passes bound_factor gcd_by factors_by parts_of growth growth_of_case
without-reach = refl

without-stays : MayNot without []
without-stays h = let l = subst (λ n. limit < n) without-reach h in omega (arith, l)

none-solves : (xs : List Value) → NearIn no_calls without [] (values xs) → ⊥
none-solves xs h = omega (arith, ints, h.0.1.0, h.0.1.1)

-- ---- no solution as a near outcome
none-near : NearIn no_calls without [] (no_solution 1)
none-near = (refl, λ xs s. omega (arith, ints, s.1.0, s.1.1))

-- with the number of the choose
none-of_another : NearIn no_calls without [] (no_solution 2) → ⊥
none-of_another h = omega (arith, h.0)

-- and only where there is none
none-of_solved : NearIn no_calls same (at (pos 3)) (no_solution 1) → ⊥
none-of_solved h = h.1 (at (pos 3)) (((pos 3, refl), tt), refl)

-- what stands behind it is not reached
let-after_none : MayNot (expr_let 1 without overflow) []
let-after_none (inl h) = without-stays h
let-after_none (inr (xs, e, h)) = none-solves xs e

tuple-after_none : MayNot (expr_tuple (exprs_of (without ∷ overflow ∷ []))) []
tuple-after_none (inl h) = without-stays h
tuple-after_none (inr (xs, e, h)) = none-solves xs e

tuple-before_none : May (expr_tuple (exprs_of (overflow ∷ without ∷ []))) []
tuple-before_none = inl (overflow-may [])
