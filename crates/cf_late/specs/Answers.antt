-- What the parts of a run answer.
use Rattle.std.specs.Prelude.{ℕ, ◌≡◌, ℤ, ◌+ℤ◌, ◌-ℤ◌, ◌*ℤ◌, pos, neg_ℤ, not, Bool, true, false, if◌then◌else◌, List, [], ◌∷◌, ◌++◌, length, map, reverse, take, Option, Some, None, Result, Ok, Err}
use Rattle.cf_tree.specs.declared.base.Base.{Base}
use Rattle.cf_tree.specs.declared.raw.BinOp.{BinOp}
use Rattle.cf_tree.specs.declared.raw.BinOp.TheVariants.{Add, Sub, And, Or, Union, Inter, Diff, Implies}
use Rattle.cf_tree.specs.declared.expr.Def.{Def}
use Rattle.cf_tree.specs.Allowed.{operation}
use Rattle.cf_tree.specs.DefView.{def_tree}
use Rattle.cf_tree.specs.ExprTree.{ExprTree, expr_neg, expr_not, expr_abs, expr_divides, expr_div, expr_mod, MatchArmTree, match_arm}
use Rattle.cf_tree.specs.Numbers.{quotient, remainder, is_multiple, absolute}
use Rattle.cf_tree.specs.Sets.{set_union, set_inter, set_diff, is_subset}
use Rattle.cf_tree.specs.Values.{Value, number, truth, elements, no_solution, number_of, truth_of, elements_of, first_of}
use Rattle.cf_match.specs.Classes.{class_of}
use Rattle.cf_match.specs.Laws.{bodies}
use Rattle.cf_late.specs.ChooseRun.{LateOutcome, comes_to, overflow, refused, gives}
use Rattle.cf_late.specs.declared.stop.Stop.{Stop}
use Rattle.cf_late.specs.declared.stop.Stop.TheVariants as stop
use Rattle.cf_late.specs.LateRun.{then_late, ordinary, is_in, late_variables, late_in, late_call}

-- why it stopped, if not for want of memory
abbrev pub StopIs : Stop → LateOutcome → Type 0
StopIs stop.NoMemory r = Unit {0}
StopIs stop.Overflow r = r ≡ overflow
StopIs (stop.Unsolved n) r = r ≡ comes_to (no_solution n)
StopIs (stop.Refused n refusal) r = r ≡ refused n refusal

abbrev pub LateAnswer : Result (List Value) Stop → LateOutcome → Type 0
LateAnswer (Ok vs) r = r ≡ gives vs
LateAnswer (Err e) r = StopIs e r

-- what calls come to in function number n, which may call those before it
abbrev pub calls_in : ℕ → List Def → ℕ → List Value → LateOutcome
calls_in n defs = late_call (reverse (bodies (map def_tree (take n defs))))

-- the value of a form over one part
abbrev pub one_part : ExprTree → Value → Value
one_part (expr_neg a) v = number (neg_ℤ (number_of v))
one_part (expr_not a) v = truth (not (truth_of v))
one_part (expr_abs a) v = number (absolute (number_of v))
one_part (expr_divides k a) v = truth (is_multiple k (number_of v))
one_part (expr_div a k) v = number (quotient (number_of v) k)
one_part (expr_mod a k) v = number (remainder (number_of v) k)
one_part _ v = number (pos (length (elements_of v)))

-- the number of an operation on two numbers
abbrev pub of_numbers : BinOp → ℤ → ℤ → ℤ
of_numbers Add x y = x +ℤ y
of_numbers Sub x y = x -ℤ y
of_numbers op x y = x *ℤ y

-- the value of an operation on two sets
abbrev pub of_sets : BinOp → List ℤ → List ℤ → Value
of_sets Union xs ys = elements (set_union xs ys)
of_sets Inter xs ys = elements (set_inter xs ys)
of_sets Diff xs ys = elements (set_diff xs ys)
of_sets op xs ys = truth (is_subset xs ys)

-- a number, or none where it is past the limit
abbrev pub met : Option ℤ → LateOutcome
met None = overflow
met (Some z) = gives (number z ∷ [])

-- the truth value that a left side decides
abbrev pub decided_by : BinOp → Value → Option Bool
decided_by And v = if truth_of v then None else Some false
decided_by Or v = if truth_of v then Some true else None
decided_by Implies v = if truth_of v then None else Some true
decided_by op v = None

-- what an operation comes to where its left side does not decide it, and these are the values of the right one
abbrev pub joined_by : BinOp → Value → List Value → LateOutcome
joined_by And v ys = gives ys
joined_by Or v ys = gives ys
joined_by Implies v ys = gives ys
joined_by op v ys = ordinary (operation op v (first_of ys))

-- whether the test of an arm holds of a number
abbrev pub arm_fits : MatchArmTree → ℤ → Bool
arm_fits (match_arm m factors k body) z = is_in (class_of factors k) z

-- what an arm comes to that is taken
abbrev pub arm_taken : (ℕ → List Value → LateOutcome) → List Base → MatchArmTree → List Value → LateOutcome
arm_taken calls scope (match_arm m factors k body) env = then_late (late_variables m scope factors k env) (λ is. late_in calls body (env ++ is))
