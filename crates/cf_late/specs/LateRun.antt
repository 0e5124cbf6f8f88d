-- What a program comes to whose chooses are eliminated where they are entered, on the numbers of their environments. It has none of the forms of `HasNoForm`.
use Rattle.std.specs.Prelude.{ℕ, suc, ◌-◌, ◌==◌, ℤ, pos, neg_ℤ, unsigned_abs, nat_le, Bool, true, false, not, List, [], ◌∷◌, ◌++◌, length, map, reverse, if◌then◌else◌}
use Rattle.std.specs.Ordering.{int_eq}
use Rattle.cf_num.specs.Limit.{limit}
use Rattle.cf_tree.specs.declared.base.Base.{Base}
use Rattle.cf_tree.specs.declared.base.Base.TheVariants.{Int}
use Rattle.cf_tree.specs.declared.base.Order.TheVariants.{Eq}
use Rattle.cf_tree.specs.declared.raw.BinOp.{BinOp}
use Rattle.cf_tree.specs.declared.raw.BinOp.TheVariants.{And, Or, Implies}
use Rattle.cf_tree.specs.Allowed.{operation}
use Rattle.cf_tree.specs.Params.{bases_of}
use Rattle.cf_tree.specs.ExprTree.{ExprTree, expr_lit, expr_truth, expr_var, expr_set_of, expr_tuple, expr_neg, expr_not, expr_abs, expr_binary, expr_chain, expr_min, expr_max, expr_divides, expr_div, expr_mod, expr_card, expr_if, expr_call, expr_let, expr_choose, expr_choose_where, expr_match, ExprTrees, no_exprs, expr_more, match_arm, MatchArmTrees, no_match_arms, match_arm_more}
use Rattle.cf_tree.specs.Numbers.{quotient, remainder, is_multiple, absolute}
use Rattle.cf_tree.specs.RelTree.{RelTree, rel_compare, term_var}
use Rattle.cf_tree.specs.Sets.{set_of}
use Rattle.cf_tree.specs.Values.{Value, number, truth, elements, values, no_solution, number_of, truth_of, elements_of, value_at, first_of}
use Rattle.cf_program.specs.Lowered.{pattern_term}
use Rattle.cf_match.specs.declared.class.Class.{Class}
use Rattle.cf_match.specs.declared.class.Class.TheVariants.{Point, Residue}
use Rattle.cf_match.specs.Classes.{class_of}
use Rattle.cf_late.specs.ChooseRun.{LateOutcome, comes_to, overflow, refused, gives, late_choose}

-- the first part that gives no values decides
abbrev pub then_late : LateOutcome → (List Value → LateOutcome) → LateOutcome
then_late (comes_to (values vs)) go = go vs
then_late (comes_to (no_solution n)) go = comes_to (no_solution n)
then_late overflow go = overflow
then_late (refused n r) go = refused n r

-- the value of an ordinary operation, which overflows past the limit
abbrev pub ordinary : Value → LateOutcome
ordinary (number z) = if nat_le (unsigned_abs z) limit then gives (number z ∷ []) else overflow
ordinary (truth b) = gives (truth b ∷ [])
ordinary (elements zs) = gives (elements zs ∷ [])

-- goes on where the left side does not decide
abbrev pub late_right : BinOp → Value → LateOutcome → LateOutcome
late_right And v right = if truth_of v then right else gives (truth false ∷ [])
late_right Or v right = if truth_of v then gives (truth true ∷ []) else right
late_right Implies v right = if truth_of v then right else gives (truth true ∷ [])
late_right op v right = then_late right (λ ys. ordinary (operation op v (first_of ys)))

-- ---- matches
-- the test of a class
abbrev pub is_in : Class → ℤ → Bool
is_in (Point c) z = int_eq z c
is_in (Residue g r) z = int_eq (remainder z g) r

-- the value of level x is the pattern's, whose variables stand behind it
abbrev pub pattern_relation : ℕ → List ℤ → ℤ → RelTree
pattern_relation x factors k = rel_compare Eq (term_var x) (pattern_term (suc x) factors k)

-- the values of the variables of a pattern, which choose number m picks; the matched value stands last in the scope
abbrev pub late_variables : ℕ → List Base → List ℤ → ℤ → List Value → LateOutcome
late_variables m scope [] k env = gives []
late_variables m scope (f ∷ factors) k env =
    late_choose m scope (map (λ _. Int) (f ∷ factors)) (pattern_relation (length scope - 1) (f ∷ factors) k) env

-- ---- expressions
abbrev mutual
  -- what an expression comes to, where `calls` says what a call does
  pub late_in : (ℕ → List Value → LateOutcome) → ExprTree → List Value → LateOutcome
  late_in calls (expr_lit k) env = gives (number k ∷ [])
  late_in calls (expr_truth t) env = gives (truth t ∷ [])
  late_in calls (expr_var x) env = gives (value_at env x ∷ [])
  late_in calls (expr_set_of es) env = then_late (late_all calls es env) (λ xs. gives (elements (set_of (map number_of xs)) ∷ []))
  late_in calls (expr_tuple es) env = late_all calls es env
  late_in calls (expr_neg a) env = then_late (late_in calls a env) (λ xs. ordinary (number (neg_ℤ (number_of (first_of xs)))))
  late_in calls (expr_not a) env = then_late (late_in calls a env) (λ xs. ordinary (truth (not (truth_of (first_of xs)))))
  late_in calls (expr_abs a) env = then_late (late_in calls a env) (λ xs. ordinary (number (absolute (number_of (first_of xs)))))
  late_in calls (expr_binary op a b) env = then_late (late_in calls a env) (λ xs. late_right op (first_of xs) (late_in calls b env))
  late_in calls (expr_chain orders es) env = gives []
  late_in calls (expr_min es) env = gives []
  late_in calls (expr_max es) env = gives []
  late_in calls (expr_divides k a) env = then_late (late_in calls a env) (λ xs. ordinary (truth (is_multiple k (number_of (first_of xs)))))
  late_in calls (expr_div a k) env = then_late (late_in calls a env) (λ xs. ordinary (number (quotient (number_of (first_of xs)) k)))
  late_in calls (expr_mod a k) env = then_late (late_in calls a env) (λ xs. ordinary (number (remainder (number_of (first_of xs)) k)))
  late_in calls (expr_card a) env = then_late (late_in calls a env) (λ xs. ordinary (number (pos (length (elements_of (first_of xs))))))
  late_in calls (expr_if t a b) env = then_late (late_in calls t env) (λ xs. if truth_of (first_of xs) then late_in calls a env else late_in calls b env)
  late_in calls (expr_call f es) env = then_late (late_all calls es env) (calls f)
  late_in calls (expr_let n a b) env = then_late (late_in calls a env) (λ xs. late_in calls b (env ++ xs))
  late_in calls (expr_choose n scope outputs rel) env = late_choose n (bases_of scope) outputs rel env
  late_in calls (expr_choose_where n scope outputs hidden given rel aim) env = gives []
  late_in calls (expr_match n scope a arms) env =
      then_late (late_in calls a env) (λ xs. late_arms calls n (bases_of scope) arms (number_of (first_of xs)) (env ++ xs))

  -- the values of all, from left to right
  pub late_all : (ℕ → List Value → LateOutcome) → ExprTrees → List Value → LateOutcome
  late_all calls no_exprs env = gives []
  late_all calls (expr_more e es) env = then_late (late_in calls e env) (λ xs. then_late (late_all calls es env) (λ ys. gives (xs ++ ys)))

  -- the first arm whose test holds of v, behind the values of its variables; match number n has no solution where no arm's does
  pub late_arms : (ℕ → List Value → LateOutcome) → ℕ → List Base → MatchArmTrees → ℤ → List Value → LateOutcome
  late_arms calls n scope no_match_arms v env = comes_to (no_solution n)
  late_arms calls n scope (match_arm_more (match_arm m factors k body) arms) v env =
      if is_in (class_of factors k) v
      then then_late (late_variables m scope factors k env) (λ is. late_in calls body (env ++ is))
      else late_arms calls n scope arms v env

-- a call of function number f, where the functions stand last first: each calls only those after it in the list
abbrev pub late_call : List ExprTree → ℕ → List Value → LateOutcome
late_call [] f xs = gives []
late_call (body ∷ earlier) f xs = if f == length earlier then late_in (late_call earlier) body xs else late_call earlier f xs

-- the main function of a program, whose functions stand in the order of the source
abbrev pub late_run : List ExprTree → ℕ → List Value → LateOutcome
late_run bodies main env = late_call (reverse bodies) main env
