-- Near paths of a source, which of them may overflow, and what a source picks. A program is read here with its matches as the chooses that they stand for,
-- and has none of the forms of `HasNoForm`.
use Rattle.std.specs.Prelude.{ℕ, ◌<◌, ◌≤◌, ◌==◌, pos, neg_ℤ, unsigned_abs, nat_le, ◌≡◌, ◌⊎◌, true, false, not, List, [], ◌∷◌, ◌++◌, length, map, reverse, MatchBool, Option, Some, None, if◌then◌else◌}
use Rattle.cf_num.specs.Limit.{limit}
use Rattle.cf_tree.specs.declared.base.Base.{Base}
use Rattle.cf_tree.specs.declared.raw.BinOp.{BinOp}
use Rattle.cf_tree.specs.declared.raw.BinOp.TheVariants.{And, Or, Implies}
use Rattle.cf_tree.specs.Allowed.{operation, Choosing, Calling, AllowedBy, AllAllowedBy, CallAllowedBy}
use Rattle.cf_tree.specs.Params.{bases_of}
use Rattle.cf_tree.specs.CodeTree.{code_solve, arms_of}
use Rattle.cf_tree.specs.ExprTree.{ExprTree, expr_lit, expr_truth, expr_var, expr_set_of, expr_tuple, expr_neg, expr_not, expr_abs, expr_binary, expr_chain, expr_min, expr_max, expr_divides, expr_div, expr_mod, expr_card, expr_if, expr_call, expr_let, expr_choose, expr_choose_where, expr_match, ExprTrees, no_exprs, expr_more}
use Rattle.cf_tree.specs.Meaning.{means, peak}
use Rattle.cf_tree.specs.Numbers.{quotient, remainder, is_multiple, absolute}
use Rattle.cf_tree.specs.Relation.{Sol, IsTyped, IsLinear}
use Rattle.cf_tree.specs.RelTree.{RelTree}
use Rattle.cf_tree.specs.Sets.{set_of}
use Rattle.cf_tree.specs.Solving.{Solves}
use Rattle.cf_tree.specs.Typing.{ArmsHave}
use Rattle.cf_tree.specs.Values.{Value, number, truth, elements, Outcome, values, no_solution, number_of, truth_of, elements_of, value_at, first_of, HaveBases}
use Rattle.cf_linear.specs.Chooses.{arms, limit as first_refusal}
use Rattle.cf_linear.specs.Layout.{layout_of}
use Rattle.cf_growth.specs.Reaching.{AreNear, reach}

-- ---- near paths
-- an allowed outcome of a choose, all of whose picks are near
abbrev pub NearChosen : Choosing
NearChosen n scope outputs rel env (values xs) = Sol outputs rel env xs × AreNear (reach scope outputs rel env) (layout_of scope outputs rel) env xs
NearChosen n scope outputs rel env (no_solution m) = (m ≡ n) × ((xs : List Value) → Sol outputs rel env xs → ⊥)

abbrev pub NearIn : Calling → ExprTree → List Value → Outcome → Type 0
NearIn = AllowedBy NearChosen

abbrev pub NearAll : Calling → ExprTrees → List Value → Outcome → Type 0
NearAll = AllAllowedBy NearChosen

abbrev pub NearCall : List ExprTree → Calling
NearCall = CallAllowedBy NearChosen

-- ---- where a near path may overflow
abbrev pub Passes : Value → Type 0
Passes v = limit < unsigned_abs (number_of v)

-- behind a left side that does not decide
abbrev pub RightPasses : BinOp → Value → (Outcome → Type 0) → Type 0 → Type 0
RightPasses And v near later = MatchBool (truth_of v) later ⊥
RightPasses Or v near later = MatchBool (truth_of v) ⊥ later
RightPasses Implies v near later = MatchBool (truth_of v) later ⊥
RightPasses op v near later = later ⊎ ((ys : List Value) × near (values ys) × Passes (operation op v (first_of ys)))

-- whether a call may overflow on a near path
abbrev pub Over : Type 1
Over = ℕ → List Value → Type 0

abbrev mutual
  -- on some near path an operation's value passes the limit, or a choose is entered whose reach does
  pub OverIn : Calling → Over → ExprTree → List Value → Type 0
  OverIn near over (expr_lit k) env = ⊥
  OverIn near over (expr_truth t) env = ⊥
  OverIn near over (expr_var x) env = ⊥
  OverIn near over (expr_set_of es) env = OverAll near over es env
  OverIn near over (expr_tuple es) env = OverAll near over es env
  OverIn near over (expr_neg a) env = OverIn near over a env ⊎
      ((xs : List Value) × NearIn near a env (values xs) × Passes (number (neg_ℤ (number_of (first_of xs)))))
  OverIn near over (expr_not a) env = OverIn near over a env
  OverIn near over (expr_abs a) env = OverIn near over a env ⊎
      ((xs : List Value) × NearIn near a env (values xs) × Passes (number (absolute (number_of (first_of xs)))))
  OverIn near over (expr_binary op a b) env =
      OverIn near over a env ⊎ ((xs : List Value) × NearIn near a env (values xs) × RightPasses op (first_of xs) (NearIn near b env) (OverIn near over b env))
  OverIn near over (expr_chain orders es) env = ⊥
  OverIn near over (expr_min es) env = ⊥
  OverIn near over (expr_max es) env = ⊥
  OverIn near over (expr_divides k a) env = OverIn near over a env
  OverIn near over (expr_div a k) env = OverIn near over a env ⊎
      ((xs : List Value) × NearIn near a env (values xs) × Passes (number (quotient (number_of (first_of xs)) k)))
  OverIn near over (expr_mod a k) env = OverIn near over a env ⊎
      ((xs : List Value) × NearIn near a env (values xs) × Passes (number (remainder (number_of (first_of xs)) k)))
  OverIn near over (expr_card a) env = OverIn near over a env ⊎
      ((xs : List Value) × NearIn near a env (values xs) × Passes (number (pos (length (elements_of (first_of xs))))))
  OverIn near over (expr_if t a b) env =
      OverIn near over t env ⊎ ((xs : List Value) × NearIn near t env (values xs) × MatchBool (truth_of (first_of xs)) (OverIn near over a env)
      (OverIn near over b env))
  OverIn near over (expr_call f es) env = OverAll near over es env ⊎ ((xs : List Value) × NearAll near es env (values xs) × over f xs)
  OverIn near over (expr_let n a b) env = OverIn near over a env ⊎ ((xs : List Value) × NearIn near a env (values xs) × OverIn near over b (env ++ xs))
  OverIn near over (expr_choose n scope outputs rel) env = limit < reach (bases_of scope) outputs rel env
  OverIn near over (expr_choose_where n scope outputs hidden given rel aim) env = ⊥
  OverIn near over (expr_match n scope a arms) env = ⊥

  pub OverAll : Calling → Over → ExprTrees → List Value → Type 0
  OverAll near over no_exprs env = ⊥
  OverAll near over (expr_more e es) env = OverIn near over e env ⊎ ((xs : List Value) × NearIn near e env (values xs) × OverAll near over es env)

abbrev pub OverCall : List ExprTree → ℕ → List Value → Type 0
OverCall [] f xs = ⊥
OverCall (body ∷ earlier) f xs = MatchBool (f == length earlier) (OverIn (NearCall earlier) (OverCall earlier) body xs) (OverCall earlier f xs)

-- the main function of a program, whose functions stand in the order of the source
abbrev pub MayOverflow : List ExprTree → ℕ → List Value → Type 0
MayOverflow bodies main env = OverCall (reverse bodies) main env

-- ---- what a source picks
-- none is overflow
abbrev pub then_picked : Option Outcome → (List Value → Option Outcome) → Option Outcome
then_picked None go = None
then_picked (Some (values vs)) go = go vs
then_picked (Some (no_solution n)) go = Some (no_solution n)

abbrev pub ordinary : Value → Option Outcome
ordinary (number z) = if nat_le (unsigned_abs z) limit then Some (values (number z ∷ [])) else None
ordinary v = Some (values (v ∷ []))

abbrev pub picked_right : BinOp → Value → Option Outcome → Option Outcome
picked_right And v right = if truth_of v then right else Some (values (truth false ∷ []))
picked_right Or v right = if truth_of v then Some (values (truth true ∷ [])) else right
picked_right Implies v right = if truth_of v then right else Some (values (truth true ∷ []))
picked_right op v right = then_picked right (λ ys. ordinary (operation op v (first_of ys)))

abbrev pub picked_choose : ℕ → List Base → List Base → RelTree → List Value → Option Outcome
picked_choose n scope outputs rel env =
    let code = code_solve n (arms_of (arms scope outputs rel)) in
    if nat_le (peak code env) limit then Some (means code env) else None

abbrev mutual
  pub picked_in : (ℕ → List Value → Option Outcome) → ExprTree → List Value → Option Outcome
  picked_in calls (expr_lit k) env = Some (values (number k ∷ []))
  picked_in calls (expr_truth t) env = Some (values (truth t ∷ []))
  picked_in calls (expr_var x) env = Some (values (value_at env x ∷ []))
  picked_in calls (expr_set_of es) env = then_picked (picked_all calls es env) (λ xs. Some (values (elements (set_of (map number_of xs)) ∷ [])))
  picked_in calls (expr_tuple es) env = picked_all calls es env
  picked_in calls (expr_neg a) env = then_picked (picked_in calls a env) (λ xs. ordinary (number (neg_ℤ (number_of (first_of xs)))))
  picked_in calls (expr_not a) env = then_picked (picked_in calls a env) (λ xs. ordinary (truth (not (truth_of (first_of xs)))))
  picked_in calls (expr_abs a) env = then_picked (picked_in calls a env) (λ xs. ordinary (number (absolute (number_of (first_of xs)))))
  picked_in calls (expr_binary op a b) env = then_picked (picked_in calls a env) (λ xs. picked_right op (first_of xs) (picked_in calls b env))
  picked_in calls (expr_chain orders es) env = Some (values [])
  picked_in calls (expr_min es) env = Some (values [])
  picked_in calls (expr_max es) env = Some (values [])
  picked_in calls (expr_divides k a) env = then_picked (picked_in calls a env) (λ xs. ordinary (truth (is_multiple k (number_of (first_of xs)))))
  picked_in calls (expr_div a k) env = then_picked (picked_in calls a env) (λ xs. ordinary (number (quotient (number_of (first_of xs)) k)))
  picked_in calls (expr_mod a k) env = then_picked (picked_in calls a env) (λ xs. ordinary (number (remainder (number_of (first_of xs)) k)))
  picked_in calls (expr_card a) env = then_picked (picked_in calls a env) (λ xs. ordinary (number (pos (length (elements_of (first_of xs))))))
  picked_in calls (expr_if t a b) env = then_picked (picked_in calls t env)
      (λ xs. if truth_of (first_of xs) then picked_in calls a env else picked_in calls b env)
  picked_in calls (expr_call f es) env = then_picked (picked_all calls es env) (calls f)
  picked_in calls (expr_let n a b) env = then_picked (picked_in calls a env) (λ xs. picked_in calls b (env ++ xs))
  picked_in calls (expr_choose n scope outputs rel) env = picked_choose n (bases_of scope) outputs rel env
  picked_in calls (expr_choose_where n scope outputs hidden given rel aim) env = Some (values [])
  picked_in calls (expr_match n scope a arms) env = Some (values [])

  pub picked_all : (ℕ → List Value → Option Outcome) → ExprTrees → List Value → Option Outcome
  picked_all calls no_exprs env = Some (values [])
  picked_all calls (expr_more e es) env = then_picked (picked_in calls e env) (λ xs. then_picked (picked_all calls es env) (λ ys. Some (values (xs ++ ys))))

abbrev pub picked_call : List ExprTree → ℕ → List Value → Option Outcome
picked_call [] f xs = Some (values [])
picked_call (body ∷ earlier) f xs = if f == length earlier then picked_in (picked_call earlier) body xs else picked_call earlier f xs

abbrev pub picked : List ExprTree → ℕ → List Value → Option Outcome
picked bodies main env = picked_call (reverse bodies) main env

-- ---- chooses that are entered
-- no number met in the solve passes the reach, and its outcome is allowed and near
abbrev pub IsFineChoose : ℕ → List Base → List Base → RelTree → List Value → Type 0
IsFineChoose n scope outputs rel env =
    (peak (code_solve n (arms_of (arms scope outputs rel))) env ≤ reach scope outputs rel env) ×
    NearChosen n scope outputs rel env (means (code_solve n (arms_of (arms scope outputs rel))) env)

-- a choose is so where its arms solve it
abbrev pub ChoosesAreFine : Type 0
ChoosesAreFine =
    (n : ℕ) (scope outputs : List Base) (rel : RelTree) → IsTyped (scope ++ outputs) rel → IsLinear rel → first_refusal scope outputs rel ≡ None →
    Solves scope outputs rel (arms_of (arms scope outputs rel)) → ArmsHave (arms_of (arms scope outputs rel)) scope outputs → (env : List Value) →
    HaveBases scope env → IsFineChoose n scope outputs rel env

abbrev mutual
  -- each choose is so in the environments in which it may be entered, and each call is one that `fine` says
  pub IsFineIn : (ℕ → List Value → Option Outcome) → Over → ExprTree → List Value → Type 0
  IsFineIn calls fine (expr_lit k) env = Unit {0}
  IsFineIn calls fine (expr_truth t) env = Unit {0}
  IsFineIn calls fine (expr_var x) env = Unit {0}
  IsFineIn calls fine (expr_set_of es) env = AreFineIn calls fine es env
  IsFineIn calls fine (expr_tuple es) env = AreFineIn calls fine es env
  IsFineIn calls fine (expr_neg a) env = IsFineIn calls fine a env
  IsFineIn calls fine (expr_not a) env = IsFineIn calls fine a env
  IsFineIn calls fine (expr_abs a) env = IsFineIn calls fine a env
  IsFineIn calls fine (expr_binary op a b) env = IsFineIn calls fine a env × IsFineIn calls fine b env
  IsFineIn calls fine (expr_chain orders es) env = ⊥
  IsFineIn calls fine (expr_min es) env = ⊥
  IsFineIn calls fine (expr_max es) env = ⊥
  IsFineIn calls fine (expr_divides k a) env = IsFineIn calls fine a env
  IsFineIn calls fine (expr_div a k) env = IsFineIn calls fine a env
  IsFineIn calls fine (expr_mod a k) env = IsFineIn calls fine a env
  IsFineIn calls fine (expr_card a) env = IsFineIn calls fine a env
  IsFineIn calls fine (expr_if t a b) env = IsFineIn calls fine t env × IsFineIn calls fine a env × IsFineIn calls fine b env
  IsFineIn calls fine (expr_call f es) env = AreFineIn calls fine es env × ((xs : List Value) → picked_all calls es env ≡ Some (values xs) → fine f xs)
  IsFineIn calls fine (expr_let n a b) env =
      IsFineIn calls fine a env × ((xs : List Value) → picked_in calls a env ≡ Some (values xs) → IsFineIn calls fine b (env ++ xs))
  IsFineIn calls fine (expr_choose n scope outputs rel) env = IsFineChoose n (bases_of scope) outputs rel env
  IsFineIn calls fine (expr_choose_where n scope outputs hidden given rel aim) env = ⊥
  IsFineIn calls fine (expr_match n scope a arms) env = ⊥

  pub AreFineIn : (ℕ → List Value → Option Outcome) → Over → ExprTrees → List Value → Type 0
  AreFineIn calls fine no_exprs env = Unit {0}
  AreFineIn calls fine (expr_more e es) env = IsFineIn calls fine e env × AreFineIn calls fine es env

abbrev pub IsFineCall : List ExprTree → ℕ → List Value → Type 0
IsFineCall [] f xs = ⊥
IsFineCall (body ∷ earlier) f xs = MatchBool (f == length earlier) (IsFineIn (picked_call earlier) (IsFineCall earlier) body xs) (IsFineCall earlier f xs)

-- a pick that overflows may, and any other is on a near path
pub record IsFinePick (p : Option Outcome) (near : Outcome → Type 0) (over : Type 0) : Type 0 where
  pub overflows : p ≡ None → over
  pub picks : (o : Outcome) → p ≡ Some o → near o

abbrev pub PicksAreNear : Type 0
PicksAreNear =
    (bodies : List ExprTree) (main : ℕ) (env : List Value) → IsFineCall (reverse bodies) main env →
    IsFinePick (picked bodies main env) (NearCall (reverse bodies) main env) (MayOverflow bodies main env)
