-- Which outcomes a source expression allows.
use Rattle.std.specs.Prelude.{ℕ, ℤ, pos, ◌+ℤ◌, ◌-ℤ◌, ◌*ℤ◌, neg_ℤ, ◌<ℤ◌, ◌≡◌, ◌⊎◌, Bool, true, false, ◌&&◌, ◌==◌, not, List, [], ◌∷◌, ◌++◌, length, map, reverse, MatchBool}
use Rattle.std.specs.Int.{int_max, int_min}
use Rattle.cf_tree.specs.declared.base.Base.{Base}
use Rattle.cf_tree.specs.declared.base.Order.{Order}
use Rattle.cf_tree.specs.declared.base.Sense.{Sense}
use Rattle.cf_tree.specs.declared.base.Sense.TheVariants.{Least, Greatest}
use Rattle.cf_tree.specs.declared.raw.BinOp.{BinOp}
use Rattle.cf_tree.specs.declared.raw.BinOp.TheVariants.{Add, Sub, Mul, And, Or, Union, Inter, Diff, Subset, Implies, Compare}
use Rattle.cf_tree.specs.ExprTree.{ExprTree, expr_lit, expr_truth, expr_var, expr_set_of, expr_tuple, expr_neg, expr_not, expr_abs, expr_binary, expr_chain, expr_min, expr_max, expr_divides, expr_div, expr_mod, expr_card, expr_if, expr_call, expr_let, expr_choose, expr_choose_where, expr_match, ExprTrees, no_exprs, expr_more, match_arm, MatchArmTrees, no_match_arms, match_arm_more, GivenExpr, holds_always, holds_where, AimExpr, at_any, at_least, at_greatest}
use Rattle.cf_tree.specs.Params.{bases_of}
use Rattle.cf_tree.specs.Numbers.{quotient, remainder, is_multiple, absolute}
use Rattle.cf_tree.specs.Relation.{Sol}
use Rattle.cf_tree.specs.RelTree.{RelTree}
use Rattle.cf_tree.specs.Sets.{set_of, set_union, set_inter, set_diff, is_subset}
use Rattle.cf_tree.specs.Values.{Value, number, truth, elements, Outcome, values, no_solution, number_of, truth_of, elements_of, value_at, first_of, compared, HaveBases}

-- goes on from one allowed list of values, or ends with an allowed want of a solution
pub data AllowedThen (first : Outcome → Type 0) (go : List Value → Outcome → Type 0) (o : Outcome) : Type 0 where
  goes_on : (vs : List Value) → first (values vs) → go vs o → AllowedThen first go o
  ends_at : (n : ℕ) → first (no_solution n) → o ≡ no_solution n → AllowedThen first go o

abbrev pub Gives : Value → Outcome → Type 0
Gives v o = o ≡ values (v ∷ [])

-- an outcome of choose number n: a solution, or none exactly where there is none
abbrev pub Chosen : ℕ → (List Value → Type 0) → Outcome → Type 0
Chosen n solves (values xs) = solves xs
Chosen n solves (no_solution m) = (m ≡ n) × ((xs : List Value) → solves xs → ⊥)

-- the value of a pattern where its variables are these numbers
abbrev pub pattern_value : List ℤ → ℤ → List ℤ → ℤ
pattern_value [] k is = k
pattern_value (f ∷ factors) k [] = k
pattern_value (f ∷ factors) k (i ∷ is) = f *ℤ i +ℤ pattern_value factors k is

-- one number for each variable of a pattern, with which it is v
abbrev pub Fits : List ℤ → ℤ → ℤ → List ℤ → Type 0
Fits factors k v is = (length is ≡ length factors) × (v ≡ pattern_value factors k is)

-- the value of an operation with two sides, other than &&, || and ==>
abbrev pub operation : BinOp → Value → Value → Value
operation Add v w = number (number_of v +ℤ number_of w)
operation Sub v w = number (number_of v -ℤ number_of w)
operation Mul v w = number (number_of v *ℤ number_of w)
operation And v w = w
operation Or v w = w
operation Union v w = elements (set_union (elements_of v) (elements_of w))
operation Inter v w = elements (set_inter (elements_of v) (elements_of w))
operation Diff v w = elements (set_diff (elements_of v) (elements_of w))
operation Implies v w = w
operation Subset v w = truth (is_subset (elements_of v) (elements_of w))
operation (Compare order) v w = truth (compared order v w)

-- whether each two values that stand side by side compare in their order
abbrev pub chained : List Order → List Value → Bool
chained [] vs = true
chained (order ∷ orders) [] = true
chained (order ∷ orders) (v ∷ []) = true
chained (order ∷ orders) (v ∷ w ∷ vs) = compared order v w && chained orders (w ∷ vs)

-- the best of some numbers, where `better` is the better of two
abbrev pub best_of : (ℤ → ℤ → ℤ) → List ℤ → ℤ
best_of better [] = pos 0
best_of better (z ∷ []) = z
best_of better (z ∷ w ∷ zs) = better z (best_of better (w ∷ zs))

-- goes on where the left side does not decide: `right` says what the right side allows
abbrev pub AllowedRight : BinOp → Value → (Outcome → Type 0) → Outcome → Type 0
AllowedRight And v right o = MatchBool (truth_of v) (right o) (Gives (truth false) o)
AllowedRight Or v right o = MatchBool (truth_of v) (Gives (truth true) o) (right o)
AllowedRight Implies v right o = MatchBool (truth_of v) (right o) (Gives (truth true) o)
AllowedRight op v right o = AllowedThen right (λ ys. Gives (operation op v (first_of ys))) o

-- zs comes before ws in lexicographic order
abbrev pub IsBefore : List ℤ → List ℤ → Type 0
IsBefore [] ws = ⊥
IsBefore (z ∷ zs) [] = ⊥
IsBefore (z ∷ zs) (w ∷ ws) = (z <ℤ w) ⊎ ((z ≡ w) × IsBefore zs ws)

-- zs are better numbers than ws: before them, or where the greatest are asked, negated
abbrev pub IsBetter : Sense → List ℤ → List ℤ → Type 0
IsBetter Least zs ws = IsBefore zs ws
IsBetter Greatest zs ws = IsBefore (map neg_ℤ zs) (map neg_ℤ ws)

-- xs and ks are outputs and hidden outputs of these bases with which a relation holds, where what is given does
abbrev pub SolWhere : List Base → List Base → Type 0 → (List Value → Type 0) → List Value → List Value → Type 0
SolWhere outputs hidden given holds xs ks = HaveBases outputs xs × HaveBases hidden ks × given × holds (xs ++ ks)

-- which outputs are solutions, with which hidden ones
abbrev pub Solutions : Type 1
Solutions = List Value → List Value → Type 0

-- xs and ks have numbers, by `objective`, and no solution has better ones
abbrev pub IsBest : Sense → (List Value → List ℤ → Type 0) → Solutions → List Value → List Value → Type 0
IsBest sense objective solves xs ks =
    (zs : List ℤ) × objective (xs ++ ks) zs
    × ((ys ls : List Value) → (ws : List ℤ) → solves ys ls → objective (ys ++ ls) ws → IsBetter sense ws zs → ⊥)

-- with some hidden outputs xs are a solution, and one that is aimed at
abbrev pub SolvesAtAim : Solutions → (Solutions → List Value → List Value → Type 0) → List Value → Type 0
SolvesAtAim solves aims xs = (ks : List Value) × solves xs ks × aims solves xs ks

-- an expression is true: what it allows is the value `true`
abbrev pub IsTrueBy : (Outcome → Type 0) → Type 0
IsTrueBy allowed = allowed (values (truth true ∷ []))

-- which outcomes a choose allows: by its number, the bases of its scope and of its outputs, its relation, and the environment
abbrev pub Choosing : Type 1
Choosing = ℕ → List Base → List Base → RelTree → List Value → Outcome → Type 0

-- which outcomes a call of a function allows
abbrev pub Calling : Type 1
Calling = ℕ → List Value → Outcome → Type 0

abbrev mutual
  -- what an expression allows in an environment
  pub AllowedBy : Choosing → Calling → ExprTree → List Value → Outcome → Type 0
  AllowedBy chooses calls (expr_lit k) env o = Gives (number k) o
  AllowedBy chooses calls (expr_truth t) env o = Gives (truth t) o
  AllowedBy chooses calls (expr_var x) env o = Gives (value_at env x) o
  AllowedBy chooses calls (expr_set_of es) env o = AllowedThen (AllAllowedBy chooses calls es env) (λ xs. Gives (elements (set_of (map number_of xs)))) o
  AllowedBy chooses calls (expr_tuple es) env o = AllAllowedBy chooses calls es env o
  AllowedBy chooses calls (expr_neg a) env o = AllowedThen (AllowedBy chooses calls a env) (λ xs. Gives (number (neg_ℤ (number_of (first_of xs))))) o
  AllowedBy chooses calls (expr_not a) env o = AllowedThen (AllowedBy chooses calls a env) (λ xs. Gives (truth (not (truth_of (first_of xs))))) o
  AllowedBy chooses calls (expr_abs a) env o = AllowedThen (AllowedBy chooses calls a env) (λ xs. Gives (number (absolute (number_of (first_of xs))))) o
  AllowedBy chooses calls (expr_binary op a b) env o =
      AllowedThen (AllowedBy chooses calls a env) (λ xs. AllowedRight op (first_of xs) (AllowedBy chooses calls b env)) o
  AllowedBy chooses calls (expr_chain orders es) env o = AllowedThen (AllAllowedBy chooses calls es env) (λ xs. Gives (truth (chained orders xs))) o
  AllowedBy chooses calls (expr_min es) env o =
      AllowedThen (AllAllowedBy chooses calls es env) (λ xs. Gives (number (best_of int_min (map number_of xs)))) o
  AllowedBy chooses calls (expr_max es) env o =
      AllowedThen (AllAllowedBy chooses calls es env) (λ xs. Gives (number (best_of int_max (map number_of xs)))) o
  AllowedBy chooses calls (expr_divides k a) env o =
      AllowedThen (AllowedBy chooses calls a env) (λ xs. Gives (truth (is_multiple k (number_of (first_of xs))))) o
  AllowedBy chooses calls (expr_div a k) env o = AllowedThen (AllowedBy chooses calls a env) (λ xs. Gives (number (quotient (number_of (first_of xs)) k))) o
  AllowedBy chooses calls (expr_mod a k) env o = AllowedThen (AllowedBy chooses calls a env) (λ xs. Gives (number (remainder (number_of (first_of xs)) k))) o
  AllowedBy chooses calls (expr_card a) env o = AllowedThen (AllowedBy chooses calls a env) (λ xs. Gives (number (pos (length (elements_of (first_of xs)))))) o
  AllowedBy chooses calls (expr_if t a b) env o =
      AllowedThen (AllowedBy chooses calls t env)
      (λ xs p. MatchBool (truth_of (first_of xs)) (AllowedBy chooses calls a env p) (AllowedBy chooses calls b env p)) o
  AllowedBy chooses calls (expr_call f es) env o = AllowedThen (AllAllowedBy chooses calls es env) (calls f) o
  AllowedBy chooses calls (expr_let n a b) env o = AllowedThen (AllowedBy chooses calls a env) (λ xs. AllowedBy chooses calls b (env ++ xs)) o
  AllowedBy chooses calls (expr_choose n scope outputs rel) env o = chooses n (bases_of scope) outputs rel env o
  AllowedBy chooses calls (expr_choose_where n scope outputs hidden given rel aim) env o =
      Chosen n
      (SolvesAtAim
      (SolWhere outputs hidden (GivenBy chooses calls given env) (λ vs. IsTrueBy (AllowedBy chooses calls rel (env ++ vs))))
      (IsAimedBy chooses calls aim env)) o
  AllowedBy chooses calls (expr_match n scope a arms) env o =
      AllowedThen (AllowedBy chooses calls a env) (λ xs. ArmAllowedBy chooses calls n arms (number_of (first_of xs)) (env ++ xs)) o

  -- the values of all, from left to right
  pub AllAllowedBy : Choosing → Calling → ExprTrees → List Value → Outcome → Type 0
  AllAllowedBy chooses calls no_exprs env o = o ≡ values []
  AllAllowedBy chooses calls (expr_more e es) env o =
      AllowedThen (AllowedBy chooses calls e env) (λ xs. AllowedThen (AllAllowedBy chooses calls es env) (λ ys p. p ≡ values (xs ++ ys))) o

  -- the first arm whose pattern can be v, with any numbers that make it v
  pub ArmAllowedBy : Choosing → Calling → ℕ → MatchArmTrees → ℤ → List Value → Outcome → Type 0
  ArmAllowedBy chooses calls n no_match_arms v env o = o ≡ no_solution n
  ArmAllowedBy chooses calls n (match_arm_more (match_arm m factors k body) arms) v env o =
      ((is : List ℤ) × Fits factors k v is × AllowedBy chooses calls body (env ++ map number is) o)
      ⊎ (((is : List ℤ) → Fits factors k v is → ⊥) × ArmAllowedBy chooses calls n arms v env o)

  -- what is given is true
  pub GivenBy : Choosing → Calling → GivenExpr → List Value → Type 0
  GivenBy chooses calls holds_always env = Unit {0}
  GivenBy chooses calls (holds_where p) env = IsTrueBy (AllowedBy chooses calls p env)

  -- of the solutions these are one that is aimed at
  pub IsAimedBy : Choosing → Calling → AimExpr → List Value → Solutions → List Value → List Value → Type 0
  IsAimedBy chooses calls at_any env solves xs ks = Unit {0}
  IsAimedBy chooses calls (at_least e) env solves xs ks =
      IsBest Least (λ vs zs. AllowedBy chooses calls e (env ++ vs) (values (map number zs))) solves xs ks
  IsAimedBy chooses calls (at_greatest e) env solves xs ks =
      IsBest Greatest (λ vs zs. AllowedBy chooses calls e (env ++ vs) (values (map number zs))) solves xs ks

-- what a call of function number f allows, where the functions stand last first: each calls only those after it in the list
abbrev pub CallAllowedBy : Choosing → List ExprTree → Calling
CallAllowedBy chooses [] f xs o = ⊥
CallAllowedBy chooses (body ∷ earlier) f xs o =
    MatchBool (f == length earlier) (AllowedBy chooses (CallAllowedBy chooses earlier) body xs o) (CallAllowedBy chooses earlier f xs o)

-- xs and ks solve a choose whose relation is an expression
abbrev pub SolvesBy : Choosing → Calling → List Base → List Base → GivenExpr → ExprTree → List Value → Solutions
SolvesBy chooses calls outputs hidden given rel env xs ks =
    SolWhere outputs hidden (GivenBy chooses calls given env) (λ vs. IsTrueBy (AllowedBy chooses calls rel (env ++ vs))) xs ks

-- a choose allows each solution, and no solution exactly where there is none
abbrev pub AllChosen : Choosing
AllChosen n scope outputs rel env o = Chosen n (Sol outputs rel env) o

abbrev pub AllowedIn : Calling → ExprTree → List Value → Outcome → Type 0
AllowedIn = AllowedBy AllChosen

abbrev pub AllowedAll : Calling → ExprTrees → List Value → Outcome → Type 0
AllowedAll = AllAllowedBy AllChosen

abbrev pub AllowedArm : Calling → ℕ → MatchArmTrees → ℤ → List Value → Outcome → Type 0
AllowedArm = ArmAllowedBy AllChosen

abbrev pub AllowedCall : List ExprTree → Calling
AllowedCall = CallAllowedBy AllChosen

-- what an expression allows whose calls are of these functions, which stand in the order of the source
abbrev pub Allowed : List ExprTree → ExprTree → List Value → Outcome → Type 0
Allowed bodies = AllowedIn (AllowedCall (reverse bodies))

-- what a program allows whose main function has that number
abbrev pub ProgramAllows : List ExprTree → ℕ → List Value → Outcome → Type 0
ProgramAllows bodies main = AllowedCall (reverse bodies) main
