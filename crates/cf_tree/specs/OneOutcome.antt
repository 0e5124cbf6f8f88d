-- Expressions that allow one outcome alone, and values: those in which nothing is chosen. A relation is one of them, and what is given, and an objective.
use Rattle.std.specs.Prelude.{ℕ, ◌≡◌, ◌==◌, List, [], ◌∷◌, length, reverse, MatchBool}
use Rattle.cf_tree.specs.Allowed.{Allowed}
use Rattle.cf_tree.specs.ExprTree.{ExprTree, expr_lit, expr_truth, expr_var, expr_set_of, expr_tuple, expr_neg, expr_not, expr_abs, expr_binary, expr_chain, expr_min, expr_max, expr_divides, expr_div, expr_mod, expr_card, expr_if, expr_call, expr_let, expr_choose, expr_choose_where, expr_match, ExprTrees, no_exprs, expr_more}
use Rattle.cf_tree.specs.Values.{Value, Outcome, values}

-- these values are allowed, and nothing else
abbrev pub AllowsOnly : (Outcome → Type 0) → List Value → Type 0
AllowsOnly allowed vs = allowed (values vs) × ((o : Outcome) → allowed o → o ≡ values vs)

abbrev pub AllowsOne : (Outcome → Type 0) → Type 0
AllowsOne allowed = (vs : List Value) × AllowsOnly allowed vs

abbrev mutual
  -- neither a choose nor a match stands in an expression, and it calls only functions of which that is true as well
  pub ChoosesNothingBy : (ℕ → Type 0) → ExprTree → Type 0
  ChoosesNothingBy calls (expr_lit k) = Unit {0}
  ChoosesNothingBy calls (expr_truth t) = Unit {0}
  ChoosesNothingBy calls (expr_var x) = Unit {0}
  ChoosesNothingBy calls (expr_set_of es) = ChooseNothingBy calls es
  ChoosesNothingBy calls (expr_tuple es) = ChooseNothingBy calls es
  ChoosesNothingBy calls (expr_neg a) = ChoosesNothingBy calls a
  ChoosesNothingBy calls (expr_not a) = ChoosesNothingBy calls a
  ChoosesNothingBy calls (expr_abs a) = ChoosesNothingBy calls a
  ChoosesNothingBy calls (expr_binary op a b) = ChoosesNothingBy calls a × ChoosesNothingBy calls b
  ChoosesNothingBy calls (expr_chain orders es) = ChooseNothingBy calls es
  ChoosesNothingBy calls (expr_min es) = ChooseNothingBy calls es
  ChoosesNothingBy calls (expr_max es) = ChooseNothingBy calls es
  ChoosesNothingBy calls (expr_divides k a) = ChoosesNothingBy calls a
  ChoosesNothingBy calls (expr_div a k) = ChoosesNothingBy calls a
  ChoosesNothingBy calls (expr_mod a k) = ChoosesNothingBy calls a
  ChoosesNothingBy calls (expr_card a) = ChoosesNothingBy calls a
  ChoosesNothingBy calls (expr_if t a b) = ChoosesNothingBy calls t × ChoosesNothingBy calls a × ChoosesNothingBy calls b
  ChoosesNothingBy calls (expr_call f es) = calls f × ChooseNothingBy calls es
  ChoosesNothingBy calls (expr_let n a b) = ChoosesNothingBy calls a × ChoosesNothingBy calls b
  ChoosesNothingBy calls (expr_choose n scope outputs rel) = ⊥
  ChoosesNothingBy calls (expr_choose_where n scope outputs hidden given rel aim) = ⊥
  ChoosesNothingBy calls (expr_match n scope a arms) = ⊥

  pub ChooseNothingBy : (ℕ → Type 0) → ExprTrees → Type 0
  ChooseNothingBy calls no_exprs = Unit {0}
  ChooseNothingBy calls (expr_more e es) = ChoosesNothingBy calls e × ChooseNothingBy calls es

-- function number f chooses nothing, where the functions stand last first: each calls only those after it in the list
abbrev pub CallChoosesNothing : List ExprTree → ℕ → Type 0
CallChoosesNothing [] f = ⊥
CallChoosesNothing (body ∷ earlier) f =
    MatchBool (f == length earlier) (ChoosesNothingBy (CallChoosesNothing earlier) body) (CallChoosesNothing earlier f)

-- an expression whose calls are of these functions, which stand in the order of the source
abbrev pub ChoosesNothing : List ExprTree → ExprTree → Type 0
ChoosesNothing bodies = ChoosesNothingBy (CallChoosesNothing (reverse bodies))

-- the law: where nothing is chosen, one outcome is allowed, which is values
abbrev pub ChoosesNothingAllowsOne : Type 0
ChoosesNothingAllowsOne = (bodies : List ExprTree) → (e : ExprTree) → ChoosesNothing bodies e → (env : List Value) → AllowsOne (Allowed bodies e env)
