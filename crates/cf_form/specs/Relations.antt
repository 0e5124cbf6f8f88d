-- Which expressions may stand in a relation: those that hold no choose, no match and no set literal with elements, and call only functions that do not.
use Rattle.std.specs.Prelude.{ℕ, ◌==◌, List, [], ◌∷◌, length, MatchBool}
use Rattle.cf_tree.specs.ExprTree.{ExprTree, expr_lit, expr_truth, expr_var, expr_set_of, expr_tuple, expr_neg, expr_not, expr_abs, expr_binary, expr_divides, expr_div, expr_mod, expr_card, expr_if, expr_call, expr_let, expr_choose, expr_match, expr_chain, expr_min, expr_max, expr_choose_where, ExprTrees, no_exprs, expr_more, GivenExpr, holds_always, holds_where}

abbrev pub IsEmpty : ExprTrees → Type 0
IsEmpty no_exprs = Unit {0}
IsEmpty (expr_more e es) = ⊥

abbrev mutual
  pub MayStand : (ℕ → Type 0) → ExprTree → Type 0
  MayStand calls (expr_lit k) = Unit {0}
  MayStand calls (expr_truth t) = Unit {0}
  MayStand calls (expr_var x) = Unit {0}
  MayStand calls (expr_set_of es) = IsEmpty es
  MayStand calls (expr_tuple es) = AllMayStand calls es
  MayStand calls (expr_neg a) = MayStand calls a
  MayStand calls (expr_not a) = MayStand calls a
  MayStand calls (expr_abs a) = MayStand calls a
  MayStand calls (expr_binary op a b) = MayStand calls a × MayStand calls b
  MayStand calls (expr_divides k a) = MayStand calls a
  MayStand calls (expr_div a k) = MayStand calls a
  MayStand calls (expr_mod a k) = MayStand calls a
  MayStand calls (expr_card a) = MayStand calls a
  MayStand calls (expr_if t a b) = MayStand calls t × MayStand calls a × MayStand calls b
  MayStand calls (expr_call f es) = AllMayStand calls es × calls f
  MayStand calls (expr_let n a b) = MayStand calls a × MayStand calls b
  MayStand calls (expr_choose n scope outputs rel) = ⊥
  MayStand calls (expr_match n scope a arms) = ⊥
  MayStand calls (expr_chain orders es) = AllMayStand calls es
  MayStand calls (expr_min es) = AllMayStand calls es
  MayStand calls (expr_max es) = AllMayStand calls es
  MayStand calls (expr_choose_where n scope outputs hidden given rel aim) = ⊥

  pub AllMayStand : (ℕ → Type 0) → ExprTrees → Type 0
  AllMayStand calls no_exprs = Unit {0}
  AllMayStand calls (expr_more e es) = MayStand calls e × AllMayStand calls es

-- a call of function number f may, where the functions stand last first
abbrev pub CallMayStand : List ExprTree → ℕ → Type 0
CallMayStand [] f = ⊥
CallMayStand (body ∷ earlier) f = MatchBool (f == length earlier) (MayStand (CallMayStand earlier) body) (CallMayStand earlier f)

abbrev pub GivenMayStand : (ℕ → Type 0) → GivenExpr → Type 0
GivenMayStand calls holds_always = Unit {0}
GivenMayStand calls (holds_where p) = MayStand calls p
