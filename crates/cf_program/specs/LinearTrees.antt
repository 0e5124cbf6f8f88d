-- What of linear relations is kept in a typed program of edition 3: the relations, what is given and the objectives, as expressions with levels.
use Rattle.std.specs.Prelude.{◌≡◌, ℕ, Bool, false, ◌==◌, List, [], ◌∷◌, ◌++◌, length, map, get_or, Option, Some, None, if◌then◌else◌}
use Rattle.cf_tree.specs.declared.base.Base.{Base}
use Rattle.cf_tree.specs.declared.raw.BinOp.{BinOp}
use Rattle.cf_tree.specs.declared.raw.BinOp.TheVariants.{Add, Sub, Mul, And, Or, Union, Inter, Diff, Subset, Implies, Compare}
use Rattle.cf_tree.specs.declared.raw.Param.{Param}
use Rattle.cf_tree.specs.DefView.{DefTree}
use Rattle.cf_tree.specs.ExprTree.{ExprTree, expr_lit, expr_truth, expr_var, expr_set_of, expr_tuple, expr_neg, expr_not, expr_abs, expr_binary, expr_chain, expr_min, expr_max, expr_divides, expr_div, expr_mod, expr_card, expr_if, expr_call, expr_let, expr_choose, expr_choose_where, expr_match, ExprTrees, no_exprs, expr_more, match_arm, MatchArmTrees, no_match_arms, match_arm_more, GivenExpr, holds_always, holds_where, AimExpr, at_any, at_least, at_greatest}
use Rattle.cf_program.specs.Linear.{Held, is_constant, is_known, is_unknown, most, most_of, both_hold}

infixl 10 ◌then◌
abbrev pub ◌then◌ : {A B : Type 0} → Option A → (A → Option B) → Option B
(Some x) then f = f x
None then f = None

abbrev pub one_holds : Held → Option (List Held)
one_holds h = Some (h ∷ [])

-- a product, whether or not one with inputs may stand here
abbrev pub product_holds : Bool → Held → Held → Option (List Held)
product_holds inputs is_constant b = one_holds b
product_holds inputs is_known is_constant = one_holds is_known
product_holds inputs is_known is_known = if inputs then one_holds is_known else None
product_holds inputs is_known is_unknown = if inputs then one_holds is_unknown else None
product_holds inputs is_unknown is_constant = one_holds is_unknown
product_holds inputs is_unknown is_known = if inputs then one_holds is_unknown else None
product_holds inputs is_unknown is_unknown = None

abbrev pub operation_holds : Bool → BinOp → Held → Held → Option (List Held)
operation_holds inputs Mul a b = product_holds inputs a b
operation_holds inputs Add a b = one_holds (most a b)
operation_holds inputs Sub a b = one_holds (most a b)
operation_holds inputs And a b = one_holds (most a b)
operation_holds inputs Or a b = one_holds (most a b)
operation_holds inputs Union a b = one_holds (most a b)
operation_holds inputs Inter a b = one_holds (most a b)
operation_holds inputs Diff a b = one_holds (most a b)
operation_holds inputs Subset a b = one_holds (most a b)
operation_holds inputs Implies a b = one_holds (most a b)
operation_holds inputs (Compare order) a b = one_holds (most a b)

abbrev mutual
  -- what each part of the value of a linear expression holds, where these are held by level; none where it is not linear
  pub holds : Bool → (ℕ → List Held → Option (List Held)) → List Held → ExprTree → Option (List Held)
  holds inputs calls vs (expr_lit k) = one_holds is_constant
  holds inputs calls vs (expr_truth t) = one_holds is_constant
  holds inputs calls vs (expr_var x) = one_holds (get_or vs x is_unknown)
  holds inputs calls vs (expr_set_of no_exprs) = one_holds is_constant
  holds inputs calls vs (expr_set_of (expr_more e es)) = None
  holds inputs calls vs (expr_tuple es) = parts_hold inputs calls vs es
  holds inputs calls vs (expr_neg a) = holds inputs calls vs a
  holds inputs calls vs (expr_not a) = holds inputs calls vs a
  holds inputs calls vs (expr_abs a) = holds inputs calls vs a
  holds inputs calls vs (expr_binary op a b) =
      holds inputs calls vs a then λ hs. holds inputs calls vs b then λ gs. operation_holds inputs op (most_of hs) (most_of gs)
  holds inputs calls vs (expr_chain orders es) = parts_hold inputs calls vs es then λ hs. one_holds (most_of hs)
  holds inputs calls vs (expr_min es) = parts_hold inputs calls vs es then λ hs. one_holds (most_of hs)
  holds inputs calls vs (expr_max es) = parts_hold inputs calls vs es then λ hs. one_holds (most_of hs)
  holds inputs calls vs (expr_divides k a) = holds inputs calls vs a
  holds inputs calls vs (expr_div a k) = holds inputs calls vs a then λ hs. one_holds is_unknown
  holds inputs calls vs (expr_mod a k) = holds inputs calls vs a then λ hs. one_holds is_unknown
  holds inputs calls vs (expr_card a) = holds inputs calls vs a then λ hs. one_holds is_unknown
  holds inputs calls vs (expr_if t a b) =
      holds inputs calls vs t then λ hs. holds inputs calls vs a then λ gs. holds inputs calls vs b then λ is. Some (both_hold gs is)
  holds inputs calls vs (expr_call f es) = parts_hold inputs calls vs es then calls f
  holds inputs calls vs (expr_let n a b) = holds inputs calls vs a then λ hs. holds inputs calls (vs ++ hs) b
  holds inputs calls vs (expr_choose n scope outputs rel) = None
  holds inputs calls vs (expr_choose_where n scope outputs hidden given rel aim) = None
  holds inputs calls vs (expr_match n scope a arms) = None

  -- of each what its one value holds
  pub parts_hold : Bool → (ℕ → List Held → Option (List Held)) → List Held → ExprTrees → Option (List Held)
  parts_hold inputs calls vs no_exprs = Some []
  parts_hold inputs calls vs (expr_more e es) = holds inputs calls vs e then λ hs. parts_hold inputs calls vs es then λ gs. Some (most_of hs ∷ gs)

-- a call of function number f by what its arguments hold, where the functions stand last first
abbrev pub call_holds : Bool → List DefTree → ℕ → List Held → Option (List Held)
call_holds inputs [] f hs = None
call_holds inputs (d ∷ earlier) f hs =
    if f == length earlier then holds inputs (call_holds inputs earlier) hs d.body else call_holds inputs earlier f hs

-- an expression is linear behind these functions, which stand last first, where these are held by level
abbrev pub IsLinearHolding : Bool → List DefTree → List Held → ExprTree → Type 0
IsLinearHolding inputs earlier vs e = (hs : List Held) × (holds inputs (call_holds inputs earlier) vs e ≡ Some hs)

abbrev pub IsLinearGiven : List DefTree → List Held → GivenExpr → Type 0
IsLinearGiven earlier vs holds_always = Unit {0}
IsLinearGiven earlier vs (holds_where a) = IsLinearHolding false earlier vs a

abbrev pub IsLinearAim : Bool → List DefTree → List Held → AimExpr → Type 0
IsLinearAim inputs earlier vs at_any = Unit {0}
IsLinearAim inputs earlier vs (at_least a) = IsLinearHolding inputs earlier vs a
IsLinearAim inputs earlier vs (at_greatest a) = IsLinearHolding inputs earlier vs a

-- the scope of a choose is known, and its outputs are not
abbrev pub known_scope : List Param → List Held
known_scope scope = map (λ p. is_known) scope

abbrev pub unknown_outputs : List Base → List Held
unknown_outputs bs = map (λ b. is_unknown) bs

-- a choose over this scope, where products with inputs may or may not stand in its relation
pub record IsLinearChoose (inputs : Bool) (earlier : List DefTree) (scope : List Param) (outputs : List Base) (given : GivenExpr) (rel : ExprTree)
    (aim : AimExpr) : Type 0 where
  pub given_is : IsLinearGiven earlier (known_scope scope) given
  pub relation : IsLinearHolding inputs earlier (known_scope scope ++ unknown_outputs outputs) rel
  pub objective : IsLinearAim inputs earlier (known_scope scope ++ unknown_outputs outputs) aim

abbrev mutual
  -- each choose in an expression is linear
  pub AreLinear : Bool → List DefTree → ExprTree → Type 0
  AreLinear inputs earlier (expr_lit k) = Unit {0}
  AreLinear inputs earlier (expr_truth t) = Unit {0}
  AreLinear inputs earlier (expr_var x) = Unit {0}
  AreLinear inputs earlier (expr_set_of es) = AllAreLinear inputs earlier es
  AreLinear inputs earlier (expr_tuple es) = AllAreLinear inputs earlier es
  AreLinear inputs earlier (expr_neg a) = AreLinear inputs earlier a
  AreLinear inputs earlier (expr_not a) = AreLinear inputs earlier a
  AreLinear inputs earlier (expr_abs a) = AreLinear inputs earlier a
  AreLinear inputs earlier (expr_binary op a b) = AreLinear inputs earlier a × AreLinear inputs earlier b
  AreLinear inputs earlier (expr_chain orders es) = AllAreLinear inputs earlier es
  AreLinear inputs earlier (expr_min es) = AllAreLinear inputs earlier es
  AreLinear inputs earlier (expr_max es) = AllAreLinear inputs earlier es
  AreLinear inputs earlier (expr_divides k a) = AreLinear inputs earlier a
  AreLinear inputs earlier (expr_div a k) = AreLinear inputs earlier a
  AreLinear inputs earlier (expr_mod a k) = AreLinear inputs earlier a
  AreLinear inputs earlier (expr_card a) = AreLinear inputs earlier a
  AreLinear inputs earlier (expr_if t a b) = AreLinear inputs earlier t × AreLinear inputs earlier a × AreLinear inputs earlier b
  AreLinear inputs earlier (expr_call f es) = AllAreLinear inputs earlier es
  AreLinear inputs earlier (expr_let n a b) = AreLinear inputs earlier a × AreLinear inputs earlier b
  AreLinear inputs earlier (expr_choose n scope outputs rel) = Unit {0}
  AreLinear inputs earlier (expr_choose_where n scope outputs hidden given rel aim) = IsLinearChoose inputs earlier scope (outputs ++ hidden) given rel aim
  AreLinear inputs earlier (expr_match n scope a arms) = AreLinear inputs earlier a × ArmsAreLinear inputs earlier arms

  pub AllAreLinear : Bool → List DefTree → ExprTrees → Type 0
  AllAreLinear inputs earlier no_exprs = Unit {0}
  AllAreLinear inputs earlier (expr_more e es) = AreLinear inputs earlier e × AllAreLinear inputs earlier es

  pub ArmsAreLinear : Bool → List DefTree → MatchArmTrees → Type 0
  ArmsAreLinear inputs earlier no_match_arms = Unit {0}
  ArmsAreLinear inputs earlier (match_arm_more (match_arm m factors k body) arms) = AreLinear inputs earlier body × ArmsAreLinear inputs earlier arms

-- functions that stand last first
abbrev pub DefsAreLinear : Bool → List DefTree → Type 0
DefsAreLinear inputs [] = Unit {0}
DefsAreLinear inputs (d ∷ earlier) = AreLinear inputs earlier d.body × DefsAreLinear inputs earlier
