-- Functions whose weight stands still at the greatest number. These words serve only the proofs of private functions.
use Rattle.std.specs.Prelude.{ℕ, ◌≡◌, ◌+◌, ◌-◌, ◌<◌, ◌^◌, None, List, ◌∷◌, ◌++◌, length, map, take, drop}
use Rattle.cf_tree.specs.DefView.{def_tree}
use Rattle.cf_tree.specs.declared.expr.Def.{Def}
use Rattle.cf_tree.specs.declared.expr.Expr.{Expr}
use Rattle.cf_tree.specs.ExprTree.{GivenExpr}
use Rattle.cf_tree.specs.ExprView.{expr_tree}
use Rattle.cf_form.specs.declared.floor.Floor.{Floor}
use Rattle.cf_form.specs.Expansion.{Calls}
use Rattle.cf_form.specs.Floor.{HasGiven, IsHeavy}
use Rattle.cf_form.specs.FormAnswers.{AreNarrow}
use Rattle.cf_form.specs.Formed.{wide_choose}
use Rattle.cf_form.specs.SourceChooses.{chooses_in}
use Rattle.cf_form.specs.Telling.{wide_behind}
use Rattle.cf_form.specs.Told.{first_passed}
use Rattle.cf_form.specs.Unfolding.{calls_of}

-- the condition of a choose has a floor, if it has a condition
pub record HasCondition (calls : Calls) (env : List Floor) (given : GivenExpr) : Type 0 where
  pub floor : HasGiven calls env given

-- the body of function number i is so heavy
pub record IsHeavyAt (ds : List Def) (i : ℕ) : Type 0 where
  pub def : Def
  pub below : i < length ds
  pub all : take i ds ++ def ∷ drop (i + 1) ds ≡ ds
  pub heavy : IsHeavy (calls_of (map def_tree (take i ds))) (2 ^ 64 - 1) (expr_tree def.body)

-- no choose in an expression behind these functions has an atom of too many alternatives
pub record IsNarrow (before : List Def) (e : Expr) : Type 0 where
  pub none : first_passed (map (wide_choose (calls_of (map def_tree before))) (chooses_in (expr_tree e))) ≡ None

-- where the functions from place i on are narrow, all are
pub record AreNarrowSo (ds : List Def) (i : ℕ) : Type 0 where
  pub rest : first_passed (wide_behind (map def_tree (take i ds)) (map def_tree (drop i ds))) ≡ None → AreNarrow (map def_tree ds)
