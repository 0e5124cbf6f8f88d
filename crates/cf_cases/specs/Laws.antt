-- A relation and the first systems of its cases.
use Rattle.std.specs.Prelude.{◌≡◌, ◌↔◌, ◌||◌, ℕ, IsTrue, pos, List, [], ◌++◌}
use Rattle.cf_tree.specs.declared.base.Base.{Base}
use Rattle.cf_tree.specs.RelTree.{RelTree}
use Rattle.cf_tree.specs.Relation.{Holds, IsTyped, IsLinear}
use Rattle.cf_tree.specs.Values.{Value, number_of, value_at}
use Rattle.cf_linear.specs.Cases.{first_systems}
use Rattle.cf_linear.specs.Keep.{Same}
use Rattle.cf_linear.specs.Layout.{Layout, layout_of, has_level, number_column, first_free}
use Rattle.cf_linear.specs.Systems.{System, Sat}
use Rattle.cf_linear.specs.Rows.{Values}
use Rattle.cf_cases.specs.Holding.{SomeOf}

-- the number columns have the values of the environment's numbers, and the constant is 1
pub record HasNumbers (l : Layout) (env : List Value) (v : Values) : Type 0 where
  pub one : v 0 ≡ pos 1
  pub numbers : (x : ℕ) → IsTrue (has_level l.numbers x || has_level l.out_numbers x) → number_of (value_at env x) ≡ v (number_column l x)

-- the system is satisfied at the values of the layout's columns, for some values of the quotients behind them
abbrev pub MeetsFrom : Layout → Values → System → Type 0
MeetsFrom l v m = (w : Values) × Same (first_free l) v w × Sat m w

-- a relation without sets holds exactly where the first system of some case is satisfied at the values of parameters and outputs
abbrev pub HeldByCases : Type 0
HeldByCases =
    (scope outputs : List Base) (rel : RelTree) → IsTyped (scope ++ outputs) rel → IsLinear rel → (l : Layout) → layout_of scope outputs rel ≡ l →
    l.inputs ≡ [] → l.out_sets ≡ [] →
    (env : List Value) (v : Values) → HasNumbers l env v → Holds rel env ↔ SomeOf (MeetsFrom l v) (first_systems l rel)
