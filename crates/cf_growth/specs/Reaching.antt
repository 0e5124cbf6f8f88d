-- How far the numbers of a whole choose go.
use Rattle.std.specs.Prelude.{◌≡◌, ℕ, ◌+◌, ◌*◌, ◌≤◌, max, unsigned_abs, List, [], ◌∷◌, ◌++◌, length, None, ℤ, true, ◌⊎◌}
use Rattle.cf_tree.specs.declared.base.Base.{Base}
use Rattle.cf_tree.specs.CodeTree.{code_solve, arms_of}
use Rattle.cf_tree.specs.Meaning.{peak, means}
use Rattle.cf_tree.specs.Relation.{IsTyped, IsLinear}
use Rattle.cf_tree.specs.RelTree.{RelTree}
use Rattle.cf_tree.specs.Values.{Value, values, number, truth, elements, elements_of, value_at, HaveBases}
use Rattle.cf_tree.specs.Sets.{has}
use Rattle.cf_linear.specs.Chooses.{arms, limit, growth}
use Rattle.cf_linear.specs.Keep.{In}
use Rattle.cf_linear.specs.Layout.{Layout, layout_of}

-- the absolute value of a number, and how many elements a set has
abbrev pub size_of : Value → ℕ
size_of (number z) = unsigned_abs z
size_of (truth b) = 0
size_of (elements zs) = length zs

-- the greatest size at these levels
abbrev pub size_at : List ℕ → List Value → ℕ
size_at [] env = 0
size_at (x ∷ xs) env = max (size_of (value_at env x)) (size_at xs env)

-- the greatest absolute number and set size among the parameters of a choose
abbrev pub parameters_size : Layout → List Value → ℕ
parameters_size l env = size_at (l.numbers ++ l.inputs) env

-- the growth times 1 + m, m being that
abbrev pub reach : List Base → List Base → RelTree → List Value → ℕ
reach scope outputs rel env = growth scope outputs rel * (1 + parameters_size (layout_of scope outputs rel) env)

-- ---- what is picked
-- an element of an input set, or one of at most n
abbrev pub IsNearElement : ℕ → Layout → List Value → ℤ → Type 0
IsNearElement n l env y = (unsigned_abs y ≤ n) ⊎ ((x : ℕ) × In x l.inputs × (has (elements_of (value_at env x)) y ≡ true))

-- a number of at most n, or a set of at most n elements, each of which stands in an input set or is at most n
abbrev pub IsNear : ℕ → Layout → List Value → Value → Type 0
IsNear n l env (number z) = unsigned_abs z ≤ n
IsNear n l env (truth b) = Unit {0}
IsNear n l env (elements zs) = (length zs ≤ n) × ((y : ℤ) → has zs y ≡ true → IsNearElement n l env y)

abbrev pub AreNear : ℕ → Layout → List Value → List Value → Type 0
AreNear n l env [] = Unit {0}
AreNear n l env (v ∷ vs) = IsNear n l env v × AreNear n l env vs

-- no number met in the arms of a choose that no limit refuses passes its reach, and what they pick is near
pub record StaysNear (id : ℕ) (scope outputs : List Base) (rel : RelTree) (env : List Value) : Type 0 where
  pub met : peak (code_solve id (arms_of (arms scope outputs rel))) env ≤ reach scope outputs rel env
  pub picked : (xs : List Value) → means (code_solve id (arms_of (arms scope outputs rel))) env ≡ values xs →
      AreNear (reach scope outputs rel env) (layout_of scope outputs rel) env xs

abbrev pub ArmsWithinReach : Type 0
ArmsWithinReach =
    (id : ℕ) (scope outputs : List Base) (rel : RelTree) → IsTyped (scope ++ outputs) rel → IsLinear rel → limit scope outputs rel ≡ None → (env : List Value) →
    HaveBases scope env → StaysNear id scope outputs rel env
