-- When arms solve a relation: their needs hold somewhere exactly where outputs exist, and what they give are such outputs.
use Rattle.std.specs.Prelude.{ℕ, pos, ◌<◌, ◌≡◌, ◌⊎◌, ◌↔◌, Some, List, [], ◌∷◌, ◌++◌, map}
use Rattle.cf_tree.specs.declared.base.Base.{Base}
use Rattle.cf_tree.specs.CodeTree.{ArmTree, arm_of, ArmTrees, no_arms, arm_more}
use Rattle.cf_tree.specs.Meaning.{got, items_path, all_path, count_below, tuple_at}
use Rattle.cf_tree.specs.Relation.{Sol}
use Rattle.cf_tree.specs.RelTree.{RelTree}
use Rattle.cf_tree.specs.Values.{Value, number, HaveBases}

-- a tuple of search values below the bounds
abbrev pub IsBelow : List ℕ → List ℕ → Type 0
IsBelow [] [] = Unit {0}
IsBelow [] (k ∷ ks) = ⊥
IsBelow (b ∷ bs) [] = ⊥
IsBelow (b ∷ bs) (k ∷ ks) = (k < b) × IsBelow bs ks

abbrev pub with_tuple : List Value → List ℕ → List Value
with_tuple env ks = env ++ map (λ k. number (pos k)) ks

-- the needs of an arm hold at a tuple, and its lets lead to the environment e
abbrev pub NeedsHold : ArmTree → List Value → List ℕ → List Value → Type 0
NeedsHold (arm_of bounds is gs) env ks e = IsBelow bounds ks × ((items_path is (with_tuple env ks)).gives ≡ got (Some e))

-- what an arm gives in the environment that its lets lead to
abbrev pub ArmGives : ArmTree → List Value → List Value → Type 0
ArmGives (arm_of bounds is gs) e xs = (all_path gs e []).gives ≡ got xs

-- the needs of some arm hold at some tuple
abbrev pub HoldSomewhere : ArmTrees → List Value → Type 0
HoldSomewhere no_arms env = ⊥
HoldSomewhere (arm_more a arms) env = ((ks : List ℕ) × (e : List Value) × NeedsHold a env ks e) ⊎ HoldSomewhere arms env

-- each arm gives outputs that solve, at each tuple at which its needs hold
abbrev pub EachGives : ArmTrees → (List Value → Type 0) → List Value → Type 0
EachGives no_arms solves env = Unit {0}
EachGives (arm_more a arms) solves env =
    ((ks : List ℕ) (e : List Value) → NeedsHold a env ks e → (xs : List Value) × ArmGives a e xs × solves xs) × EachGives arms solves env

pub record Solves (scope outputs : List Base) (rel : RelTree) (arms : ArmTrees) : Type 0 where
  pub holds : (env : List Value) → HaveBases scope env → HoldSomewhere arms env ↔ ((xs : List Value) × Sol outputs rel env xs)
  pub gives : (env : List Value) → HaveBases scope env → EachGives arms (Sol outputs rel env) env

-- one tuple stands before another in lexicographic order
abbrev pub IsBefore : List ℕ → List ℕ → Type 0
IsBefore [] ks = ⊥
IsBefore (j ∷ js) [] = ⊥
IsBefore (j ∷ js) (k ∷ ks) = (j < k) ⊎ ((j ≡ k) × IsBefore js ks)

-- the tuples below bounds are numbered in lexicographic order, each once
pub record AreNumbered (bounds : List ℕ) : Type 0 where
  pub below : (i : ℕ) → i < count_below bounds → IsBelow bounds (tuple_at bounds i)
  pub reached : (ks : List ℕ) → IsBelow bounds ks → (i : ℕ) × (i < count_below bounds) × (tuple_at bounds i ≡ ks)
  pub order : (i j : ℕ) → i < j → j < count_below bounds → IsBefore (tuple_at bounds i) (tuple_at bounds j)
