-- Sets and the counts of their regions: each leads to the other.
use Rattle.std.specs.Prelude.{◌≡◌, ◌↔◌, ℕ, ◌+◌, ◌^◌, ◌<◌, ◌≤◌, ℤ, true, false, List, [], ◌∷◌, ◌++◌, length}
use Rattle.cf_tree.specs.declared.base.Base.{Base}
use Rattle.cf_tree.specs.declared.base.Base.TheVariants.{Int, Bool as Truth, Set}
use Rattle.cf_tree.specs.RelTree.{RelTree}
use Rattle.cf_tree.specs.Relation.{Holds, IsTyped, IsLinear, Sol}
use Rattle.cf_tree.specs.Sets.{has}
use Rattle.cf_tree.specs.Values.{Value, HaveBases}
use Rattle.cf_linear.specs.Cases.{first_systems}
use Rattle.cf_linear.specs.Keep.{Same}
use Rattle.cf_linear.specs.Layout.{layout_of, known_count, first_free}
use Rattle.cf_linear.specs.Systems.{Sat}
use Rattle.cf_linear.specs.Rows.{Values}
use Rattle.cf_linear.specs.Solved.{SameKnown}
use Rattle.cf_cases.specs.Holding.{EachOf, SomeOf, AreCounts}
use Rattle.cf_cases.specs.Laws.{MeetsFrom}
use Rattle.cf_venn.specs.Columns.{Agrees, known_values, column_values, outputs_from}
use Rattle.cf_venn.specs.Masks.{union_all, count}
use Rattle.cf_venn.specs.Pieces.{fresh, outputs, Consistent}

-- each output is a number or a set
abbrev pub AreOutputs : List Base → Type 0
AreOutputs [] = Unit {0}
AreOutputs (Int ∷ bs) = AreOutputs bs
AreOutputs (Truth ∷ bs) = ⊥
AreOutputs (Set ∷ bs) = AreOutputs bs

-- the columns' values from parameters and outputs agree with them, their counts are those of regions, and the known ones are as the
-- parameters alone say, whatever the columns after those of the layout hold
abbrev pub SetsHaveCounts : Type 0
SetsHaveCounts =
    (scope outputs : List Base) (rel : RelTree) (env xs : List Value) → HaveBases scope env → HaveBases outputs xs → (v : Values) →
    Same (first_free (layout_of scope outputs rel)) (column_values (layout_of scope outputs rel) (env ++ xs)) v →
    Agrees (layout_of scope outputs rel) (env ++ xs) v × AreCounts (layout_of scope outputs rel) v
    × Same (known_count (layout_of scope outputs rel)) (known_values (layout_of scope outputs rel) env) v

-- values whose known columns are as the parameters say, and whose counts are those of regions, agree with the parameters and the outputs
-- that are made from the values, and each set among these outputs rises
abbrev pub CountsHaveSets : Type 0
CountsHaveSets =
    (scope outputs : List Base) (rel : RelTree) (env : List Value) → AreOutputs outputs → HaveBases scope env → (v : Values) →
    Same (known_count (layout_of scope outputs rel)) (known_values (layout_of scope outputs rel) env) v → AreCounts (layout_of scope outputs rel) v →
    HaveBases outputs (outputs_from (layout_of scope outputs rel) env v)
    × Agrees (layout_of scope outputs rel) (env ++ outputs_from (layout_of scope outputs rel) env v) v

-- for all values of parameters and outputs, a relation holds exactly where the first system of some case is satisfied at the columns' values of
-- these, for some quotients
abbrev pub HeldByCounts : Type 0
HeldByCounts =
    (scope outputs : List Base) (rel : RelTree) → IsTyped (scope ++ outputs) rel → IsLinear rel → (env xs : List Value) → HaveBases scope env →
    HaveBases outputs xs →
    Holds rel (env ++ xs) ↔ SomeOf (MeetsFrom (layout_of scope outputs rel) (column_values (layout_of scope outputs rel) (env ++ xs)))
    (first_systems (layout_of scope outputs rel) rel)

-- where outputs solve a relation, the first system of some case is satisfied at values whose known columns are as the parameters say, and
-- at all such values that satisfy one, the outputs that are made from them solve the relation
abbrev pub SolvedByCounts : Type 0
SolvedByCounts =
    (scope outputs : List Base) (rel : RelTree) → IsTyped (scope ++ outputs) rel → IsLinear rel → AreOutputs outputs → (env : List Value) →
    HaveBases scope env →
    (((xs : List Value) × Sol outputs rel env xs) →
    SomeOf (λ m. (w : Values) × SameKnown m (known_values (layout_of scope outputs rel) env) w × Sat m w) (first_systems (layout_of scope outputs rel) rel))
    × EachOf (λ m. (w : Values) → SameKnown m (known_values (layout_of scope outputs rel) env) w → Sat m w →
    Sol outputs rel env (outputs_from (layout_of scope outputs rel) env w))
    (first_systems (layout_of scope outputs rel) rel)

-- for counts that are consistent with the input sets, the output sets that are made of them have with the input sets exactly these counts
abbrev pub OutputsHaveCounts : Type 0
OutputsHaveCounts =
    (ins : List (List ℤ)) (q : ℕ) (r : ℕ → ℕ) → Consistent ins q r → (m : ℕ) → 1 ≤ m → m < 2 ^ (length ins + q) → count (ins ++ outputs ins q r) m ≡ r m

-- fresh numbers stand in no input set
abbrev pub FreshIsOutside : Type 0
FreshIsOutside = (ins : List (List ℤ)) (q : ℕ) (r : ℕ → ℕ) (y : ℤ) → has (fresh ins q r) y ≡ true → has (union_all ins) y ≡ false
