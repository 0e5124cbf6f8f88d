-- What holds of relations whose scope is known.
use Rattle.std.specs.Prelude.{ℕ, ◌≡◌, ◌↔◌, List, length}
use Rattle.cf_tree.specs.declared.base.Base.{Base}
use Rattle.cf_tree.specs.Allowed.{Chosen}
use Rattle.cf_tree.specs.Relation.{Sol, IsTyped, IsLinear}
use Rattle.cf_tree.specs.RelTree.{RelTree}
use Rattle.cf_tree.specs.Values.{Value, Outcome, HaveBases}
use Rattle.cf_late.specs.At.{rel_known}
use Rattle.cf_late.specs.Fitting.{AreFit}
use Rattle.cf_late.specs.LateChoose.{IsLateChoose}
use Rattle.cf_program.specs.LateLinear.{IsLateLinear}
use Rattle.cf_late.specs.ChooseRun.{comes_to, late_choose}

-- it has the same solutions there
abbrev pub KnowingKeepsSolutions : Type 0
KnowingKeepsSolutions =
    (outputs : List Base) (rel : RelTree) (env xs : List Value) → Sol outputs (rel_known (length env) rel env) env xs ↔ Sol outputs rel env xs

-- it is typed
abbrev pub KnowingKeepsTypes : Type 0
KnowingKeepsTypes = (n : ℕ) (bases : List Base) (rel : RelTree) (env : List Value) → AreFit env → IsTyped bases rel → IsTyped bases (rel_known n rel env)

-- and linear
abbrev pub KnowingIsLinear : Type 0
KnowingIsLinear = (n : ℕ) (rel : RelTree) (env : List Value) → IsLateLinear n rel → IsLinear (rel_known n rel env)

-- an outcome that a choose comes to is one that its relation allows
abbrev pub LateChoosesAreAllowed : Type 0
LateChoosesAreAllowed =
    (n : ℕ) (scope outputs : List Base) (rel : RelTree) (env : List Value) → IsLateChoose scope outputs rel → HaveBases scope env → AreFit env →
    (o : Outcome) → late_choose n scope outputs rel env ≡ comes_to o → Chosen n (Sol outputs rel env) o
