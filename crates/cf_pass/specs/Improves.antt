-- When one code may take the place of another.
use Rattle.std.specs.Prelude.{ℕ, ◌≡◌, ◌≤◌, ◌<◌, List, Option, Some, length}
use Rattle.cf_tree.specs.declared.base.Base.{Base}
use Rattle.cf_tree.specs.CodeTree.{CodeTree, code_size, code_depth}
use Rattle.cf_tree.specs.Meaning.{Path, path}
use Rattle.cf_tree.specs.Spelled.{IsSpelled, IsNoTuple}
use Rattle.cf_tree.specs.Typing.{HasBases, HasNoSolve}
use Rattle.cf_tree.specs.Values.{Value, HaveBases}
use Rattle.cf_pass.specs.Lacks.{Lacks}

-- the second way gives the same, and no greater number is met on it
pub record IsNoWorse {A : Type 0} (before after : Path A) : Type 0 where
  pub gives : after.gives ≡ before.gives
  pub peak : after.peak ≤ before.peak

-- behind that many variables: the second code has each typing of the first, at any place, and is no worse in each environment of it;
-- it is no larger and no deeper, no variable of those outside is new in it, and it is spelled, without a `solve`, or alone, where the first is
pub record Improves (outside : ℕ) (before after : CodeTree) : Type 0 where
  pub typed : (scope : List Base) (asked : Option (List Base)) (bs : List Base) → length scope ≡ outside → HasBases before scope asked bs →
      HasBases after scope asked bs
  pub runs : (scope : List Base) (asked : Option (List Base)) (bs : List Base) (env : List Value) → length scope ≡ outside →
      HasBases before scope asked bs → HaveBases scope env → IsNoWorse (path before env) (path after env)
  pub size : code_size after ≤ code_size before
  pub deep : code_depth after ≤ code_depth before
  pub lacks : (x : ℕ) → x < outside → Lacks x before → Lacks x after
  pub spelled : IsSpelled before → IsSpelled after
  pub no_solve : HasNoSolve before → HasNoSolve after
  pub no_tuple : IsNoTuple before → IsNoTuple after

-- the code is well typed behind that many variables
abbrev pub IsTypedBehind : ℕ → CodeTree → Type 0
IsTypedBehind outside code = (scope : List Base) × (bs : List Base) × (length scope ≡ outside) × HasBases code scope (Some bs) bs
