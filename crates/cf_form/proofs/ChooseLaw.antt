-- The law of a choose of a source: its solutions are those of its relation of language 2, in the branch of the environment, where truth outputs are numbers.
use Rattle.std.specs.Prelude.{ℕ, pos, ◌≡◌, true, false, List, [], ◌∷◌, ◌++◌, map}
use Rattle.cf_tree.specs.declared.base.Base.TheVariants.{Bool as Truth}
use Rattle.cf_tree.specs.Allowed.{Choosing, CallAllowedBy, SolvesBy}
use Rattle.cf_tree.specs.DefView.{DefTree}
use Rattle.cf_tree.specs.Params.{bases_of}
use Rattle.cf_tree.specs.Relation.{Sol}
use Rattle.cf_tree.specs.Typing.{one}
use Rattle.cf_tree.specs.Values.{Value, number, truth, elements, truth_of, value_at, HaveBases}
use Rattle.cf_program.specs.TypedProgram.{LinearBehind, Takes, AreTypedDefsBy, ExprHasBasesBy, GivenIsTypedBy}
use Rattle.cf_form.specs.Branches.{WideChoose, Branch, branched, relation_at, all_outputs}
use Rattle.cf_form.specs.Expansion.{call_expanded}
use Rattle.cf_form.specs.Formed.{as_number, wide_choose}
use Rattle.cf_form.specs.Laws.{bodies}
use Rattle.cf_form.specs.Relations.{MayStand, CallMayStand, GivenMayStand}
use Rattle.cf_form.specs.SourceChooses.{SourceChoose}

-- a value as an output of language 2: a truth value as 1 or 0
abbrev pub as_output : Value → Value
as_output (number z) = number z
as_output (truth true) = number (pos 1)
as_output (truth false) = number (pos 0)
as_output (elements zs) = elements zs

-- the branch of an environment: its values for the truth variables of these levels
abbrev pub branch_of : List Value → List ℕ → Branch
branch_of env [] = []
branch_of env (x ∷ xs) = (x, truth_of (value_at env x)) ∷ branch_of env xs

-- a choose behind these functions, which stand last first: its parts are typed, and may stand in a relation
pub record IsChooseBehind (linear : LinearBehind) (earlier : List DefTree) (q : SourceChoose) : Type 0 where
  pub functions : AreTypedDefsBy linear earlier
  pub given : GivenIsTypedBy linear (Takes earlier) q.given (bases_of q.scope)
  pub given_stands : GivenMayStand (CallMayStand (bodies earlier)) q.given
  pub relation : ExprHasBasesBy linear (Takes earlier) q.relation (bases_of q.scope ++ q.outputs ++ q.hidden) (one Truth)
  pub relation_stands : MayStand (CallMayStand (bodies earlier)) q.relation

-- the choose of a source behind these functions, with wide forms
abbrev pub widely : List DefTree → SourceChoose → WideChoose
widely earlier q = wide_choose (call_expanded (bodies earlier)) q

-- xs and ks solve the choose of a source
abbrev pub SolvesSource : Choosing → List DefTree → SourceChoose → List Value → List Value → List Value → Type 0
SolvesSource chooses earlier q env xs ks =
    SolvesBy chooses (CallAllowedBy chooses (bodies earlier)) q.outputs q.hidden q.given q.relation env xs ks

-- ys solve the choose of language 2 in a branch
abbrev pub SolvesBranch : WideChoose → Branch → List Value → List Value → Type 0
SolvesBranch q branch env ys = Sol (map as_number (all_outputs q)) (relation_at q branch) env ys

-- each solution of the source is one of the branch of its environment, and each of that comes from one of the source
pub record HasSameSolutions (chooses : Choosing) (earlier : List DefTree) (q : SourceChoose) (env : List Value) : Type 0 where
  pub forth :
      (xs ks : List Value) → SolvesSource chooses earlier q env xs ks
      → SolvesBranch (widely earlier q) (branch_of env (branched (widely earlier q))) env (map as_output (xs ++ ks))
  pub back :
      (ys : List Value) → SolvesBranch (widely earlier q) (branch_of env (branched (widely earlier q))) env ys
      → (xs : List Value) × (ks : List Value) × (ys ≡ map as_output (xs ++ ks)) × SolvesSource chooses earlier q env xs ks

abbrev pub ChooseLaw : Type 1
ChooseLaw =
    (linear : LinearBehind) (chooses : Choosing) (earlier : List DefTree) (q : SourceChoose) → IsChooseBehind linear earlier q
    → (env : List Value) → HaveBases (bases_of q.scope) env → HasSameSolutions chooses earlier q env
