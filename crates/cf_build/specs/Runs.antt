-- How the code of a program runs, told from its source.
use Rattle.std.specs.Prelude.{ℕ, ◌<◌, ◌≤◌, ◌≡◌, List, map, Some, None}
use Rattle.cf_num.specs.Limit.{limit}
use Rattle.cf_tree.specs.CodeTree.{CodeTree}
use Rattle.cf_tree.specs.DefView.{DefTree}
use Rattle.cf_tree.specs.ExprTree.{ExprTree}
use Rattle.cf_tree.specs.Meaning.{means, peak}
use Rattle.cf_tree.specs.Values.{Value, Outcome}
use Rattle.cf_program.specs.Lowered.{lowered}
use Rattle.cf_growth.specs.Overflowing.{picked, MayOverflow}

-- the bodies of functions, with matches as the chooses that they stand for
abbrev pub lowered_bodies : List DefTree → List ExprTree
lowered_bodies defs = map (λ d. lowered d.body) defs

-- where the source picks an outcome, the code means it within the limit; where what it picks overflows, the code passes the limit, if no pass has rewritten
-- it; and that is only where a near path of the source may overflow
pub record RunsAsPicked (defs : List DefTree) (main passes : ℕ) (code : CodeTree) (env : List Value) : Type 0 where
  pub outcome : (o : Outcome) → picked (lowered_bodies defs) main env ≡ Some o → (peak code env ≤ limit) × (means code env ≡ o)
  pub overflow : passes ≡ 0 → picked (lowered_bodies defs) main env ≡ None → limit < peak code env
  pub near : limit < peak code env → MayOverflow (lowered_bodies defs) main env
