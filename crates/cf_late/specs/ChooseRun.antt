-- What a choose comes to on the numbers of its environment.
use Rattle.std.specs.Prelude.{ℕ, nat_le, List, length, Option, Some, None, if◌then◌else◌}
use Rattle.cf_num.specs.Limit.{limit}
use Rattle.cf_tree.specs.declared.base.Base.{Base}
use Rattle.cf_tree.specs.CodeTree.{CodeTree, code_solve, arms_of}
use Rattle.cf_tree.specs.Meaning.{means, peak}
use Rattle.cf_tree.specs.RelTree.{RelTree}
use Rattle.cf_tree.specs.Values.{Value, Outcome, values}
use Rattle.cf_linear.specs.declared.refusal.Refusal.{Refusal}
use Rattle.cf_linear.specs.Chooses.{arms, limit as first_refusal}
use Rattle.cf_late.specs.At.{rel_known}

-- an outcome, or a number past the limit, or the number of a choose that is refused with the first limit that it passes
pub data LateOutcome : Type 0 where
  comes_to : Outcome → LateOutcome
  overflow : LateOutcome
  refused : ℕ → Refusal → LateOutcome

abbrev pub gives : List Value → LateOutcome
gives vs = comes_to (values vs)

-- the run of a `solve`, which overflows where a number met is past the limit
abbrev pub solve_run : CodeTree → List Value → LateOutcome
solve_run code env = if nat_le (peak code env) limit then comes_to (means code env) else overflow

-- choose number n over a relation without number variables in scope: it is refused with its first limit, or runs as the `solve` with the arms of its cases
abbrev pub choose_run : Option Refusal → ℕ → CodeTree → List Value → LateOutcome
choose_run (Some r) n code env = refused n r
choose_run None n code env = solve_run code env

abbrev pub late_choose : ℕ → List Base → List Base → RelTree → List Value → LateOutcome
late_choose n scope outputs rel env =
    let known = rel_known (length scope) rel env in choose_run (first_refusal scope outputs known) n (code_solve n (arms_of (arms scope outputs known))) env
