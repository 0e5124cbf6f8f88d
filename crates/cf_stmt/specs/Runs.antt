-- How a block is run: its first exit ends it, and a number past 2^127 - 1 is overflow at once.
use Rattle.std.specs.Prelude.{◌≡◌, ℕ, zero, suc, List, ◌∷◌, ◌++◌, Option, Some, None, nat_le, if◌then◌else◌}
use Rattle.cf_num.specs.Limit.{limit}
use Rattle.cf_tree.specs.CodeTree.{CodeTree}
use Rattle.cf_tree.specs.Meaning.{Got, got, none_at, Path, count_below, tuple_at, meets_all, truth_in, outcome_of, path, means, peak}
use Rattle.cf_tree.specs.Values.{Value, Outcome, values, no_solution, first_of}
use Rattle.cf_stmt.specs.Blocks.{Block, give, none, leave, bind, part, join, test, arm, exec}
use Rattle.cf_stmt.specs.Statements.{IsStatements}

pub data Run : Type 0 where
  gives : List Value → Run
  -- no solution at this number
  stops : ℕ → Run
  -- a number was past the limit
  overflows : Run
  -- the arm is left
  leaves : Run

abbrev pub outcome_run : Outcome → Run
outcome_run (values vs) = gives vs
outcome_run (no_solution n) = stops n

-- what a path gives, where none of its numbers is past the limit
abbrev pub checked : Path (List Value) → Run
checked p = if nat_le p.peak limit then outcome_run (outcome_of p.gives) else overflows

-- goes on with the values
abbrev pub then_run : Run → (List Value → Run) → Run
then_run (gives vs) go = go vs
then_run (stops n) go = stops n
then_run overflows go = overflows
then_run leaves go = leaves

-- or what comes later, where the arm is left
abbrev pub or_run : Run → Run → Run
or_run (gives vs) later = gives vs
or_run (stops n) later = stops n
or_run overflows later = overflows
or_run leaves later = later

-- the first of the numbers from k on, n of them, at which the arm is not left
abbrev pub first_run : ℕ → ℕ → (ℕ → Run) → Run
first_run zero k f = leaves
first_run (suc n) k f = or_run (f k) (first_run n (suc k) f)

abbrev pub runs : Block → List Value → Run
runs (give c) env = checked (path c env)
runs (none n) env = stops n
runs leave env = leaves
runs (bind a b) env = then_run (runs a env) (λ vs. runs b (env ++ vs))
runs (part a b) env = then_run (runs a env) (λ vs. runs b (first_of vs ∷ env))
runs (join a b) env = then_run (runs a env) (λ vs. then_run (runs b env) (λ ws. gives (vs ++ ws)))
runs (test t a b) env = then_run (runs t env) (λ vs. if truth_in vs then runs a env else runs b env)
runs (arm ks a b) env =
    or_run (first_run (count_below ks) 0 (λ i. then_run (checked (meets_all (tuple_at ks i))) (λ vs. runs a (env ++ vs)))) (runs b env)

-- ---- what a run comes to
abbrev pub found_run : Got (Option (List Value)) → Run
found_run (got None) = leaves
found_run (got (Some vs)) = gives vs
found_run (none_at n) = stops n

-- a run is overflow where the greatest number met is past the limit, and else what the block gives
abbrev pub LeavesAtOnce : Type 0
LeavesAtOnce = (b : Block) (env : List Value) →
    runs b env ≡ (if nat_le (exec b env).peak limit then found_run (exec b env).gives else overflows)

-- the statements of a code run as the code answers: overflow where the greatest number met is past the limit, and else what it means
abbrev pub StatementsAnswer : Type 0
StatementsAnswer = (c : CodeTree) (b : Block) → IsStatements c b → (env : List Value) →
    runs b env ≡ (if nat_le (peak c env) limit then outcome_run (means c env) else overflows)
