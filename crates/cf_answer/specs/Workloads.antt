-- What holds of each workload: its source is accepted, and which sum it writes.
use Rattle.std.specs.Prelude.{ℕ, ◌*◌, ◌≤◌, ◌≡◌, List, []}
use Rattle.cf_gen.specs.Workload.{gen_source, gen_sum}
use Rattle.cf_pass.specs.Passes.{Told}
use Rattle.cf_program.specs.Checked.{TypedTree}
use Rattle.cf_words.specs.Commands.{gen}
use Rattle.cf_answer.specs.Owed.{sum_line, Owes}
use Rattle.cf_answer.specs.Refusals.{IsAccepted}
use Rattle.cf_answer.specs.Sources.{IsTypedSource}

-- its source spells a program in which no rule is broken, and no choose of it passes a limit: nothing but want of memory refuses it
pub record IsAcceptedWorkload (n : ℕ) : Type 0 where
  pub typed : TypedTree
  pub spelled : IsTypedSource (gen_source n) typed
  pub accepted : IsAccepted (gen n) []

-- so for each number that the words may name
abbrev pub GenIsAccepted : Type 0
GenIsAccepted = (n : ℕ) → 1 ≤ n → n ≤ 100 → IsAcceptedWorkload n

-- what `gen N` owes is the line with the sum of the quotients of each input by each coefficient, and of what these leave
abbrev pub SumsAreOfQuotients : Type 0
SumsAreOfQuotients =
    (n : ℕ) (given passes : List Told) (ls : List (List ℕ)) (text : List ℕ) → 1 ≤ n → n ≤ 100 → Owes (gen n) [] given passes ls text →
    text ≡ sum_line (n * n) (gen_sum n)
