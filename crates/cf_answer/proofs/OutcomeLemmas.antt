-- What a line comes to.
use Rattle.std.proofs.Common.{◌≡◌, ◌∙◌, sym, ap, subst, refl, ℕ, ◌≤◌, ◌<◌, true, false, nat_le, List, arith}
use Rattle.std.specs.Prelude.{Result, Ok, Err}
use Rattle.std.proofs.lemmas.Bool.Decides.{nat_tests}
use Rattle.cf_num.specs.Limit.{limit}
use Rattle.cf_tree.specs.CodeTree.{CodeTree}
use Rattle.cf_tree.specs.Meaning.{means, peak}
use Rattle.cf_tree.specs.Values.{Value, Outcome, values, no_solution}
use Rattle.cf_tree.specs.declared.base.Base.{Base}
use Rattle.cf_eval.specs.Answers.{Answers}
use Rattle.cf_eval.specs.LineAnswers.{LineAnswer}
use Rattle.cf_eval.specs.Seen.{plains}
use Rattle.cf_eval.specs.Spelling.{SpellsValues}
use Rattle.cf_eval.specs.declared.fault.LineFault.{LineFault}
use Rattle.cf_eval.specs.declared.fault.LineFault.TheVariants.{BadInput, NoMemory}
use Rattle.cf_eval.specs.declared.value.Outcome.{Outcome as RunOutcome}
use Rattle.cf_eval.specs.declared.value.Outcome.TheVariants.{Values, NoSolution, Overflow}
use Rattle.cf_json.specs.Outcomes.{run_outcome}
use Rattle.cf_late.specs.ChooseRun.{comes_to, overflow, solve_run}
use Rattle.cf_late.specs.Outcomes.{late_of}
use Rattle.cf_late.specs.declared.outcome.LateOutcome.{LateOutcome}
use Rattle.cf_answer.specs.Owed.{Answerer, bases_by, comes_by}
use Rattle.cf_answer.specs.Steps.{OutcomeAnswer}

-- ---- what a target comes to
pub within_run : (code : CodeTree) (vs : List Value) (o : Outcome) → peak code vs ≤ limit → means code vs ≡ o → solve_run code vs ≡ comes_to o
within_run code vs o h same = let test : nat_le (peak code vs) limit ≡ true = grind (arith, nat_tests) in rw test (ap comes_to same)

pub past_run : (code : CodeTree) (vs : List Value) → limit < peak code vs → solve_run code vs ≡ overflow
past_run code vs h = let test : nat_le (peak code vs) limit ≡ false = grind (arith, nat_tests) in rw test refl

run_is : (code : CodeTree) (vs : List Value) (o : RunOutcome) → Answers code vs o → run_outcome o ≡ solve_run code vs
run_is code vs (Values given) a = sym (within_run code vs (values (plains given.items)) a.1 a.0)
run_is code vs (NoSolution n) a = sym (within_run code vs (no_solution n) a.1 a.0)
run_is code vs Overflow a = sym (past_run code vs a)

pub run_told : (code : CodeTree) (vs : List Value) (o : RunOutcome) (l : LateOutcome) → Answers code vs o → late_of l ≡ run_outcome o →
    late_of l ≡ solve_run code vs
run_told code vs o l a same = same ∙ run_is code vs o a

-- ---- what a line spells
pub spelled_outcome : (a : Answerer) (bases : List Base) (line : List ℕ) (vs : List Value) (l : LateOutcome) → bases ≡ bases_by a →
    SpellsValues limit bases line vs → late_of l ≡ comes_by a vs → OutcomeAnswer a line (Ok l)
spelled_outcome a bases line vs l is spelled same = (vs, subst (λ bs. SpellsValues limit bs line vs) is spelled, same)

pub unspelled_outcome : (a : Answerer) (bases : List Base) (line : List ℕ) (f : LineFault) → bases ≡ bases_by a → LineAnswer limit bases line (Err f) →
    OutcomeAnswer a line (Err f)
unspelled_outcome a bases line BadInput is none = λ vs r. none vs (subst (λ bs. SpellsValues limit bs line vs) (sym is) r)
unspelled_outcome a bases line NoMemory is none = tt
