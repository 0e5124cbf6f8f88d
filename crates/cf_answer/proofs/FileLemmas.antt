-- What each command owes on the text of its file.
use Rattle.std.proofs.Common.{◌≡◌, refl, ℕ, ◌*◌, ℤ, Bool, true, not, List, [], ◌∷◌, Err}
use Rattle.cf_gen.specs.Workload.{gen_source, gen_lines}
use Rattle.cf_io.specs.Lines.{lines}
use Rattle.cf_lex.specs.Editions.{edition_of}
use Rattle.cf_pass.specs.Passes.{Told}
use Rattle.cf_tree.specs.declared.target.RawTarget.{RawTarget}
use Rattle.cf_tree.specs.Spelled.{HasSpelling}
use Rattle.cf_target.specs.Spelling.{target_tree}
use Rattle.cf_emit.specs.Printed.{target_text}
use Rattle.cf_emit.specs.ReadsBack.{ReadsBack}
use Rattle.cf_words.specs.Commands.{compile, run, gen}
use Rattle.cf_answer.specs.Ends.{AnswersOn}
use Rattle.cf_answer.specs.Outside.{Streams}
use Rattle.cf_answer.specs.Forms.{Form, form_of}
use Rattle.cf_answer.specs.Owed.{IsCompiledBy, AreReplies, OwesRun, compiled, late, OwesNamed, sum_line, Owes}
use Rattle.cf_answer.specs.Passes.{ArePassed, applied}
use Rattle.cf_answer.specs.Steps.{AddUp, IsNamedRunner, replier_of}
use Rattle.cf_answer.specs.declared.answerer.Replier.{Replier}
use Rattle.cf_answer.specs.declared.answerer.Runner.{Runner}
use Rattle.cf_answer.specs.declared.fault.Fault.TheVariants as fault
use Rattle.cf_words.specs.declared.command.Flags.{Flags}
use Rattle.cf_words.specs.declared.command.ReplyForm.{ReplyForm}
use Rattle.cf_answer.proofs.AnswerLemmas.{memory_answers}
use Rattle.cf_answer.proofs.PassLemmas.{called_passed, kept_passed}
use Rattle.cf_answer.proofs.PickedLemmas.{sum_picked}
use Rattle.cf_answer.proofs.RunLemmas.{run_unrefused}
use Rattle.cf_answer.proofs.SourceLemmas.{compiled_unrefused}

pub compile_owes : (flags : Flags) (name file : List ℕ) (given last : List Told) (t : RawTarget) → IsCompiledBy (not flags.plain) file given last t →
    (HasSpelling t → ReadsBack (edition_of file) (target_tree t) (target_text (edition_of file) t)) →
    Owes (compile flags name) (file ∷ []) given last [] (target_text (edition_of file) t)
compile_owes flags name file given last t h back = (t, h, record { is = refl; reads_back = back h.0.2.spelled })

pub workload_owes : (n : ℕ) (given last : List Told) (t : RawTarget) (sum : ℤ) (text : List ℕ) → IsCompiledBy true (gen_source n) given last t →
    AddUp t (lines (gen_lines n)) sum → text ≡ sum_line (n * n) sum → Owes (gen n) [] given last [] text
workload_owes n given last t sum text h added line =
    (t, h, h.0.0, h.0.1, sum, sum_picked h.0.0 given last t h.0.2 (lines (gen_lines n)) sum added, line)

-- ---- memory ran out behind compiling
pub compiled_without_memory : (flags : Flags) (name file : List ℕ) (given last : List Told) (s : Streams) (t : RawTarget) →
    IsCompiledBy (not flags.plain) file given last t → AnswersOn (compile flags name) given last (file ∷ []) s s (Err fault.NoMemory)
compiled_without_memory flags name file given last s t (c, called) =
    memory_answers (compile flags name) given last (file ∷ []) s (called_passed (not flags.plain) given last called)
    (λ f r. absurd (compiled_unrefused (applied (not flags.plain) given) (applied (not flags.plain) last) file t f c r))

pub workload_without_memory : (n : ℕ) (given last : List Told) (s : Streams) (t : RawTarget) → IsCompiledBy true (gen_source n) given last t →
    AnswersOn (gen n) given last [] s s (Err fault.NoMemory)
workload_without_memory n given last s t (c, called) =
    memory_answers (gen n) given last [] s (called_passed true given last called) (λ f r. absurd (compiled_unrefused given last (gen_source n) t f c r))

run_called : (calls : Bool) (form : Form) (file : List ℕ) (given last : List Told) (ls : List (List ℕ)) (text : List ℕ) →
    OwesRun calls form file given last ls text → ArePassed calls given last
run_called calls form file given last ls text (compiled t (c, called) replies picked) = called_passed calls given last called
run_called calls form file given last ls text (late typed s replies allowed same) = kept_passed calls given last same

pub run_passed : (calls : Bool) (asked : ReplyForm) (file : List ℕ) (given last : List Told) (ls : List (List ℕ)) (text : List ℕ) →
    OwesNamed calls asked file given last ls text → ArePassed calls given last
run_passed calls asked file given last ls text (names, named, owes) = run_called calls (form_of asked names) file given last ls text owes

pub run_without_memory : (flags : Flags) (asked : ReplyForm) (name file : List ℕ) (given last : List Told) (s : Streams) →
    OwesNamed (not flags.plain) asked file given last [] [] → AnswersOn (run flags asked name) given last (file ∷ []) s s (Err fault.NoMemory)
run_without_memory flags asked name file given last s (names, named, owes) =
    memory_answers (run flags asked name) given last (file ∷ []) s (run_called (not flags.plain) (form_of asked names) file given last [] [] owes)
    (λ f r. absurd (run_unrefused (not flags.plain) (form_of asked names) file given last [] [] f owes r))

-- what answers lines by the source's names replies as is owed
pub named_owes : (calls : Bool) (source : List ℕ) (given last : List Told) (r : Replier) (ls : List (List ℕ)) (text : List ℕ) →
    IsNamedRunner calls source given last r.runner → AreReplies (replier_of r) ls text → OwesNamed calls r.form source given last ls text
named_owes calls source given last r ls text h replies = (r.runner.names.items, h.1, h.0 (form_of r.form r.runner.names.items) ls text replies)

-- without lines nothing is written
pub named_none : (calls : Bool) (asked : ReplyForm) (source : List ℕ) (given last : List Told) (r : Runner) → IsNamedRunner calls source given last r →
    OwesNamed calls asked source given last [] []
named_none calls asked source given last r h = (r.names.items, h.1, h.0 (form_of asked r.names.items) [] [] refl)
