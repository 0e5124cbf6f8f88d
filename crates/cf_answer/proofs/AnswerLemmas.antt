-- From the answer on a text to how the command ends.
use Rattle.std.proofs.Common.{◌≡◌, ◌∙◌, inl, inr, sym, ap, ap₂, subst, refl, ℕ, ◌-◌, ◌≤◌, ◌+◌, Bool, true, false, nat_lt, if◌then◌else◌, List, [], ◌∷◌, ◌++◌, length, Option, Some, None, arith, append-nil, append_assoc}
use Rattle.std.specs.Prelude.{◌⊎◌, Result, Ok, Err, IfErr, OnOk}
use Rattle.std.specs.Io.KnownBytes.{Appends, Consumes}
use Rattle.std.proofs.KnownBytes.{Appends-trans}
use Rattle.cf_io.specs.Bytes.{TookPrefix}
use Rattle.cf_io.specs.Cut.{within}
use Rattle.cf_io.specs.Limits.{IsWithin, IsPast}
use Rattle.cf_io.specs.Lines.{lines, ended}
use Rattle.cf_io.specs.Seen.{SinkSeen, SourceSeen}
use Rattle.cf_pass.specs.Passes.{Told}
use Rattle.cf_words.specs.Commands.{Command, check, compile, prove}
use Rattle.cf_answer.specs.Commands.{reads_input, calls_passes, output_most}
use Rattle.cf_answer.specs.Ends.{Job, input_for, answered_lines, behind_lines, Reads, IsReadUp, Wrote, IsDone, IsStopped, Ends, AreSpared, AnswersOn}
use Rattle.cf_answer.specs.Limits.{edition_for, input_most}
use Rattle.cf_tree.specs.declared.base.Edition.{Edition}
use Rattle.cf_answer.specs.Outside.{Streams, streams, AreTold, Counts, one_past}
use Rattle.cf_answer.specs.Owed.{Replier, AreReplies, AreSourceChecks, Owes, Judges}
use Rattle.cf_answer.specs.Passes.{ArePassed, closing}
use Rattle.cf_answer.specs.Refusals.{Refuses}
use Rattle.cf_answer.specs.Statuses.{fault_status, status_of, IsEarly}
use Rattle.cf_answer.specs.Steps.{RunsOn, RunsThrough, cut, part, whole, IsOutFault}
use Rattle.cf_words.specs.declared.command.Strictness.{Strictness}
use Rattle.cf_answer.specs.Unmet.{end_of, judged, unmet_for}
use Rattle.cf_answer.specs.declared.unmet.Answered.{Answered}
use Rattle.cf_answer.specs.declared.unmet.Unmet.{Unmet}
use Rattle.cf_answer.specs.declared.fault.Fault.{Fault}
use Rattle.cf_answer.specs.declared.fault.Fault.TheVariants as fault
use Rattle.cf_answer.proofs.FaultLemmas.{failed, IsTextFault, refused_fault}
use Rattle.cf_answer.proofs.OutsideLemmas.{none_within, nothing_read, no_fault}
use Rattle.cf_answer.proofs.OwedLemmas.{owed_accepted}
use Rattle.cf_answer.proofs.PassLemmas.{kept_passed}
use Rattle.cf_answer.proofs.StepLemmas.{left_of, left_told, end_told, short_answered, test_within}

-- ---- a text that is refused, or for which memory ran out

pub refused_ends : (job : Job) (before after : Streams) (f : Fault) → IsTextFault f → Refuses job.command job.files f → after.out.held ≡ before.out.held →
    Ends job before after (Err f)
refused_ends job before after fault.Usage h r e = absurd h
refused_ends job before after fault.File h r e = absurd h
refused_ends job before after fault.Input h r e = absurd h
refused_ends job before after fault.Output h r e = absurd h
refused_ends job before after fault.InputTooLong h r e = absurd h
refused_ends job before after fault.OutputTooLong h r e = absurd h
refused_ends job before after (fault.AnswersNo n) h r e = absurd h
refused_ends job before after (fault.AnswersUndecided n) h r e = absurd h
refused_ends job before after fault.NoMemory h r e = absurd h
refused_ends job before after f h r e = (r, e)

-- neither the words nor a file nor a stream
abbrev IsStill : Fault → Type 0
IsStill fault.Usage = ⊥
IsStill fault.File = ⊥
IsStill fault.Input = ⊥
IsStill fault.Output = ⊥
IsStill f = Unit {0}

text_still : (f : Fault) → IsTextFault f → IsStill f
text_still fault.Usage h = h
text_still fault.File h = h
text_still fault.Input h = h
text_still fault.Output h = h
text_still f h = tt

-- neither the words nor a file
abbrev IsOther : Fault → Type 0
IsOther fault.Usage = ⊥
IsOther fault.File = ⊥
IsOther f = Unit {0}

still_other : (f : Fault) → IsStill f → IsOther f
still_other fault.Usage h = h
still_other fault.File h = h
still_other f h = tt

not_usage_of : (f : Fault) → IsOther f → failed f ≡ Err fault.Usage → ⊥
not_usage_of f h e = let same : f ≡ fault.Usage = cc in subst IsOther same h

not_file_of : (f : Fault) → IsOther f → failed f ≡ Err fault.File → ⊥
not_file_of f h e = let same : f ≡ fault.File = cc in subst IsOther same h

not_input_of : (f : Fault) → IsStill f → failed f ≡ Err fault.Input → ⊥
not_input_of f h e = let same : f ≡ fault.Input = cc in subst IsStill same h

not_output_of : (f : Fault) → IsStill f → failed f ≡ Err fault.Output → ⊥
not_output_of f h e = let same : f ≡ fault.Output = cc in subst IsStill same h

answers_still : (c : Command) (given last : List Told) (files : List (List ℕ)) (s : Streams) (f : Fault) → ArePassed (calls_passes c) given last →
    AreSpared c files given last → IsStill f →
    Ends (record { command = c; files = files; given = given; passes = last }) s s (Err f) → AnswersOn c given last files s s (Err f)
answers_still c given last files s f p spared still ends = record {
  passed = p;
  spared = spared;
  ends = ends;
  sparing = nothing_read (input_most files) s.input;
  input = no_fault s.input.faults s.input.faults (not_input_of f still) refl;
  out = no_fault s.out.faults s.out.faults (not_output_of f still) refl;
  not_usage = not_usage_of f (still_other f still);
  not_file = not_file_of f (still_other f still);
}

pub memory_answers : (c : Command) (given last : List Told) (files : List (List ℕ)) (s : Streams) → ArePassed (calls_passes c) given last →
    AreSpared c files given last → AnswersOn c given last files s s (Err fault.NoMemory)
memory_answers c given last files s p spared = answers_still c given last files s fault.NoMemory p spared tt (inr refl)

pub stopped_answers : (c : Command) (given last : List Told) (files : List (List ℕ)) (s : Streams) (f : Fault) → last ≡ given →
    Refuses c files f ⊎ (f ≡ fault.NoMemory) → AnswersOn c given last files s s (Err f)
stopped_answers c given last files s f same (inl h) =
    let is = refused_fault c files f h in
    answers_still c given last files s f (kept_passed (calls_passes c) given last same) (λ g r. same) (text_still f is)
    (refused_ends (record { command = c; files = files; given = given; passes = last }) s s f is h refl)
stopped_answers c given last files s f same (inr e) =
    subst (λ v. AnswersOn c given last files s s (Err v)) (sym e)
    (memory_answers c given last files s (kept_passed (calls_passes c) given last same) (λ g r. same))

-- ---- a text that is written, by a command that reads no input

prefix_more : (old new : Option (List ℕ)) (text more : List ℕ) → TookPrefix old new text → TookPrefix old new (text ++ more)
prefix_more old new text more (front, rest, is, took) = (front, rest ++ more, ap (λ s. s ++ more) is ∙ append_assoc front rest more, took)

no_input : (c : Command) (input : List ℕ) → reads_input c ≡ false → input_for c input ≡ []
no_input c input e = rw e refl

all_input : (c : Command) (input : List ℕ) → reads_input c ≡ true → input_for c input ≡ input
all_input c input e = rw e refl

short_behind : (most : Option ℕ) (input end : List ℕ) → IsWithin most (length input) → behind_lines most input end ≡ end
short_behind most input end few = rw (test_within most (length input) few) refl

-- what is owed and the closing behind it are within the limit of what is written
abbrev Fits : Job → List ℕ → Type 0
Fits job printed = IsWithin (output_most job.command (edition_for job.files)) (length (printed ++ closing job.command job.passes))

-- how it ends where all or a prefix was written
wrote_all : (job : Job) (before after : Streams) (printed : List ℕ) (answer : Result (Unit {0}) Fault) → reads_input job.command ≡ false →
    after.input.left ≡ before.input.left →
    Owes job.command job.files job.given job.passes [] printed → Judges job.command job.files printed answer → Fits job printed →
    Appends before.out.held after.out.held (printed ++ closing job.command job.passes) → IsDone job before after answer
wrote_all job before after printed answer e same owed judges fits took = (
  [],
  subst (λ b. IsReadUp b after.input.left) (sym e) tt,
  none_within (input_most job.files),
  record {
    text = printed;
    read = subst (λ b. Reads b before.input.left after.input.left []) (sym e) (same, refl);
    owed = owed;
    fits = fits;
    took = took;
  },
  judges,
)

wrote_prefix : (job : Job) (before after : Streams) (printed : List ℕ) → reads_input job.command ≡ false → after.input.left ≡ before.input.left →
    Owes job.command job.files job.given job.passes [] printed → Fits job printed →
    TookPrefix before.out.held after.out.held (printed ++ closing job.command job.passes) → IsStopped job before after
wrote_prefix job before after printed e same owed fits took =
    let most = input_most job.files in
    let rest = left_of after.input.left in
    let none : input_for job.command rest ≡ [] = no_input job.command rest e in (
      [],
      rest,
      left_told after.input.left,
      subst (λ v. Wrote job before after TookPrefix [] (answered_lines most v) (behind_lines most v (closing job.command job.passes))) (sym none)
          (record {
            text = printed;
            read = subst (λ b. Reads b before.input.left after.input.left []) (sym e) (same, refl);
            owed = subst (λ ls. Owes job.command job.files job.given job.passes ls printed) (sym (short_answered most [] (none_within most))) owed;
            fits = subst (λ v. IsWithin (output_most job.command (edition_for job.files)) (length (printed ++ v)))
                (sym (short_behind most [] (closing job.command job.passes) (none_within most))) fits;
            took = subst (λ v. TookPrefix before.out.held after.out.held (printed ++ v))
                (sym (short_behind most [] (closing job.command job.passes) (none_within most))) took;
          }),
    )

out_ends : (job : Job) (before after : Streams) (f : Fault) → IsOutFault f → IsStopped job before after → Ends job before after (Err f)
out_ends job before after f (inl out) h = subst (λ v. Ends job before after (Err v)) (sym out) h
out_ends job before after f (inr memory) h = subst (λ v. Ends job before after (Err v)) (sym memory) (inl h)

written_ends : (job : Job) (before after : Streams) (printed : List ℕ) (answer : Result (Unit {0}) Fault) → reads_input job.command ≡ false →
    after.input.left ≡ before.input.left →
    Owes job.command job.files job.given job.passes [] printed → Judges job.command job.files printed (Ok tt) → Fits job printed →
    OnOk answer (Appends before.out.held after.out.held (printed ++ closing job.command job.passes)) →
    TookPrefix before.out.held after.out.held (printed ++ closing job.command job.passes) → IfErr answer IsOutFault → Ends job before after answer
written_ends job before after printed (Ok done) e same owed judges fits all some is =
    wrote_all job before after printed (Ok tt) e same owed judges fits all
written_ends job before after printed (Err f) e same owed judges fits all some is =
    out_ends job before after f is (wrote_prefix job before after printed e same owed fits some)

out_other : (f : Fault) → IsOutFault f → IsOther f
out_other f (inl out) = subst IsOther (sym out) tt
out_other f (inr memory) = subst IsOther (sym memory) tt

-- which answers do not come
record IsWritten (answer : Result (Unit {0}) Fault) : Type 0 where
  not_usage : answer ≡ Err fault.Usage → ⊥
  not_file : answer ≡ Err fault.File → ⊥
  not_input : answer ≡ Err fault.Input → ⊥

out_input : (f : Fault) → IsOutFault f → failed f ≡ Err fault.Input → ⊥
out_input f (inl out) e = cc
out_input f (inr memory) e = cc

written_not : (answer : Result (Unit {0}) Fault) → IfErr answer IsOutFault → IsWritten answer
written_not (Ok done) is = record { not_usage = λ e. cc; not_file = λ e. cc; not_input = λ e. cc }
written_not (Err f) is =
    record { not_usage = not_usage_of f (out_other f is); not_file = not_file_of f (out_other f is); not_input = out_input f is }

pub late_fault : (f : Fault) → IsOutFault f → IsEarly (fault_status f) → ⊥
late_fault f (inl e) h = subst (λ v. IsEarly (fault_status v)) e h
late_fault f (inr e) h = subst (λ v. IsEarly (fault_status v)) e h

-- what was written in part is no early answer
pub out_is_late : (answer : Result (Unit {0}) Fault) → IfErr answer IsOutFault → IsEarly (status_of answer) → ⊥
out_is_late (Ok done) is h = h
out_is_late (Err f) is h = late_fault f is h

-- a text that is past its limit is not written
pub printed_unwritten : (Same : Type 0) (answer : Result (Unit {0}) Fault) → IfErr answer (λ f. IsOutFault f ⊎ (f ≡ fault.OutputTooLong)) →
    (answer ≡ Err fault.OutputTooLong → Same) → IsEarly (status_of answer) → Same
printed_unwritten Same (Ok done) is same h = absurd h
printed_unwritten Same (Err f) (inl out) same h = absurd (late_fault f out h)
printed_unwritten Same (Err f) (inr long) same h = same (ap failed long)

fitted_answers : (c : Command) (given last : List Told) (files : List (List ℕ)) (printed bytes : List ℕ) (input : SourceSeen) (old new : SinkSeen)
    (answer : Result (Unit {0}) Fault) → reads_input c ≡ false → Judges c files printed (Ok tt) →
    ArePassed (calls_passes c) given last → Owes c files given last [] printed → bytes ≡ printed ++ closing c last →
    IsWithin (output_most c (edition_for files)) (length bytes) →
    OnOk answer (Appends old.held new.held bytes) → TookPrefix old.held new.held bytes → IfErr answer IsOutFault →
    Counts (answer ≡ Err fault.Output) old.faults new.faults → AnswersOn c given last files (streams input old) (streams input new) answer
fitted_answers c given last files printed bytes input old new answer e judges p owed is fits all some fault count =
    let fits_is : IsWithin (output_most c (edition_for files)) (length (printed ++ closing c last)) =
    subst (λ v. IsWithin (output_most c (edition_for files)) (length v)) is fits in
    let all_is : OnOk answer (Appends old.held new.held (printed ++ closing c last)) = subst (λ v. OnOk answer (Appends old.held new.held v)) is all in
    let some_is : TookPrefix old.held new.held (printed ++ closing c last) = subst (TookPrefix old.held new.held) is some in
    let never = written_not answer fault in record {
      passed = p;
      spared = λ f r. absurd (owed_accepted c files given last [] printed owed f r);
      ends = written_ends (record { command = c; files = files; given = given; passes = last }) (streams input old) (streams input new) printed answer e refl
          owed judges fits_is all_is some_is fault;
      sparing = nothing_read (input_most files) input;
      input = no_fault input.faults input.faults never.not_input refl;
      out = count;
      not_usage = never.not_usage;
      not_file = never.not_file;
    }

-- a command whose output has no limit
pub written_answers : (c : Command) (given last : List Told) (files : List (List ℕ)) (printed bytes : List ℕ) (input : SourceSeen) (old new : SinkSeen)
    (answer : Result (Unit {0}) Fault) → reads_input c ≡ false → Judges c files printed (Ok tt) → ((edition : Edition) → output_most c edition ≡ None) →
    ArePassed (calls_passes c) given last → Owes c files given last [] printed → bytes ≡ printed ++ closing c last →
    OnOk answer (Appends old.held new.held bytes) → TookPrefix old.held new.held bytes → IfErr answer IsOutFault →
    Counts (answer ≡ Err fault.Output) old.faults new.faults → AnswersOn c given last files (streams input old) (streams input new) answer
written_answers c given last files printed bytes input old new answer e judges unlimited p owed is all some fault count =
    fitted_answers c given last files printed bytes input old new answer e judges p owed is
    (subst (λ most. IsWithin most (length bytes)) (sym (unlimited (edition_for files))) tt) all some fault count

-- what is owed is past the limit of what is written: nothing is
overfull_answers : (c : Command) (given last : List Told) (files : List (List ℕ)) (printed bytes : List ℕ) (s : Streams) →
    ArePassed (calls_passes c) given last → Owes c files given last [] printed → bytes ≡ printed ++ closing c last →
    IsPast (output_most c (edition_for files)) (length bytes) → AnswersOn c given last files s s (Err fault.OutputTooLong)
overfull_answers c given last files printed bytes s p owed is past =
    answers_still c given last files s fault.OutputTooLong p (λ f r. absurd (owed_accepted c files given last [] printed owed f r)) tt
    (printed, owed, subst (λ v. IsPast (output_most c (edition_for files)) (length v)) is past, refl)

not_both : (most : Option ℕ) (count : ℕ) → IsWithin most count → IsPast most count → ⊥
not_both None count few many = many
not_both (Some most) count few many = omega (arith, few, many)

-- a text that is written where it is within the limit
pub printed_answers : (c : Command) (given last : List Told) (files : List (List ℕ)) (printed bytes : List ℕ) (input : SourceSeen) (old new : SinkSeen)
    (answer : Result (Unit {0}) Fault) → reads_input c ≡ false → Judges c files printed (Ok tt) →
    ArePassed (calls_passes c) given last → Owes c files given last [] printed → bytes ≡ printed ++ closing c last →
    (answer ≡ Err fault.OutputTooLong) ⊎ IsWithin (output_most c (edition_for files)) (length bytes) →
    (answer ≡ Err fault.OutputTooLong → IsPast (output_most c (edition_for files)) (length bytes)) → (answer ≡ Err fault.OutputTooLong → new ≡ old) →
    OnOk answer (Appends old.held new.held bytes) → TookPrefix old.held new.held bytes →
    IfErr answer (λ f. IsOutFault f ⊎ (f ≡ fault.OutputTooLong)) →
    Counts (answer ≡ Err fault.Output) old.faults new.faults → AnswersOn c given last files (streams input old) (streams input new) answer
printed_answers c given last files printed bytes input old new answer e judges p owed is (inl long) past same all some only count =
    subst (λ a. AnswersOn c given last files (streams input old) (streams input new) a) (sym long)
    (subst (λ o. AnswersOn c given last files (streams input old) (streams input o) (Err fault.OutputTooLong)) (sym (same long))
    (overfull_answers c given last files printed bytes (streams input old) p owed is (past long)))
printed_answers c given last files printed bytes input old new (Ok done) e judges p owed is (inr few) past same all some only count =
    fitted_answers c given last files printed bytes input old new (Ok done) e judges p owed is few all some tt count
printed_answers c given last files printed bytes input old new (Err f) e judges p owed is (inr few) past same all some (inl out) count =
    fitted_answers c given last files printed bytes input old new (Err f) e judges p owed is few all some out count
printed_answers c given last files printed bytes input old new (Err f) e judges p owed is (inr few) past same all some (inr long) count =
    absurd (not_both (output_most c (edition_for files)) (length bytes) few (past (ap failed long)))

-- ---- a strict check, all of whose lines were written

-- answers of a strict check that are no, or undecided
abbrev IsUnmet : Fault → Type 0
IsUnmet (fault.AnswersNo n) = Unit {0}
IsUnmet (fault.AnswersUndecided n) = Unit {0}
IsUnmet f = ⊥

unmet_still : (f : Fault) → IsUnmet f → IsStill f
unmet_still (fault.AnswersNo n) h = tt
unmet_still (fault.AnswersUndecided n) h = tt
unmet_still f h = absurd h

unmet_ends : (job : Job) (before after : Streams) (f : Fault) → IsUnmet f → IsDone job before after (Err f) → Ends job before after (Err f)
unmet_ends job before after (fault.AnswersNo n) h d = d
unmet_ends job before after (fault.AnswersUndecided n) h d = d
unmet_ends job before after f h d = absurd h

pub unmet_answers : (c : Command) (given last : List Told) (files : List (List ℕ)) (printed bytes : List ℕ) (input : SourceSeen) (old new : SinkSeen)
    (f : Fault) → IsUnmet f → reads_input c ≡ false → ((edition : Edition) → output_most c edition ≡ None) →
    ArePassed (calls_passes c) given last → Owes c files given last [] printed → Judges c files printed (Err f) → bytes ≡ printed ++ closing c last →
    Appends old.held new.held bytes → new.faults ≡ old.faults → AnswersOn c given last files (streams input old) (streams input new) (Err f)
unmet_answers c given last files printed bytes input old new f unmet e unlimited p owed judges is all same =
    let job : Job = record { command = c; files = files; given = given; passes = last } in
    let still = unmet_still f unmet in
    let fits = subst (λ most. IsWithin most (length (printed ++ closing c last))) (sym (unlimited (edition_for files))) tt in
    let all_is = subst (Appends old.held new.held) is all in record {
      passed = p;
      spared = λ g r. absurd (owed_accepted c files given last [] printed owed g r);
      ends = unmet_ends job (streams input old) (streams input new) f unmet
          (wrote_all job (streams input old) (streams input new) printed (Err f) e refl owed judges fits all_is);
      sparing = nothing_read (input_most files) input;
      input = no_fault input.faults input.faults (not_input_of f still) refl;
      out = no_fault old.faults new.faults (not_output_of f still) same;
      not_usage = not_usage_of f (still_other f still);
      not_file = not_file_of f (still_other f still);
    }

-- a prefix of it was written, by a command whose output has no limit
part_answers : (c : Command) (given last : List Told) (files : List (List ℕ)) (printed bytes : List ℕ) (input : SourceSeen) (old new : SinkSeen) (f : Fault) →
    reads_input c ≡ false → ((edition : Edition) → output_most c edition ≡ None) → ArePassed (calls_passes c) given last →
    Owes c files given last [] printed → bytes ≡ printed ++ closing c last → TookPrefix old.held new.held bytes → IsOutFault f →
    Counts (failed f ≡ Err fault.Output) old.faults new.faults → AnswersOn c given last files (streams input old) (streams input new) (Err f)
part_answers c given last files printed bytes input old new f e unlimited p owed is some fault count =
    let job : Job = record { command = c; files = files; given = given; passes = last } in
    let fits = subst (λ most. IsWithin most (length (printed ++ closing c last))) (sym (unlimited (edition_for files))) tt in
    let some_is = subst (TookPrefix old.held new.held) is some in
    let never = written_not (Err f) fault in record {
      passed = p;
      spared = λ g r. absurd (owed_accepted c files given last [] printed owed g r);
      ends = out_ends job (streams input old) (streams input new) f fault
          (wrote_prefix job (streams input old) (streams input new) printed e refl owed fits some_is);
      sparing = nothing_read (input_most files) input;
      input = no_fault input.faults input.faults never.not_input refl;
      out = count;
      not_usage = never.not_usage;
      not_file = never.not_file;
    }

-- how `check` ends where `out` took a prefix of its lines
pub part_checked : (strictness : Strictness) (file : List ℕ) (given : List Told) (source printed : List ℕ) (a : Answered) (input : SourceSeen)
    (old new : SinkSeen) (f : Fault) → AreSourceChecks file source printed a → TookPrefix old.held new.held printed → IsOutFault f →
    Counts (failed f ≡ Err fault.Output) old.faults new.faults →
    AnswersOn (check strictness file) given given (source ∷ []) (streams input old) (streams input new) (Err f)
part_checked strictness file given source printed a input old new f checks some fault count =
    part_answers (check strictness file) given given (source ∷ []) printed printed input old new f refl (λ edition. refl) refl (a, checks)
    (sym (append-nil printed)) some fault count

-- how `check` ends where all its lines were written
module _ (strictness : Strictness) (file : List ℕ) (given : List Told) (source printed : List ℕ) (a : Answered) (input : SourceSeen) (old new : SinkSeen)
    (checks : AreSourceChecks file source printed a) (all : Appends old.held new.held printed) (same : new.faults ≡ old.faults) where
  abbrev unmet : Unmet
  unmet = unmet_for strictness a

  abbrev ends_by : Bool → Bool → Result (Unit {0}) Fault
  ends_by b c = if b then Err (fault.AnswersNo unmet.no) else if c then Err (fault.AnswersUndecided unmet.undecided) else Ok tt

  ended_so : (b : Bool) → nat_lt 0 unmet.no ≡ b → (c : Bool) → nat_lt 0 unmet.undecided ≡ c →
      AnswersOn (check strictness file) given given (source ∷ []) (streams input old) (streams input new) (ends_by b c)
  ended_so true e c f =
      unmet_answers (check strictness file) given given (source ∷ []) printed printed input old new (fault.AnswersNo unmet.no) tt refl (λ edition. refl) refl
      (a, checks) (a, checks, sym (ap (λ b. ends_by b (nat_lt 0 unmet.undecided)) e)) (sym (append-nil printed)) all same
  ended_so false e true f =
      unmet_answers (check strictness file) given given (source ∷ []) printed printed input old new (fault.AnswersUndecided unmet.undecided) tt refl
      (λ edition. refl) refl (a, checks) (a, checks, sym (ap₂ ends_by e f)) (sym (append-nil printed)) all same
  ended_so false e false f =
      written_answers (check strictness file) given given (source ∷ []) printed printed input old new (Ok tt) refl (a, checks, sym (ap₂ ends_by e f))
      (λ edition. refl) refl (a, checks) (sym (append-nil printed)) all (printed, [], sym (append-nil printed), all) tt
      (no_fault old.faults new.faults (λ k. cc k) same)

  pub ended_answers : AnswersOn (check strictness file) given given (source ∷ []) (streams input old) (streams input new) (judged strictness a)
  ended_answers = ended_so (nat_lt 0 unmet.no) refl (nat_lt 0 unmet.undecided) refl

-- no such end is early
pub ended_late : (u : Unmet) → IsEarly (status_of (end_of u)) → ⊥
ended_late u h = go (nat_lt 0 u.no) (nat_lt 0 u.undecided) h
  where
    go : (b c : Bool) → IsEarly (status_of (if b then Err (fault.AnswersNo u.no) else if c then Err (fault.AnswersUndecided u.undecided) else Ok tt)) → ⊥
    go true c h = h
    go false true h = h
    go false false h = h

-- ---- what answers the input

-- what is known of a command that answers the input so
record AnswersBy (job : Job) (who : Replier) : Type 0 where
  reads : reads_input job.command ≡ true
  owes : (ls : List (List ℕ)) (replies : List ℕ) → AreReplies who ls replies → Owes job.command job.files job.given job.passes ls replies

-- such a command is done
reads_done : (c : Command) (files : List (List ℕ)) (text : List ℕ) → reads_input c ≡ true → Judges c files text (Ok tt)
reads_done (check strictness file) files text e = cc
reads_done c files text e = refl

-- what such a command writes has no limit
reads_unlimited : (c : Command) (edition : Edition) (count : ℕ) → reads_input c ≡ true → IsWithin (output_most c edition) count
reads_unlimited (compile flags file) edition count e = cc
reads_unlimited (prove file) edition count e = cc
reads_unlimited c edition count e = tt

wrote_by : (job : Job) (before after : Streams) (Took : Option (List ℕ) → Option (List ℕ) → List ℕ → Type 0) (front : List ℕ) (ls : List (List ℕ))
    (end text : List ℕ) (who : Replier) →
    AnswersBy job who → Consumes before.input.left after.input.left front → AreReplies who ls text → Took before.out.held after.out.held (text ++ end) →
    Wrote job before after Took front ls end
wrote_by job before after Took front ls end text who by read replies took = record {
  text = text;
  read = subst (λ b. Reads b before.input.left after.input.left front) (sym by.reads) read;
  owed = by.owes ls text replies;
  fits = reads_unlimited job.command (edition_for job.files) (length (text ++ end)) by.reads;
  took = took;
}

-- a prefix of what is owed for what was read and what is left
stopped_by : (job : Job) (before after : Streams) (front rest text : List ℕ) (who : Replier) → AnswersBy job who →
    Consumes before.input.left after.input.left front →
    AreTold after.input.left rest →
    AreReplies who (answered_lines (input_most job.files) (front ++ rest)) text →
    TookPrefix before.out.held after.out.held (text ++ behind_lines (input_most job.files) (front ++ rest) (closing job.command job.passes)) →
    IsStopped job before after
stopped_by job before after front rest text who by read told replies took = (
  front,
  rest,
  told,
  subst (λ v. Wrote job before after TookPrefix front (answered_lines (input_most job.files) v)
      (behind_lines (input_most job.files) v (closing job.command job.passes)))
      (sym (all_input job.command (front ++ rest) by.reads))
      (wrote_by job before after TookPrefix front (answered_lines (input_most job.files) (front ++ rest))
      (behind_lines (input_most job.files) (front ++ rest) (closing job.command job.passes)) text who by read replies took),
)

cut_ends : (job : Job) (before after : Streams) (who : Replier) (f : Fault) → AnswersBy job who →
    RunsOn who (input_most job.files) before.input.left after.input.left before.out.held after.out.held (Err f) → Ends job before after (Err f)
cut_ends job before after who fault.InputTooLong by r = (
  r.front,
  r.runs.0,
  wrote_by job before after Appends r.front (ended (within (input_most job.files) r.front)) [] r.runs.1.0 who by r.read r.runs.1.1
      (subst (Appends before.out.held after.out.held) (sym (append-nil r.runs.1.0)) r.runs.1.2),
)
cut_ends job before after who fault.Input by r = (
  r.front,
  by.reads,
  r.runs.0,
  wrote_by job before after Appends r.front (ended r.front) [] r.runs.1.0 who by r.read r.runs.1.1
      (subst (Appends before.out.held after.out.held) (sym (append-nil r.runs.1.0)) r.runs.1.2),
)
cut_ends job before after who fault.Output by r =
    stopped_by job before after r.front r.runs.0 r.runs.2.0 who by r.read r.runs.1 r.runs.2.1
    (prefix_more before.out.held after.out.held r.runs.2.0 _ r.runs.2.2)
cut_ends job before after who fault.NoMemory by r =
    inl (stopped_by job before after r.front r.runs.0 r.runs.2.0 who by r.read r.runs.1 r.runs.2.1
    (prefix_more before.out.held after.out.held r.runs.2.0 _ r.runs.2.2))
cut_ends job before after who f by r = absurd r.runs

-- all replies were written, and then a prefix of what stands behind them
part_ends : (job : Job) (before after : Streams) (who : Replier) (mid : Option (List ℕ)) → AnswersBy job who →
    RunsOn who (input_most job.files) before.input.left after.input.left before.out.held mid (Ok tt) →
    TookPrefix mid after.out.held (closing job.command job.passes) → IsStopped job before after
part_ends job before after who mid by r (first, rest, is, took) =
    let most = input_most job.files in
    let text = r.runs.2.0 in
    let end = closing job.command job.passes in
    let same : r.front ++ [] ≡ r.front = append-nil r.front in
    stopped_by job before after r.front [] text who by r.read (end_told after.input.left r.runs.0)
    (subst (λ v. AreReplies who (answered_lines most v) text) (sym same)
    (subst (λ ls. AreReplies who ls text) (sym (short_answered most r.front r.runs.1)) r.runs.2.1))
    (subst (λ v. TookPrefix before.out.held after.out.held (text ++ behind_lines most v end)) (sym same)
    (subst (λ v. TookPrefix before.out.held after.out.held (text ++ v)) (sym (short_behind most r.front end r.runs.1)) (
      text ++ first,
      rest,
      ap (λ s. text ++ s) is ∙ sym (append_assoc text first rest),
      Appends-trans before.out.held mid after.out.held text first r.runs.2.2
          took,
    )))

through_ends : (job : Job) (before after : Streams) (who : Replier) (end : List ℕ) (answer : Result (Unit {0}) Fault) → AnswersBy job who →
    end ≡ closing job.command job.passes →
    RunsThrough who (input_most job.files) end before.input.left after.input.left before.out.held after.out.held answer → Ends job before after answer
through_ends job before after who end answer by is (cut f e r) = subst (Ends job before after) (sym e) (cut_ends job before after who f by r)
through_ends job before after who end answer by is (part mid f r e out took) =
    subst (Ends job before after) (sym e) (out_ends job before after f out
    (part_ends job before after who mid by r (subst (TookPrefix mid after.out.held) is took)))
through_ends job before after who end answer by is (whole mid r e took) =
    let text = r.runs.2.0 in
    subst (Ends job before after) (sym e) (
      r.front,
      subst (λ b. IsReadUp b after.input.left) (sym by.reads) r.runs.0,
      r.runs.1,
      wrote_by job before after Appends r.front (lines r.front) (closing job.command job.passes) text who by r.read r.runs.2.1
          (Appends-trans before.out.held mid after.out.held text (closing job.command job.passes) r.runs.2.2 (subst (Appends mid after.out.held) is took)),
      reads_done job.command job.files _ by.reads,
    )

runs_other : (who : Replier) (most : Option ℕ) (left still_left old new : Option (List ℕ)) (f : Fault) → RunsOn who most left still_left old new (Err f) →
    IsOther f
runs_other who most left still_left old new fault.Usage r = r.runs
runs_other who most left still_left old new fault.File r = r.runs
runs_other who most left still_left old new f r = tt

-- how much was read, and which answers do not come
record Bounded (most : Option ℕ) (left still_left : Option (List ℕ)) (answer : Result (Unit {0}) Fault) : Type 0 where
  front : (front : List ℕ) × IsWithin (one_past most) (length front) × Consumes left still_left front
  not_usage : answer ≡ Err fault.Usage → ⊥
  not_file : answer ≡ Err fault.File → ⊥

bounded : (most : Option ℕ) (left still_left old new : Option (List ℕ)) (who : Replier) (end : List ℕ) (answer : Result (Unit {0}) Fault) →
    RunsThrough who most end left still_left old new answer → Bounded most left still_left answer
bounded most left still_left old new who end answer (cut f e r) =
    let other = runs_other who most left still_left old new f r in
    subst (Bounded most left still_left) (sym e)
    (record { front = (r.front, r.past, r.read); not_usage = not_usage_of f other; not_file = not_file_of f other })
bounded most left still_left old new who end answer (part mid f r e out took) =
    subst (Bounded most left still_left) (sym e)
    (record { front = (r.front, r.past, r.read); not_usage = not_usage_of f (out_other f out); not_file = not_file_of f (out_other f out) })
bounded most left still_left old new who end answer (whole mid r e took) =
    subst (Bounded most left still_left) (sym e) (record { front = (r.front, r.past, r.read); not_usage = λ i. cc; not_file = λ i. cc })

pub through_answers : (c : Command) (given last : List Told) (files : List (List ℕ)) (who : Replier) (end : List ℕ) (before after : Streams)
    (answer : Result (Unit {0}) Fault) → reads_input c ≡ true →
    ArePassed (calls_passes c) given last → end ≡ closing c last →
    ((ls : List (List ℕ)) (replies : List ℕ) → AreReplies who ls replies → Owes c files given last ls replies) →
    RunsThrough who (input_most files) end before.input.left after.input.left before.out.held after.out.held answer →
    Counts (answer ≡ Err fault.Input) before.input.faults after.input.faults → Counts (answer ≡ Err fault.Output) before.out.faults after.out.faults →
    IsWithin (one_past (input_most files)) (after.input.given - before.input.given) → after.input.ends ≤ before.input.ends + 1 →
    AnswersOn c given last files before after answer
through_answers c given last files who end before after answer e p is owes r input out given_most ends_most =
    let b = bounded (input_most files) before.input.left after.input.left before.out.held after.out.held who end answer r in record {
      passed = p;
      spared = λ f h. absurd (owed_accepted c files given last [] [] (owes [] [] refl) f h);
      ends = through_ends (record { command = c; files = files; given = given; passes = last }) before after who end answer (record { reads = e; owes = owes })
          is r;
      sparing = record { front = b.front; given = given_most; ends = ends_most };
      input = input;
      out = out;
      not_usage = b.not_usage;
      not_file = b.not_file;
    }

-- the end is written behind the replies
pub through_written : (who : Replier) (most : Option ℕ) (end : List ℕ) (left still_left old mid new : Option (List ℕ)) (done : Unit {0})
    (answer : Result (Unit {0}) Fault) →
    RunsOn who most left still_left old mid (Ok done) → OnOk answer (Appends mid new end) → TookPrefix mid new end → IfErr answer IsOutFault →
    RunsThrough who most end left still_left old new answer
through_written who most end left still_left old mid new done (Ok other) r all some is = whole mid r refl all
through_written who most end left still_left old mid new done (Err f) r all some is = part mid f r refl is some
