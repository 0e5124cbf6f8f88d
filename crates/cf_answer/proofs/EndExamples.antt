-- How `run` ends on an input of two lines, with each answer: what was read, and what `out` took; and how a strict `check` ends.
use Rattle.std.proofs.Common.{◌≡◌, inl, inr, ◌<◌, ◌≤◌, ◌∙◌, sym, ap, subst, refl, ℕ, true, false, List, [], ◌∷◌, ◌++◌, length, Some, None, append-nil, arith, codes}
use Rattle.std.specs.Prelude.{take, Ok, Err}
use Rattle.std.specs.Fmt.{digits}
use Rattle.cf_io.specs.Limits.{input_limit, IsWithin, IsPast}
use Rattle.cf_io.specs.Lines.{lines, ended}
use Rattle.cf_io.specs.Seen.{SourceSeen, SinkSeen}
use Rattle.cf_pass.specs.Passes.{Told}
use Rattle.cf_words.specs.Commands.{check, run, compile}
use Rattle.cf_words.specs.declared.command.ReplyForm.{ReplyForm}
use Rattle.cf_words.specs.declared.command.Strictness.{Strictness}
use Rattle.cf_words.specs.declared.command.Strictness.TheVariants.{Existing, Unique}
use Rattle.cf_answer.specs.Ends.{Job, Reads, IsReadUp, Ends}
use Rattle.cf_answer.specs.Commands.{output_most}
use Rattle.cf_answer.specs.Limits.{edition_for, input_most, written_limit}
use Rattle.cf_answer.specs.Outside.{Streams, streams}
use Rattle.cf_answer.specs.Owed.{AreSourceChecks, Owes}
use Rattle.cf_answer.specs.Refusals.{Refuses}
use Rattle.cf_answer.specs.Unmet.{answered, nothing_unmet, one_no, one_undecided}
use Rattle.cf_answer.specs.declared.fault.Fault.TheVariants as fault

abbrev form : ReplyForm
form = record { key = false; jsonl = false }

-- run --plain --stats a, where the one pass tells this
abbrev passes : List Told
passes = record { name = codes "fold"; tally = 12; turns = 3; makes = λ n c. c; whole = true } ∷ []

abbrev job : Job
job = record { command = run (record { plain = true; stats = true }) form (codes "a"); files = codes "source" ∷ []; given = passes; passes = passes }

-- compile a
abbrev compiling : Job
compiling = record { command = compile (record { plain = true; stats = false }) (codes "a"); files = codes "source" ∷ []; given = passes; passes = passes }

abbrev input : List ℕ → SourceSeen
input bytes = record { left = Some bytes; faults = 0; given = 0; ends = 0 }

abbrev out : List ℕ → SinkSeen
out bytes = record { held = Some bytes; faults = 0 }

-- the input has two lines, and `out` holds "x"
abbrev before : Streams
before = streams (input (codes "1\n2")) (out (codes "x"))

abbrev after : List ℕ → List ℕ → Streams
after left held = streams (input left) (out held)

abbrev two : List (List ℕ)
two = codes "1" ∷ codes "2" ∷ []

abbrev OwesRun : List (List ℕ) → List ℕ → Type 0
OwesRun ls text = Owes job.command job.files job.given job.passes ls text

-- its source is of language 2, so its input has a limit
limited : input_most job.files ≡ Some input_limit
limited = refl

short : (bytes : List ℕ) → length bytes ≤ 16777216 → IsWithin (input_most job.files) (length bytes)
unfolding input_limit
short bytes h = let few : length bytes ≤ input_limit = omega (arith, h) in few

not_short : (xs bytes : List ℕ) → xs ≡ bytes → length xs ≡ 16777217 → IsWithin (input_most job.files) (length bytes) → ⊥
unfolding input_limit
not_short xs bytes same e h = let few : length bytes ≤ input_limit = h in omega (arith, e, ap length same, few)

-- ---- what was read
read-a_line : Reads true (Some (codes "1\n2")) (Some (codes "2")) (codes "1\n")
read-a_line = refl

read-nothing : Reads false (Some (codes "1\n2")) (Some (codes "1\n2")) []
read-nothing = (refl, refl)

read-unasked : Reads false (Some (codes "1\n2")) (Some (codes "2")) (codes "1\n") → ⊥
read-unasked h = cc (h.1)

up-to_the_end : (IsReadUp true (Some [])) × (IsReadUp false (Some (codes "2"))) × (IsReadUp true (Some (codes "2")) → ⊥)
up-to_the_end = (refl, tt, λ h. cc h)

-- all of these bytes were read
all-read : (front : List ℕ) → codes "1\n2" ≡ front ++ [] → front ≡ codes "1\n2"
all-read front e = sym (append-nil front) ∙ sym e

-- ---- done: the replies, and behind them the tallies
done : OwesRun two (codes "3\n4\n") → Ends job before (after [] (codes "x3\n4\n# fold 12\n")) (Ok tt)
unfolding digits
done owed = (codes "1\n2", refl, short (codes "1\n2") (omega arith), record { text = codes "3\n4\n"; read = refl; owed = owed; fits = tt; took = refl }, refl)

-- so what stands there is owed for both lines
tail_of : (n : ℕ) (xs ys : List ℕ) → ◌≡◌ {A = List ℕ} (n ∷ xs) (n ∷ ys) → xs ≡ ys
tail_of n xs ys e = cc e

done-owes : Ends job before (after [] (codes "x3\n4\n# fold 12\n")) (Ok tt) →
    (text : List ℕ) × OwesRun two text × (text ++ codes "# fold 12\n" ≡ codes "3\n4\n# fold 12\n")
unfolding digits
done-owes h = (
  h.3.text,
  subst (λ front. OwesRun (lines front) h.3.text) (all-read h.0 h.3.read) h.3.owed,
  sym (tail_of 120 (codes "3\n4\n# fold 12\n") (h.3.text ++ codes "# fold 12\n") h.3.took),
)

done-too_soon : Ends job before (after (codes "2") (codes "x3\n4\n# fold 12\n")) (Ok tt) → ⊥
done-too_soon h = cc (h.1)

-- an input of 16777216 bytes is no longer than the limit, and one of 16777217 is
done-at_the_limit : (bytes : List ℕ) → length bytes ≡ 16777216 → OwesRun (lines bytes) (codes "3\n") →
    Ends job (streams (input bytes) (out [])) (after [] (codes "3\n# fold 12\n")) (Ok tt)
unfolding input_limit digits
done-at_the_limit bytes e owed = (
  bytes,
  refl,
  short bytes (omega (arith, e)),
  record { text = codes "3\n"; read = sym (append-nil bytes); owed = owed; fits = tt; took = refl },
  refl,
)

done-past_the_limit : (bytes held : List ℕ) → length bytes ≡ 16777217 → Ends job (streams (input bytes) (out [])) (after [] held) (Ok tt) → ⊥
done-past_the_limit bytes held e h = not_short bytes h.0 (h.3.read ∙ append-nil h.0) e h.2

-- ---- the input failed behind the first line feed: its line is answered, and no tallies follow
input-failed : OwesRun (codes "1" ∷ []) (codes "3\n") → Ends job before (after [] (codes "x3\n")) (Err fault.Input)
input-failed owed = (codes "1\n2", refl, short (codes "1\n2") (omega arith), record { text = codes "3\n"; read = refl; owed = owed; fits = tt; took = refl })

input-failed_owes : Ends job before (after [] (codes "x3\n")) (Err fault.Input) → OwesRun (codes "1" ∷ []) (codes "3\n")
input-failed_owes h =
    let text : h.3.text ≡ codes "3\n" = sym (append-nil h.3.text) ∙ sym (tail_of 120 (codes "3\n") (h.3.text ++ []) h.3.took) in
    subst (OwesRun (codes "1" ∷ [])) text (subst (λ front. OwesRun (ended front) h.3.text) (all-read h.0 h.3.read) h.3.owed)

input-failed_at_the_limit : (bytes : List ℕ) → length bytes ≡ 16777216 → OwesRun (ended bytes) [] →
    Ends job (streams (input bytes) (out [])) (after [] []) (Err fault.Input)
unfolding input_limit
input-failed_at_the_limit bytes e owed =
    (bytes, refl, short bytes (omega (arith, e)), record { text = []; read = sym (append-nil bytes); owed = owed; fits = tt; took = refl })

input-failed_past_the_limit : (bytes held : List ℕ) → length bytes ≡ 16777217 → Ends job (streams (input bytes) (out [])) (after [] held) (Err fault.Input) → ⊥
input-failed_past_the_limit bytes held e h = not_short bytes h.0 (h.3.read ∙ append-nil h.0) e h.2

-- a command that reads no input has no such end
compiling-reads_none : (late : Streams) → Ends compiling before late (Err fault.Input) → ⊥
compiling-reads_none late h = cc (h.1)

-- ---- the input is too long: the lines are answered that end within the limit
past : (xs : List ℕ) → length xs ≡ 16777217 → IsPast (input_most job.files) (length xs)
unfolding input_limit
past xs s = let many : input_limit < length xs = omega (arith, s) in many

too-long : (bytes : List ℕ) → length bytes ≡ 16777217 → OwesRun (ended (take input_limit bytes)) (codes "3\n") →
    Ends job (streams (input bytes) (out (codes "x"))) (after [] (codes "x3\n")) (Err fault.InputTooLong)
too-long bytes e owed = (bytes, past bytes e, record { text = codes "3\n"; read = sym (append-nil bytes); owed = owed; fits = tt; took = refl })

too-long_owes : (bytes : List ℕ) → Ends job (streams (input bytes) (out (codes "x"))) (after [] (codes "x3\n")) (Err fault.InputTooLong) →
    OwesRun (ended (take input_limit bytes)) (codes "3\n")
too-long_owes bytes h =
    let front : h.0 ≡ bytes = sym (append-nil h.0) ∙ sym h.2.read in
    let text : h.2.text ≡ codes "3\n" = sym (append-nil h.2.text) ∙ sym (tail_of 120 (codes "3\n") (h.2.text ++ []) h.2.took) in
    subst (OwesRun (ended (take input_limit bytes))) text (subst (λ b. OwesRun (ended (take input_limit b)) h.2.text) front h.2.owed)

not-too_long : (bytes held : List ℕ) → length bytes ≡ 16777216 → Ends job (streams (input bytes) (out [])) (after [] held) (Err fault.InputTooLong) → ⊥
unfolding input_limit
not-too_long bytes held e h =
    let front : bytes ≡ h.0 = h.2.read ∙ append-nil h.0 in
    let many : input_limit < length h.0 = h.1 in omega (arith, e, ap length front, many)

-- ---- `out` failed: a prefix of what is owed for all lines was written, also where the rest of them was not read
output-failed : OwesRun two (codes "3\n4\n") → Ends job before (after (codes "2") (codes "x3\n4")) (Err fault.Output)
unfolding input_limit digits
output-failed owed = (
  codes "1\n",
  codes "2",
  refl,
  record {
    text = codes "3\n4\n";
    read = refl;
    owed = owed;
    fits = tt;
    took =
        (codes "3\n4", codes "\n# fold 12\n", refl, refl);
  },
)

output-failed_in_the_tallies : OwesRun two (codes "3\n4\n") → Ends job before (after [] (codes "x3\n4\n# f")) (Err fault.Output)
unfolding input_limit digits
output-failed_in_the_tallies owed =
    (codes "1\n2", [], refl, record { text = codes "3\n4\n"; read = refl; owed = owed; fits = tt; took = (codes "3\n4\n# f", codes "old 12\n", refl, refl) })

first-bytes : (b c : ℕ) (xs ys : List ℕ) → ◌≡◌ {A = List ℕ} (b ∷ xs) (c ∷ ys) → b ≡ c
first-bytes b c xs ys e = cc e

output-changed : Ends job before (after (codes "2") (codes "y3\n")) (Err fault.Output) → ⊥
output-changed h = let e : 121 ≡ 120 = first-bytes 121 120 (codes "3\n") h.3.took.0 h.3.took.3 in omega (arith, e)

-- ---- memory ran out: a prefix of it, or nothing
no-memory_on_the_way : OwesRun two (codes "3\n4\n") → Ends job before (after (codes "2") (codes "x3\n")) (Err fault.NoMemory)
unfolding input_limit digits
no-memory_on_the_way owed =
    inl (
      codes "1\n",
      codes "2",
      refl,
      record {
        text = codes "3\n4\n";
        read = refl;
        owed = owed;
        fits = tt;
        took =
            (codes "3\n", codes "4\n# fold 12\n", refl, refl);
      },
    )

no-memory_before : Ends job before (after [] (codes "x")) (Err fault.NoMemory)
no-memory_before = inr refl

same-held : (xs ys : List ℕ) → Some xs ≡ Some ys → xs ≡ ys
same-held xs ys e = cc e

no-memory_changed : Ends job before (after [] (codes "y")) (Err fault.NoMemory) → ⊥
no-memory_changed (inl h) = let e : 121 ≡ 120 = first-bytes 121 120 [] h.3.took.0 h.3.took.3 in omega (arith, e)
no-memory_changed (inr h) = let e : 121 ≡ 120 = first-bytes 121 120 [] [] (same-held (codes "y") (codes "x") h) in omega (arith, e)

-- ---- a file failed, or it is refused: nothing was written
file-failed : Ends job before (after (codes "1\n2") (codes "x")) (Err fault.File)
file-failed = (refl, refl)

file-failed_behind_bytes : Ends job before (after (codes "1\n2") (codes "x3\n")) (Err fault.File) → ⊥
file-failed_behind_bytes h = cc h.0

-- nor was a pass called
file-failed_behind_a_pass : Ends (record { command = job.command; files = job.files; given = passes; passes = [] }) before before (Err fault.File) → ⊥
file-failed_behind_a_pass h = cc h.1

refused : Refuses job.command job.files fault.TextTooLong → Ends job before (after (codes "1\n2") (codes "x")) (Err fault.TextTooLong)
refused r = (r, refl)

refused-for_it : Ends job before (after (codes "1\n2") (codes "x")) (Err fault.TextTooLong) → Refuses job.command job.files fault.TextTooLong
refused-for_it h = h.0

refused-behind_bytes : Ends job before (after (codes "1\n2") (codes "x3\n")) (Err fault.TextTooLong) → ⊥
refused-behind_bytes h = cc (h.1)

refused-by_its_target : Ends job before (after (codes "1\n2") (codes "x")) (Err fault.BadTarget) → Refuses job.command job.files fault.BadTarget
refused-by_its_target h = h.0

-- ---- edition 3 has no limit of the input
abbrev unlimited : Job
unlimited = record {
  command = run (record { plain = true; stats = false }) form (codes "a");
  files = codes "comfusy 3\n" ∷ [];
  given = passes;
  passes = passes;
}

without-limit : input_most unlimited.files ≡ None
without-limit = refl

done-without_limit : (bytes : List ℕ) → length bytes ≡ 16777217 →
    Owes unlimited.command unlimited.files unlimited.given unlimited.passes (lines bytes) (codes "3\n") →
    Ends unlimited (streams (input bytes) (out [])) (after [] (codes "3\n")) (Ok tt)
done-without_limit bytes e owed =
    (bytes, refl, tt, record { text = codes "3\n"; read = sym (append-nil bytes); owed = owed; fits = tt; took = refl }, refl)

never-too_long : (left held : List ℕ) → Ends unlimited before (after left held) (Err fault.InputTooLong) → ⊥
never-too_long left held h = h.1

-- ---- what `compile` of edition 3 is to write is past its limit: nothing is written
abbrev overfull : Job
overfull = record { command = compile (record { plain = true; stats = false }) (codes "a"); files = codes "comfusy 3\n" ∷ []; given = passes; passes = passes }

output-too_long : (text : List ℕ) → length text ≡ 67108865 → Owes overfull.command overfull.files overfull.given overfull.passes [] text →
    Ends overfull before before (Err fault.OutputTooLong)
unfolding written_limit
output-too_long text e owed = (text, owed, omega (arith, e, ap length (append-nil text)), refl)

output-not_too_long : (text : List ℕ) → length text ≡ 67108864 → IsPast (output_most overfull.command (edition_for overfull.files)) (length (text ++ [])) → ⊥
unfolding written_limit
output-not_too_long text e h =
    let many : 67108864 < length (text ++ []) = h in omega (arith, e, ap length (append-nil text), many)

output-changed_though_too_long : (held : List ℕ) → Ends overfull before (after (codes "1\n2") held) (Err fault.OutputTooLong) → Some held ≡ Some (codes "x")
output-changed_though_too_long held h = h.3

-- language 2 has no such end
never-overfull : (late : Streams) → Ends compiling before late (Err fault.OutputTooLong) → ⊥
never-overfull late h = h.2

-- ---- a strict check: all its lines are written, and it ends by what they answer
abbrev checking : Strictness → Job
checking strictness = record { command = check strictness (codes "a"); files = codes "source" ∷ []; given = passes; passes = passes }

abbrev written : Streams
written = after (codes "1\n2") (codes "xlines\n")

check-no : AreSourceChecks (codes "a") (codes "source") (codes "lines\n") (answered one_no nothing_unmet) →
    Ends (checking Existing) before written (Err (fault.AnswersNo 1))
check-no checks = (
  [],
  tt,
  short [] (omega arith),
  record { text = codes "lines\n"; read = (refl, refl); owed = (answered one_no nothing_unmet, checks); fits = tt; took = refl },
  (answered one_no nothing_unmet, checks, refl),
)

-- what is undecided of uniqueness counts only where it is asked for
check-done : AreSourceChecks (codes "a") (codes "source") (codes "lines\n") (answered nothing_unmet one_undecided) → Ends (checking Existing) before written (Ok tt)
check-done checks = (
  [],
  tt,
  short [] (omega arith),
  record { text = codes "lines\n"; read = (refl, refl); owed = (answered nothing_unmet one_undecided, checks); fits = tt; took = refl },
  (answered nothing_unmet one_undecided, checks, refl),
)

check-undecided : AreSourceChecks (codes "a") (codes "source") (codes "lines\n") (answered nothing_unmet one_undecided) →
    Ends (checking Unique) before written (Err (fault.AnswersUndecided 1))
check-undecided checks = (
  [],
  tt,
  short [] (omega arith),
  record { text = codes "lines\n"; read = (refl, refl); owed = (answered nothing_unmet one_undecided, checks); fits = tt; took = refl },
  (answered nothing_unmet one_undecided, checks, refl),
)

-- no other command ends so
run-no : (late : Streams) → Ends job before late (Err (fault.AnswersNo 1)) → ⊥
run-no late h = cc (h.4)
