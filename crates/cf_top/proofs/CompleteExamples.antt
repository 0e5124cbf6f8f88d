-- Which status a call has where the texts of its files are told and no file failed, and what the answer to the words is.
use Rattle.std.proofs.Common.{◌≡◌, ◌⊎◌, inl, inr, ◌∙◌, sym, ap, refl, ℕ, true, false, List, [], ◌∷◌, length, map, Option, Some, None, subst, arith, codes}
use Rattle.std.specs.Prelude.{Result, Ok, Err, if◌then◌else◌}
use Rattle.std.specs.Str.{bytes_eq}
use Rattle.cf_io.specs.Causes.{one_more}
use Rattle.cf_io.specs.Limits.{input_limit}
use Rattle.cf_io.specs.Seen.{SourceSeen, SinkSeen}
use Rattle.cf_pass.specs.Passes.{Told as PassTold}
use Rattle.cf_words.specs.Commands.{Command, check, compile, run, verify}
use Rattle.cf_words.specs.declared.command.Strictness.{Strictness}
use Rattle.cf_words.specs.declared.command.Strictness.TheVariants.{Told, Existing, Unique}
use Rattle.cf_answer.specs.Outside.{Outside, outside}
use Rattle.cf_answer.specs.Owed.{AreSourceChecks}
use Rattle.cf_answer.specs.Refusals.{Refuses, IsAccepted}
use Rattle.cf_answer.specs.Statuses.{fault_status, status_of}
use Rattle.cf_answer.specs.Texts.{answer_line}
use Rattle.cf_answer.specs.Unmet.{answered, nothing_unmet, one_no, one_undecided}
use Rattle.cf_answer.specs.declared.fault.Fault.{Fault}
use Rattle.cf_answer.specs.declared.fault.Fault.TheVariants as fault
use Rattle.cf_answer.specs.declared.status.Status.{Status}
use Rattle.cf_answer.specs.declared.status.Status.TheVariants.{Done, Usage, File, Input, Output, Text, Types, InputLong, NoMemory, AnswersNo, AnswersUndecided}
use Rattle.cf_top.specs.Top.{IsShort, IsLong, IsJudged, IsOverfull, IsComplete, Completes, TopAnswer}

abbrev compiles : Command
compiles = compile (record { plain = false; stats = false }) (codes "a")

abbrev runs : Command
runs = run (record { plain = false; stats = false }) (record { key = false; jsonl = false }) (codes "a")

abbrev strict : Strictness → Command
strict strictness = check strictness (codes "a")

abbrev one_file : List (List ℕ)
one_file = codes "1" ∷ []

-- ---- the bound of an input
short-at_the_limit : (bytes : List ℕ) → length bytes ≡ 16777216 → IsShort (Some input_limit) true (Some bytes)
unfolding input_limit
short-at_the_limit bytes e = (bytes, refl, omega (arith, e))

same-input : (b c : List ℕ) → Some b ≡ Some c → b ≡ c
same-input b c e = cc e

not-short_past_the_limit : (bytes : List ℕ) → length bytes ≡ 16777217 → IsShort (Some input_limit) true (Some bytes) → ⊥
unfolding input_limit
not-short_past_the_limit bytes e h = omega (arith, e, ap length (same-input bytes h.0 h.1), h.2)

long-past_the_limit : (bytes : List ℕ) → length bytes ≡ 16777217 → IsLong (Some input_limit) true (Some bytes)
unfolding input_limit
long-past_the_limit bytes e = (bytes, refl, omega (arith, e))

not-long_at_the_limit : (bytes : List ℕ) → length bytes ≡ 16777216 → IsLong (Some input_limit) true (Some bytes) → ⊥
unfolding input_limit
not-long_at_the_limit bytes e h = omega (arith, e, ap length (same-input bytes h.0 h.1), h.2)

-- ---- statuses
one-of : (s : Status) → (s ≡ Text) ⊎ (s ≡ NoMemory) → (s ≡ Text → ⊥) → (s ≡ NoMemory → ⊥) → ⊥
one-of s (inl e) a b = a e
one-of s (inr e) a b = b e

-- a refused text has the status of its fault, also where the input or `out` failed
refused-text : (s : Status) → Refuses compiles one_file fault.TextTooLong → IsComplete compiles one_file None s → (s ≡ Text) ⊎ (s ≡ NoMemory)
refused-text s r c = c.refused fault.TextTooLong r

text-is_told : ((f : Fault) → Refuses compiles one_file f → fault_status f ≡ Text) → Refuses compiles one_file fault.TextTooLong →
    IsComplete compiles one_file None Text
text-is_told only r = record {
  refused = λ f h. inl (sym (only f h));
  done = λ accepted i o s. absurd (accepted fault.TextTooLong r);
  too_long = λ accepted i o l. absurd (accepted fault.TextTooLong r);
}

done-though_refused : Refuses compiles one_file fault.TextTooLong → IsComplete compiles one_file None Done → ⊥
done-though_refused r c = one-of Done (c.refused fault.TextTooLong r) (λ e. cc e) (λ e. cc e)

output-though_refused : Refuses compiles one_file fault.TextTooLong → IsComplete compiles one_file None Output → ⊥
output-though_refused r c = one-of Output (c.refused fault.TextTooLong r) (λ e. cc e) (λ e. cc e)

-- an accepted one is done, or memory ran out; it has any status where the input or `out` failed
module _ (accepted : IsAccepted compiles one_file) where
  accepted-done : IsComplete compiles one_file None Done
  accepted-done = record { refused = λ f r. absurd (accepted f r); done = λ a i o s. inl ([], Ok tt, refl, refl); too_long = λ a i o l. absurd l }

  accepted-without_memory : IsComplete compiles one_file None NoMemory
  accepted-without_memory = record { refused = λ f r. absurd (accepted f r); done = λ a i o s. inr (inl refl); too_long = λ a i o l. absurd l }

  accepted-output : IsComplete compiles one_file None Output
  accepted-output = record { refused = λ f r. absurd (accepted f r); done = λ a i o s. absurd (o refl); too_long = λ a i o l. absurd l }

  accepted-input : IsComplete compiles one_file None Input
  accepted-input = record { refused = λ f r. absurd (accepted f r); done = λ a i o s. absurd (i refl); too_long = λ a i o l. absurd l }

  accepted-not_refused : IsComplete compiles one_file None Types → ⊥
  accepted-not_refused c = no (c.done accepted (λ e. cc e) (λ e. cc e) tt)
    where
      no : IsJudged compiles one_file Types ⊎ (Types ≡ NoMemory) ⊎ IsOverfull compiles one_file Types → ⊥
      no (inl (text, answer, ok, is)) = let same : Types ≡ Done = is ∙ ap status_of ok in cc same
      no (inr (inl e)) = cc e
      no (inr (inr o)) = cc (o.is)

-- `run` on a short input is done, and on a long one that is told
module _ (accepted : IsAccepted runs one_file) where
  short-done : IsShort (Some input_limit) true (Some (codes "1\n")) → IsComplete runs one_file (Some (codes "1\n")) InputLong → ⊥
  short-done short c = no (c.done accepted (λ e. cc e) (λ e. cc e) short)
    where
      no : IsJudged runs one_file InputLong ⊎ (InputLong ≡ NoMemory) ⊎ IsOverfull runs one_file InputLong → ⊥
      no (inl (text, answer, ok, is)) = let same : InputLong ≡ Done = is ∙ ap status_of ok in cc same
      no (inr (inl e)) = cc e
      no (inr (inr o)) = cc (o.is)

  long-told : (bytes : List ℕ) → length bytes ≡ 16777217 → IsComplete runs one_file (Some bytes) InputLong
  long-told bytes e = record {
    refused = λ f r. absurd (accepted f r);
    done = λ a i o s. absurd (not-short_past_the_limit bytes e s);
    too_long = λ a i o l. inl refl;
  }

  long-not_done : (bytes : List ℕ) → length bytes ≡ 16777217 → IsComplete runs one_file (Some bytes) Done → ⊥
  long-not_done bytes e c = no (c.too_long accepted (λ k. cc k) (λ k. cc k) (long-past_the_limit bytes e))
    where
      no : (Done ≡ InputLong) ⊎ (Done ≡ NoMemory) → ⊥
      no (inl k) = cc k
      no (inr k) = cc k

  -- an input that is not told may be short or long
  untold-done : IsComplete runs one_file None Done
  untold-done = record {
    refused = λ f r. absurd (accepted f r);
    done = λ a i o s. inl ([], Ok tt, refl, refl);
    too_long = λ a i o l. absurd (no l.0 l.1);
  }
    where
      no : (bytes : List ℕ) → None ≡ Some bytes → ⊥
      no bytes e = cc e

-- ---- a strict check
-- it has the status of what its lines answer
strict-no : (text : List ℕ) → AreSourceChecks (codes "a") (codes "1") text (answered one_no one_undecided) → IsJudged (strict Existing) one_file AnswersNo
strict-no text checks = (text, Err (fault.AnswersNo 1), (answered one_no one_undecided, checks, refl), refl)

-- of uniqueness it is asked by `--unique` alone
strict-not_asked : (text : List ℕ) → AreSourceChecks (codes "a") (codes "1") text (answered nothing_unmet one_undecided) → IsJudged (strict Existing) one_file Done
strict-not_asked text checks = (text, Ok tt, (answered nothing_unmet one_undecided, checks, refl), refl)

strict-undecided : (text : List ℕ) → AreSourceChecks (codes "a") (codes "1") text (answered nothing_unmet one_undecided) →
    IsJudged (strict Unique) one_file AnswersUndecided
strict-undecided text checks = (text, Err (fault.AnswersUndecided 1), (answered nothing_unmet one_undecided, checks, refl), refl)

-- without the flags it is done
check-done : (text : List ℕ) → AreSourceChecks (codes "a") (codes "1") text (answered one_no one_no) → IsJudged (strict Told) one_file Done
check-done text checks = (text, Ok tt, (answered one_no one_no, checks, refl), refl)

-- no other command has these statuses
compile-not_no : IsJudged compiles one_file AnswersNo → ⊥
compile-not_no (text, answer, ok, is) = let same : AnswersNo ≡ Done = is ∙ ap status_of ok in cc same

-- ---- the texts of the files
abbrev texts : List ℕ → Option (List ℕ)
texts name = if bytes_eq name (codes "a") then Some (codes "1") else (if bytes_eq name (codes "b") then Some (codes "2") else None)

abbrev input : Option (List ℕ) → SourceSeen
input left = record { left = left; faults = 0; given = 0; ends = 0 }

abbrev out : SinkSeen
out = record { held = Some []; faults = 0 }

abbrev before : Outside
before = outside (record { texts = texts; left = None; faults = λ name. 0; fetches = 0; given = 0; ends = 0 }) (input (Some (codes "1\n"))) out

completes-by_its_text : Refuses compiles one_file fault.TextTooLong → Completes compiles before Done → ⊥
completes-by_its_text r c = one-of Done ((c one_file refl (λ e. cc e)).refused fault.TextTooLong r) (λ e. cc e) (λ e. cc e)

-- the input that is left
completes-by_its_input : IsAccepted runs one_file → IsShort (Some input_limit) true (Some (codes "1\n")) → Completes runs before InputLong → ⊥
completes-by_its_input accepted short c = short-done accepted short (c one_file refl (λ e. cc e))

-- the texts of two files in order
completes-in_order : Refuses (verify (codes "a") (codes "b")) (codes "1" ∷ codes "2" ∷ []) fault.TextTooLong →
    Completes (verify (codes "a") (codes "b")) before Done → ⊥
completes-in_order r c = no ((c (codes "1" ∷ codes "2" ∷ []) refl (λ e. cc e)).refused fault.TextTooLong r)
  where
    no : (Done ≡ Text) ⊎ (Done ≡ NoMemory) → ⊥
    no (inl e) = cc e
    no (inr e) = cc e

-- nothing is said where a file failed, and where a text is not told
completes-behind_a_fault : (command : Command) → Completes command before File
completes-behind_a_fault command files told whole = absurd (whole refl)

completes-untold : (status : Status) → Completes (compile (record { plain = false; stats = false }) (codes "c")) before status
completes-untold status files told whole = absurd (no files told)
  where
    no : (fs : List (List ℕ)) → ◌≡◌ {A = List (Option (List ℕ))} (None ∷ []) (map (λ f. Some f) fs) → ⊥
    no [] e = cc e
    no (f ∷ fs) e = cc e

-- ---- the answer to words that are no command
abbrev passes : List PassTold
passes = record { name = codes "fold"; tally = 12; turns = 3; makes = λ n c. c; whole = true } ∷ []

abbrev errors : List ℕ → ℕ → SinkSeen
errors bytes faults = record { held = Some bytes; faults = faults }

abbrev usage : List ℕ
usage = codes "usage: comfusy compile|pre|check|run|exec|prove FILE, or comfusy emit LANG FILE, or comfusy verify FILE STEPS, or comfusy gen N, or comfusy --help\n"

refused-words : TopAnswer None passes before before (errors [] 0) (errors usage 0) Usage
refused-words = record {
  answer = Err fault.Usage;
  passes = passes;
  is = refl;
  answers = (inl refl, refl, refl);
  line = usage;
  written = refl;
  told = record { prefix = (usage, [], refl, refl); whole = inr (refl, refl) };
}

-- errors that fail change no status
refused-words_untold : TopAnswer None passes before before (errors [] 0) (errors (codes "usa") 1) Usage
refused-words_untold = record {
  answer = Err fault.Usage;
  passes = passes;
  is = refl;
  answers = (inl refl, refl, refl);
  line = usage;
  written = refl;
  told = record {
    prefix = (
      codes "usa",
      codes "ge: comfusy compile|pre|check|run|exec|prove FILE, or comfusy emit LANG FILE, or comfusy verify FILE STEPS, or comfusy gen N, or comfusy --help\n",
      refl,
      refl,
    );
    whole = inl refl;
  };
}

-- the status is that of the answer
done-words : (errors_after : SinkSeen) → TopAnswer None passes before before (errors [] 0) errors_after Done → ⊥
done-words errors_after t = no t.answer t.is t.answers.0
  where
    no : (answer : Result (Unit {0}) Fault) → Done ≡ status_of answer → (answer ≡ Err fault.Usage) ⊎ (answer ≡ Err fault.NoMemory) → ⊥
    no answer is (inl e) = let same : Done ≡ Usage = subst (λ a. Done ≡ status_of a) e is in cc same
    no answer is (inr e) = let same : Done ≡ NoMemory = subst (λ a. Done ≡ status_of a) e is in cc same

-- and the line is that of the answer
silent-words : TopAnswer None passes before before (errors [] 0) (errors [] 0) Usage → ⊥
silent-words t =
    no t.answer t.answers.0 (subst (λ l. (◌≡◌ {A = ℕ} 0 (one_more 0)) ⊎ ((◌≡◌ {A = List ℕ} [] l) × ◌≡◌ {A = ℕ} 0 0)) t.written t.told.whole)
  where
    no : (answer : Result (Unit {0}) Fault) → (answer ≡ Err fault.Usage) ⊎ (answer ≡ Err fault.NoMemory) →
        (◌≡◌ {A = ℕ} 0 (one_more 0)) ⊎ (([] ≡ answer_line answer) × ◌≡◌ {A = ℕ} 0 0) → ⊥
    no answer (inl e) (inl f) = omega (arith, f)
    no answer (inr e) (inl f) = omega (arith, f)
    no answer (inl e) (inr f) = let line : [] ≡ usage = f.0 ∙ ap answer_line e in cc line
    no answer (inr e) (inr f) = let line : [] ≡ codes "no memory\n" = f.0 ∙ ap answer_line e in cc line
