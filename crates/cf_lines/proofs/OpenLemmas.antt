-- From what was read of a file to what is opened.
use Rattle.std.proofs.Common.{◌≡◌, inl, inr, sym, subst, ap, refl, ℕ, ◌+◌, ◌≤◌, ◌<◌, true, false, not, List, [], ◌∷◌, length, take, Option, Some}
use Rattle.std.proofs.Common.{None, arith, rules}
use Rattle.std.specs.Prelude.{◌⊎◌, Result, Ok, Err, IfSome, Contains}
use Rattle.cf_io.specs.Causes.{Rose}
use Rattle.cf_io.specs.Seen.{ShelfSeen}
use Rattle.cf_tree.specs.declared.base.Edition.{Edition}
use Rattle.cf_tree.specs.declared.base.Edition.TheVariants.{Two, Three}
use Rattle.cf_tree.specs.declared.target.RawTarget.{RawTarget}
use Rattle.cf_pass.specs.Passes.{Told}
use Rattle.cf_words.specs.Commands.{Command, command_on, run, exec, file_command}
use Rattle.cf_words.specs.declared.command.CommandKind.{CommandKind}
use Rattle.cf_words.specs.declared.command.CommandKind.TheVariants.{Compile, Run, Pre, Check, Exec, Prove, Emit, Goals}
use Rattle.cf_words.specs.declared.command.FileCommand.{FileCommand}
use Rattle.cf_words.specs.declared.command.Flags.{Flags}
use Rattle.cf_words.specs.declared.command.ReplyForm.{ReplyForm}
use Rattle.cf_answer.specs.Commands.{names_of, text_most}
use Rattle.cf_answer.specs.Forms.{form_of}
use Rattle.cf_answer.specs.Limits.{text_limit, written_limit, of_target, most_of, edition_for}
use Rattle.cf_answer.specs.Outside.{AreTold, AreTexts}
use Rattle.cf_answer.specs.Owed.{Replier, by_target, AreReplies}
use Rattle.cf_answer.specs.Refusals.{too_long, IsRefusedTarget, Refuses}
use Rattle.cf_answer.specs.Steps.{IsVerdict, IsNamedRunner, replier_of}
use Rattle.cf_answer.specs.Written.{IsOfText, IsWrittenOf, line_of, linearity_of, source_of}
use Rattle.cf_answer.specs.declared.answerer.Replier.{Replier as DeclaredReplier}
use Rattle.cf_answer.specs.declared.answerer.Runner.{Runner}
use Rattle.cf_answer.specs.declared.ended.Ended.{Ended}
use Rattle.cf_answer.specs.declared.fault.Fault.{Fault}
use Rattle.cf_answer.specs.declared.fault.Fault.TheVariants as fault
use Rattle.cf_answer.proofs.FaultLemmas.{failed}
use Rattle.cf_answer.proofs.EndedLemmas.{IsPlain, front_told, past_whole, plain_file, plain_memory, plain_written, told_front}
use Rattle.cf_lines.specs.Opening.{answers_lines, RepliesFor, IsShut, IsShutBy, IsOpening, IsUnread, IsRead, IsShutFront, IsOpenedFront, IsUnasked}
use Rattle.cf_lines.specs.Opening.{no_lines, no_file, refused, out_of_memory, bad, long, lost}

-- ---- texts
-- what answers lines for `run`
pub run_replies : (flags : Flags) (form : ReplyForm) (file text : List ℕ) (given last : List Told) (r : Runner) →
    IsNamedRunner (not flags.plain) text given last r →
    RepliesFor (run flags form file) (text ∷ []) given last (replier_of (record { runner = r; form = form }))
run_replies flags form file text given last r is = λ ls replies h. (r.names.items, is.1, is.0 (form_of form r.names.items) ls replies h)

-- what answers lines for `exec`
pub exec_replies : (form : ReplyForm) (file text : List ℕ) (given last : List Told) (t : RawTarget) (r : DeclaredReplier) →
    RepliesFor (exec form file) (text ∷ []) given last (record { by = by_target t; form = form_of form [] }) →
    replier_of r ≡ record { by = by_target t; form = form_of form [] } → RepliesFor (exec form file) (text ∷ []) given last (replier_of r)
exec_replies form file text given last t r owed same = λ ls replies h. owed ls replies (subst (λ who. AreReplies who ls replies) same h)

-- a text that is within its limit was read as it is
pub text_read : (command : Command) (given last : List Told) (front : List ℕ) (r : Result DeclaredReplier Fault) → length front ≤ text_most command Two →
    IsVerdict (λ x. RepliesFor command (front ∷ []) given last (replier_of x)) (Refuses command (front ∷ [])) r → IsRead command given last front r
text_read command given last front (Ok x) few h = record { is = (few, h) }
text_read command given last front (Err f) few (inl refusal) = record { is = (bad few refusal, inr few) }
text_read command given last front (Err f) few (inr is) = record { is = (lost is, inr few) }

-- the same of a target, which is refused as it is whatever its name
pub target_read : (form : ReplyForm) (file : List ℕ) (given last : List Told) (front : List ℕ) (r : Result DeclaredReplier Fault) →
    length front ≤ text_most (exec form file) Two → ((name : List ℕ) (before after : List Told) →
    IsVerdict (λ x. RepliesFor (exec form name) (front ∷ []) before after (replier_of x)) (IsRefusedTarget front) r) →
    IsRead (exec form file) given last front r
target_read form file given last front r few h = text_read (exec form file) given last front r few (h file given last)

-- ---- files
-- a target past the largest limit is past its own
past_its_own : (edition : Edition) (count : ℕ) → written_limit < count → most_of (of_target edition) < count
unfolding text_limit written_limit
past_its_own Two count h = omega (arith, h)
past_its_own Three count h = h

-- a text that is too long is refused
long_refused : (kind : CommandKind) (flags : Flags) (form : ReplyForm) (name text : List ℕ) → text_most (command_on kind flags form name) Two < length text →
    Refuses (command_on kind flags form name) (text ∷ []) fault.TextTooLong
long_refused Compile flags form name text h = too_long h
long_refused Run flags form name text h = too_long h
long_refused Pre flags form name text h = too_long h
long_refused (Check strictness) flags form name text h = too_long h
long_refused Exec flags form name text h = too_long (past_its_own (edition_for (text ∷ [])) (length text) h)
long_refused Prove flags form name text h = too_long h
long_refused (Emit e) flags form name text h = too_long h
long_refused Goals flags form name text h = too_long h

-- a command on a file reads that one
one_name : (kind : CommandKind) (flags : Flags) (form : ReplyForm) (name : List ℕ) → names_of (command_on kind flags form name) ≡ name ∷ []
one_name Compile flags form name = refl
one_name Run flags form name = refl
one_name Pre flags form name = refl
one_name (Check strictness) flags form name = refl
one_name Exec flags form name = refl
one_name Prove flags form name = refl
one_name (Emit e) flags form name = refl
one_name Goals flags form name = refl

one_text : (c : FileCommand) (texts : List ℕ → Option (List ℕ)) (text : List ℕ) → AreTold (texts c.file.now) text →
    AreTexts texts (names_of (file_command c)) (text ∷ [])
one_text c texts text told = subst (λ ns. AreTexts texts ns (text ∷ [])) (sym (one_name c.kind c.flags c.form c.file.now)) (told, tt)

one_contains : (name : List ℕ) → Contains (name ∷ []) name
one_contains name = search rules

pub has_name : (c : FileCommand) → Contains (names_of (file_command c)) c.file.now
has_name c = subst (λ ns. Contains ns c.file.now) (sym (one_name c.kind c.flags c.form c.file.now)) (one_contains c.file.now)

-- why a file is not opened of which so much was read
front_shut : (c : FileCommand) (before after : ShelfSeen) (front whole : List ℕ) (f : Fault) → AreTold (before.texts c.file.now) whole →
    IfSome (before.texts c.file.now) (λ text. front ≡ take (text_most (file_command c) Two + 1) text) →
    front ≡ take (text_most (file_command c) Two + 1) whole → IsUnread (file_command c) front f → IsShut (Some (file_command c)) before after f
front_shut c before after front whole f told read whole_read (bad few refusal) =
    refused (file_command c) (front ∷ []) refl
    (one_text c before.texts front (told_front (text_most (file_command c) Two) (before.texts c.file.now) front read few)) refusal
front_shut c before after front whole f told read whole_read (long is many) =
    refused (file_command c) (whole ∷ []) refl (one_text c before.texts whole told)
    (subst (Refuses (file_command c) (whole ∷ [])) (sym is)
    (long_refused c.kind c.flags c.form c.file.now whole (past_whole (text_most (file_command c) Two) whole front whole_read many)))
front_shut c before after front whole f told read whole_read (lost is) = out_of_memory is

-- a file was read as far as it may be
pub file_opened : (c : FileCommand) (given last : List Told) (before after : ShelfSeen) (front : List ℕ) (r : Result DeclaredReplier Ended) →
    answers_lines (file_command c) ≡ true →
    IfSome (before.texts c.file.now) (λ text. front ≡ take (text_most (file_command c) Two + 1) text) →
    length front ≤ text_most (file_command c) Two + 1 → IsOpenedFront c given last front r → IsOpening (Some (file_command c)) given last before after r
file_opened c given last before after front (Ok r) lines read short opened = record {
  asked = file_command c;
  is = refl;
  lines = lines;
  files = front ∷ [];
  told = one_text c before.texts front (told_front (text_most (file_command c) Two) (before.texts c.file.now) front read opened.is.0);
  replies = opened.is.1;
}
file_opened c given last before after front (Err e) lines read short (f, is, why, written) =
    let whole = front_told (text_most (file_command c) Two + 1) (before.texts c.file.now) front read short in record {
      why = f;
      is = is;
      shut = front_shut c before after front whole.0 f whole.1 read whole.2 why;
      written = inl (written before.texts whole.0 whole.1 whole.2);
    }

-- the file failed
pub file_failed : (c : FileCommand) (before after : ShelfSeen) (e : Ended) → e.answer ≡ Err fault.File → e.message ≡ None →
    Rose (before.faults c.file.now) (after.faults c.file.now) → IsShutBy (Some (file_command c)) before after e
file_failed c before after e is none rose = record {
  why = fault.File;
  is = is;
  shut = no_file (file_command c) c.file.now refl refl (has_name c) rose;
  written = plain_written (Some (file_command c)) before.texts fault.File e plain_file is none;
}

-- memory ran out
pub memory_failed : (command : Option Command) (before after : ShelfSeen) (e : Ended) → e.answer ≡ Err fault.NoMemory →
    e.message ≡ None → IsShutBy command before after e
memory_failed command before after e is none = record {
  why = fault.NoMemory;
  is = is;
  shut = out_of_memory refl;
  written = plain_written command before.texts fault.NoMemory e plain_memory is none;
}

-- ---- words
-- the words are shown how the program is called, in both editions
plain_usage : IsPlain fault.Usage
plain_usage Two how name text = refl
plain_usage Three how name text = refl

-- words that are no command, or one that answers no lines
pub words_shut : (command : Option Command) (before after : ShelfSeen) (f : Fault) (e : Ended) → IsUnasked command f →
    e.answer ≡ Err f → e.message ≡ None → IsShutBy command before after e
words_shut command before after fault.Usage e none is message = record {
  why = fault.Usage;
  is = is;
  shut = no_lines refl none;
  written = plain_written command before.texts fault.Usage e plain_usage is message;
}
words_shut command before after fault.NoMemory e none is message = memory_failed command before after e is message
words_shut command before after f e none is message = absurd none

-- a command of another kind answers no lines
pub none_asked : (command : Option Command) (c : Command) → command ≡ Some c → answers_lines c ≡ false → IfSome command (λ d. answers_lines d ≡ false)
none_asked command c is lineless = subst (λ o. IfSome o (λ d. answers_lines d ≡ false)) (sym is) lineless

pub nothing_asked : (command : Option Command) → command ≡ None → IfSome command (λ d. answers_lines d ≡ false)
nothing_asked command is = subst (λ o. IfSome o (λ d. answers_lines d ≡ false)) (sym is) tt

-- no memory for a message
pub front_opened : (c : FileCommand) (front : List ℕ) (f : Fault) (e : Ended) →
    IsUnread (file_command c) front f → (e.answer ≡ Err f) ⊎ ((e.answer ≡ Err fault.NoMemory) × IsOfText (Err f)) →
    ((texts : List ℕ → Option (List ℕ)) (whole : List ℕ) → AreTold (texts c.file.now) whole → front ≡ take (text_most (file_command c) Two + 1) whole →
    IsWrittenOf (source_of (file_command c)) (linearity_of (file_command c)) texts e.answer (line_of e)) → IsShutFront c front e
front_opened c front f e why (inl is) written = (f, is, why, written)
front_opened c front f e why (inr is) written = (fault.NoMemory, is.0, lost refl, written)

pub short_or_long : {A : Type 0} (f : Fault) → (f ≡ fault.TextTooLong) ⊎ A → (failed f ≡ failed fault.TextTooLong) ⊎ A
short_or_long f (inl is) = inl (ap failed is)
short_or_long f (inr few) = inr few
