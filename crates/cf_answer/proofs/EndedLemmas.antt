-- Ends of commands with the messages about their sources.
use Rattle.std.proofs.Common.{◌≡◌, ◌∙◌, inl, inr, sym, ap, subst, refl, ℕ, ◌≤◌, ◌<◌, ◌+◌, List, length, take, Option, Some, None, arith}
use Rattle.std.proofs.lemmas.List.{length-take, take_all}
use Rattle.std.specs.Prelude.{◌⊎◌, Result, Ok, Err, IfSome}
use Rattle.cf_lex.specs.Editions.{edition_of}
use Rattle.cf_tree.specs.declared.base.Edition.{Edition}
use Rattle.cf_tree.specs.declared.base.Edition.TheVariants.{Two, Three}
use Rattle.cf_pass.specs.Passes.{Told}
use Rattle.cf_program.specs.declared.linearity.Linearity.{Linearity}
use Rattle.cf_words.specs.Commands.{Command}
use Rattle.cf_answer.specs.Ends.{Job, Ends, Does}
use Rattle.cf_answer.specs.Outside.{Outside, Streams, AreTold}
use Rattle.cf_answer.specs.Statuses.{IsEarly, status_of}
use Rattle.cf_answer.specs.Texts.{answer_line, fault_line}
use Rattle.cf_answer.specs.Written.{source_of, linearity_of, front_of, line_of, IsOfText, IsSaidIn, IsWrittenOf, IsWrittenBy}
use Rattle.cf_answer.specs.declared.ended.Ended.{Ended}
use Rattle.cf_answer.specs.declared.fault.Fault.{Fault}
use Rattle.cf_answer.specs.declared.fault.Fault.TheVariants as fault
use Rattle.cf_answer.proofs.FaultLemmas.{failed}
use Rattle.cf_answer.proofs.OutsideLemmas.{no_fault}
use Rattle.cf_answer.proofs.StepLemmas.{left_of, left_told}

-- ---- a message that finds no memory
-- a refusal of a text names no object, and nothing was written
text_still : (job : Job) (before after : Streams) (f : Fault) → IsOfText (failed f) → Ends job before after (Err f) → after.out.held ≡ before.out.held
text_still job before after fault.TextTooLong t h = h.1
text_still job before after (fault.BadByte p) t h = h.1
text_still job before after (fault.NumberPast p) t h = h.1
text_still job before after (fault.Syntax p) t h = h.1
text_still job before after (fault.Rule e) t h = h.1
text_still job before after (fault.Choose n r) t h = h.1
text_still job before after (fault.Weight f w) t h = h.1
text_still job before after (fault.Depth f d) t h = h.1
text_still job before after f t h = absurd t

text_unfailed : (f : Fault) → IsOfText (failed f) → (failed f ≡ Err fault.File → ⊥) × (failed f ≡ Err fault.Input → ⊥) × (failed f ≡ Err fault.Output → ⊥)
text_unfailed f t =
    (λ e. subst IsOfText e t, λ e. subst IsOfText e t, λ e. subst IsOfText e t)

unsaid_does : (c : Command) (given last : List Told) (before after : Outside) (f : Fault) → IsOfText (failed f) → Does c given last before after (Err f) →
    Does c given last before after (Err fault.NoMemory)
unsaid_does c given last before after f t d =
    let none = text_unfailed f t in record {
      files = d.files;
      told = d.told;
      passed = d.passed;
      spared = d.spared;
      ends = inr (text_still (record { command = c; files = d.files; given = given; passes = last }) before.streams after.streams f t d.ends);
      blames = record {
        files = λ _. d.blames.files none.0;
        file = λ e. cc;
        others = λ e. cc;
        input = no_fault before.streams.input.faults after.streams.input.faults (λ e. cc) (d.blames.input.same none.1);
        out = no_fault before.streams.out.faults after.streams.out.faults (λ e. cc) (d.blames.out.same none.2);
      };
      frugal = d.frugal;
    }

-- an end is that of its answer, or memory ran out for the message about the text that it refused
pub ended_does : (c : Command) (given last : List Told) (before after : Outside) (answer new : Result (Unit {0}) Fault) →
    (new ≡ answer) ⊎ ((new ≡ Err fault.NoMemory) × IsOfText answer) → Does c given last before after answer → Does c given last before after new
ended_does c given last before after answer new (inl same) d = subst (Does c given last before after) (sym same) d
ended_does c given last before after (Ok done) new (inr (is, t)) d = absurd t
ended_does c given last before after (Err f) new (inr (is, t)) d = subst (Does c given last before after) (sym is) (unsaid_does c given last before after f t d)

pub ended_early : {A : Type 0} (answer new : Result (Unit {0}) Fault) → (new ≡ answer) ⊎ ((new ≡ Err fault.NoMemory) × IsOfText answer) →
    (IsEarly (status_of answer) → A) → IsEarly (status_of new) → A
ended_early answer new (inl same) h e = h (subst (λ a. IsEarly (status_of a)) same e)
ended_early answer new (inr (is, t)) h e = absurd (subst (λ a. IsEarly (status_of a)) is e)

pub ended_usage : (answer new : Result (Unit {0}) Fault) → (new ≡ answer) ⊎ ((new ≡ Err fault.NoMemory) × IsOfText answer) →
    (answer ≡ Err fault.Usage → ⊥) → new ≡ Err fault.Usage → ⊥
ended_usage answer new (inl same) h e = h (sym same ∙ e)
ended_usage answer new (inr (is, t)) h e = cc

-- ---- what is written
-- what was read of a text
pub front_told : (most : ℕ) (told : Option (List ℕ)) (front : List ℕ) → IfSome told (λ text. front ≡ take most text) → length front ≤ most →
    (whole : List ℕ) × AreTold told whole × (front ≡ take most whole)
front_told most None front h short = (front, tt, sym (take_all most front short))
front_told most (Some text) front h short = (text, refl, h)

-- a text of which less was read than may be
pub whole_read : (most : ℕ) (whole front : List ℕ) → front ≡ take (most + 1) whole → length front ≤ most → front ≡ whole
whole_read most whole front read short =
    let count = ap length read ∙ length-take (most + 1) whole in
    read ∙ take_all (most + 1) whole (omega (arith, count, short))

pub past_whole : (most : ℕ) (whole front : List ℕ) → front ≡ take (most + 1) whole → most < length front → most < length whole
past_whole most whole front read many = let count = ap length read ∙ length-take (most + 1) whole in omega (arith, count, many)

pub told_front : (most : ℕ) (told : Option (List ℕ)) (front : List ℕ) → IfSome told (λ text. front ≡ take (most + 1) text) → length front ≤ most →
    AreTold told front
told_front most None front h few = tt
told_front most (Some text) front h few = sym (whole_read most text front h few)

pub long_front : (most : ℕ) (told : Option (List ℕ)) (front : List ℕ) → IfSome told (λ text. front ≡ take (most + 1) text) → most < length front →
    IfSome told (λ text. most < length text)
long_front most None front h many = tt
long_front most (Some text) front h many = let count = ap length h ∙ length-take (most + 1) text in omega (arith, count, many)

pub plain_line : (e : Ended) → e.message ≡ None → line_of e ≡ answer_line e.answer
plain_line e none = rw none refl

-- a fault of which its line is written in both editions
abbrev pub IsPlain : Fault → Type 0
IsPlain f = (edition : Edition) (how : Linearity) (name text : List ℕ) → IsSaidIn edition how name text f (fault_line f)

pub plain_file : IsPlain fault.File
plain_file Two how name text = refl
plain_file Three how name text = refl

pub plain_memory : IsPlain fault.NoMemory
plain_memory Two how name text = refl
plain_memory Three how name text = refl

written_of : (source : Option (List ℕ)) (how : Linearity) (texts : List ℕ → Option (List ℕ)) (f : Fault) → IsPlain f →
    IsWrittenOf source how texts (Err f) (fault_line f)
written_of None how texts f p = refl
written_of (Some name) how texts f p =
    let text = left_of (texts name) in (text, left_told (texts name), p (edition_of (front_of text)) how name text)

written_by : (command : Option Command) (texts : List ℕ → Option (List ℕ)) (f : Fault) → IsPlain f → IsWrittenBy command texts (Err f) (fault_line f)
written_by None texts f p = refl
written_by (Some c) texts f p = inl (written_of (source_of c) (linearity_of c) texts f p)

pub plain_written : (command : Option Command) (texts : List ℕ → Option (List ℕ)) (f : Fault) (e : Ended) → IsPlain f → e.answer ≡ Err f → e.message ≡ None →
    IsWrittenBy command texts e.answer (line_of e)
plain_written command texts f e p is none = rw (is, none) (written_by command texts f p)
