-- From reading a file to what the command does.
use Rattle.std.proofs.Common.{◌≡◌, inl, inr, sym, ap, subst, refl, ℕ, ◌<◌, ◌≤◌, ◌+◌, false, List, [], ◌∷◌, length, take, Option, Some, None, arith, rules}
use Rattle.std.specs.Prelude.{◌⊎◌, Result, Err, IfSome, Contains}
use Rattle.cf_io.specs.Bytes.{TookFront}
use Rattle.cf_io.specs.Causes.{Rose, one_more}
use Rattle.cf_io.specs.Seen.{ShelfSeen, SourceSeen, SinkSeen}
use Rattle.cf_pass.specs.Passes.{Told}
use Rattle.cf_words.specs.Commands.{Command, command_on, verify}
use Rattle.cf_answer.specs.Commands.{names_of, reads_input, calls_passes, text_most}
use Rattle.cf_answer.specs.Ends.{Ends, Does, Answers, AnswersOn, IsInOrder, source_alone, taken_by}
use Rattle.cf_answer.specs.Limits.{text_limit, written_limit, of_target, most_of, edition_for, input_most}
use Rattle.cf_tree.specs.declared.base.Edition.{Edition}
use Rattle.cf_tree.specs.declared.base.Edition.TheVariants.{Two, Three}
use Rattle.cf_answer.specs.Outside.{Outside, streams, AreTold, AreTexts, IsSparing, IsFrugal}
use Rattle.cf_answer.specs.Refusals.{too_long, Refuses}
use Rattle.cf_answer.specs.declared.status.Status.{Status}
use Rattle.cf_answer.specs.declared.status.Status.TheVariants.{NoMemory}
use Rattle.cf_answer.specs.declared.fault.Fault.{Fault}
use Rattle.cf_answer.specs.declared.fault.Fault.TheVariants as fault
use Rattle.cf_words.specs.declared.command.CommandKind.{CommandKind}
use Rattle.cf_words.specs.declared.command.CommandKind.TheVariants.{Compile, Run, Pre, Check, Exec, Prove, Emit, Goals}
use Rattle.cf_words.specs.declared.command.Flags.{Flags}
use Rattle.cf_words.specs.declared.command.ReplyForm.{ReplyForm}
use Rattle.cf_answer.proofs.CountLemmas.{one_fault}
use Rattle.cf_answer.proofs.EndedLemmas.{told_front, long_front}
use Rattle.cf_answer.proofs.FaultLemmas.{failed}
use Rattle.cf_answer.proofs.OutsideLemmas.{Untouched, nothing_read, none_read, none_written, no_fault, no_input_fault, no_out_fault, long_text}
use Rattle.cf_answer.proofs.PassLemmas.{unpassed}
use Rattle.cf_answer.proofs.StepLemmas.{left_of, left_told}

-- a command on one file
pub one_name : (kind : CommandKind) (flags : Flags) (form : ReplyForm) (name : List ℕ) → names_of (command_on kind flags form name) ≡ name ∷ []
one_name Compile flags form name = refl
one_name Run flags form name = refl
one_name Pre flags form name = refl
one_name (Check strictness) flags form name = refl
one_name Exec flags form name = refl
one_name Prove flags form name = refl
one_name (Emit e) flags form name = refl
one_name Goals flags form name = refl

pub reads_a_file : (kind : CommandKind) (flags : Flags) (form : ReplyForm) (name : List ℕ) → names_of (command_on kind flags form name) ≡ [] → ⊥
reads_a_file kind flags form name none = let one : names_of (command_on kind flags form name) ≡ name ∷ [] = one_name kind flags form name in cc

texts : (c : Command) (name : List ℕ) (told : List ℕ → Option (List ℕ)) (text : List ℕ) → names_of c ≡ name ∷ [] → AreTold (told name) text →
    AreTexts told (names_of c) (text ∷ [])
texts c name told text e h = subst (λ ns. AreTexts told ns (text ∷ [])) (sym e) (h, tt)

one_contains : (name : List ℕ) → Contains (name ∷ []) name
one_contains name = search rules

has_name : (c : Command) (name : List ℕ) → names_of c ≡ name ∷ [] → Contains (names_of c) name
has_name c name e = subst (λ ns. Contains ns name) (sym e) (one_contains name)

-- what reading a file for a command did
pub record FileRead (c : Command) (name : List ℕ) (before after : ShelfSeen) : Type 0 where
  pub limit : ℕ
  pub is : (files : List (List ℕ)) → limit ≡ text_most c (edition_for files)
  pub fetched : after.fetches ≡ one_more before.fetches
  pub most : (after.left ≡ before.left) ⊎ TookFront (limit + 1) (before.texts name) after.left
  pub given : after.given ≤ before.given + (limit + 1)
  pub ends : after.ends ≤ before.ends + 1

abbrev pub file_read : (c : Command) (name : List ℕ) (before after : ShelfSeen) (limit : ℕ) →
    ((files : List (List ℕ)) → limit ≡ text_most c (edition_for files)) →
    after.fetches ≡ one_more before.fetches →
    (after.left ≡ before.left) ⊎ TookFront (limit + 1) (before.texts name) after.left → after.given ≤ before.given + (limit + 1) →
    after.ends ≤ before.ends + 1 → FileRead c name before after
file_read c name before after limit is asked most given ends =
    record { limit = limit; is = is; fetched = asked; most = most; given = given; ends = ends }

frugal : (files : List (List ℕ)) (c : Command) (name : List ℕ) (before after : Outside) → names_of c ≡ name ∷ [] →
    FileRead c name before.shelf after.shelf → IsSparing (input_most files) before.streams.input after.streams.input →
    IsFrugal (taken_by c files) (names_of c) before after
frugal files c name before after e file input =
    let most = rw (file.is files) at file.most in
    let given = rw (file.is files) at file.given in record {
      fetches = rw e (omega (arith, file.fetched));
      file = elim most [ inl same ↦ inl same | inr took ↦ inr (name, has_name c name e, took) ];
      given = rw e (omega (arith, given));
      ends = rw e (omega (arith, file.ends));
      input = input;
    }

-- a file was read, and its text answered
pub text_does : (c : Command) (name : List ℕ) (given last : List Told) (before after : Outside) (text : List ℕ) (answer : Result (Unit {0}) Fault) →
    names_of c ≡ name ∷ [] →
    AreTold (before.shelf.texts name) text → AnswersOn c given last (text ∷ []) before.streams after.streams answer → FileRead c name before.shelf after.shelf →
    ((other : List ℕ) → after.shelf.faults other ≡ before.shelf.faults other) → Does c given last before after answer
text_does c name given last before after text answer e told h file same = record {
  files = text ∷ [];
  told = texts c name before.shelf.texts text e told;
  passed = h.passed;
  spared = h.spared;
  ends = h.ends;
  blames = record { files = λ _. same; file = λ i. absurd (h.not_file i); others = λ i. absurd (h.not_file i); input = h.input; out = h.out };
  frugal = frugal (text ∷ []) c name before after e file h.sparing;
}

-- the file failed
pub file_does : (c : Command) (name : List ℕ) (given : List Told) (before after : Outside) → names_of c ≡ name ∷ [] →
    FileRead c name before.shelf after.shelf → Untouched before after → Rose (before.shelf.faults name) (after.shelf.faults name) →
    ((other : List ℕ) → after.shelf.faults other ≤ one_more (before.shelf.faults other)) → Does c given given before after (Err fault.File)
file_does c name given before after e file none rose once = record {
  files = left_of (before.shelf.texts name) ∷ [];
  told = texts c name before.shelf.texts (left_of (before.shelf.texts name)) e (left_told (before.shelf.texts name));
  passed = unpassed (calls_passes c) given;
  spared = λ f r. refl;
  ends = (none_written before after none, refl);
  blames = record {
    files = λ n. absurd (n refl);
    file = λ _. (name, has_name c name e, one_fault (before.shelf.faults name) (after.shelf.faults name) rose (once name));
    others = λ _. once;
    input = no_input_fault before after none (λ i. cc);
    out = no_out_fault before after none (λ i. cc);
  };
  frugal = frugal (left_of (before.shelf.texts name) ∷ []) c name before after e file (none_read _ before after none);
}

-- a fault that names no object
inner_does : (c : Command) (name : List ℕ) (given : List Told) (before after : Outside) (text : List ℕ) (f : Fault) → names_of c ≡ name ∷ [] →
    AreTold (before.shelf.texts name) text →
    Ends (record { command = c; files = text ∷ []; given = given; passes = given }) before.streams after.streams (Err f) →
    FileRead c name before.shelf after.shelf → Untouched before after → ((other : List ℕ) → after.shelf.faults other ≡ before.shelf.faults other) →
    (failed f ≡ Err fault.File → ⊥) → (failed f ≡ Err fault.Input → ⊥) → (failed f ≡ Err fault.Output → ⊥) → Does c given given before after (Err f)
inner_does c name given before after text f e told ends file none same not_file not_input not_out = record {
  files = text ∷ [];
  told = texts c name before.shelf.texts text e told;
  passed = unpassed (calls_passes c) given;
  spared = λ f r. refl;
  ends = ends;
  blames = record {
    files = λ _. same;
    file = λ i. absurd (not_file i);
    others = λ i. absurd (not_file i);
    input = no_input_fault before after none not_input;
    out = no_out_fault before after none not_out;
  };
  frugal = frugal (text ∷ []) c name before after e file (none_read _ before after none);
}

-- memory ran out before a text was there
pub memory_does : (c : Command) (name : List ℕ) (given : List Told) (before after : Outside) → names_of c ≡ name ∷ [] →
    FileRead c name before.shelf after.shelf →
    Untouched before after →
    ((other : List ℕ) → after.shelf.faults other ≡ before.shelf.faults other) → Does c given given before after (Err fault.NoMemory)
memory_does c name given before after e file none same =
    inner_does c name given before after (left_of (before.shelf.texts name)) fault.NoMemory e (left_told (before.shelf.texts name))
    (inr (none_written before after none)) file none same (λ i. cc)
    (λ i. cc) (λ i. cc)

-- a target past the largest limit is past its own
past_its_own : (edition : Edition) (count : ℕ) → written_limit < count → most_of (of_target edition) < count
unfolding text_limit written_limit
past_its_own Two count h = omega (arith, h)
past_its_own Three count h = h

-- a text that is too long
long_refused : (kind : CommandKind) (flags : Flags) (form : ReplyForm) (name text : List ℕ) →
    text_most (command_on kind flags form name) (edition_for (text ∷ [])) < length text →
    Refuses (command_on kind flags form name) (text ∷ []) fault.TextTooLong
long_refused Compile flags form name text h = too_long h
long_refused Run flags form name text h = too_long h
long_refused Pre flags form name text h = too_long h
long_refused (Check strictness) flags form name text h = too_long h
long_refused Exec flags form name text h = too_long (past_its_own (edition_for (text ∷ [])) (length text) h)
long_refused Prove flags form name text h = too_long h
long_refused (Emit e) flags form name text h = too_long h
long_refused Goals flags form name text h = too_long h

pub long_does : (kind : CommandKind) (flags : Flags) (form : ReplyForm) (name : List ℕ) (given : List Told) (before after : Outside)
    (file : FileRead (command_on kind flags form name) name before.shelf after.shelf) →
    IfSome (before.shelf.texts name) (λ text. file.limit < length text) →
    Untouched before after → ((other : List ℕ) → after.shelf.faults other ≡ before.shelf.faults other) →
    Does (command_on kind flags form name) given given before after (Err fault.TextTooLong)
long_does kind flags form name given before after file long none same =
    let text = long_text file.limit (before.shelf.texts name) long in
    let past = subst (λ n. n < length text.0) (file.is (text.0 ∷ [])) text.2 in
    inner_does (command_on kind flags form name) name given before after text.0 fault.TextTooLong (one_name kind flags form name) text.1
    (long_refused kind flags form name text.0 past, none_written before after none) file none same
    (λ i. cc) (λ i. cc) (λ i. cc)

-- a file was read as far as it may be, and so much of its text was answered
pub front_does : (kind : CommandKind) (flags : Flags) (form : ReplyForm) (name : List ℕ) (given last : List Told) (before after : Outside)
    (file : FileRead (command_on kind flags form name) name before.shelf after.shelf) (front : List ℕ) (answer : Result (Unit {0}) Fault) →
    IfSome (before.shelf.texts name) (λ text. front ≡ take (file.limit + 1) text) →
    (length front ≤ file.limit → AnswersOn (command_on kind flags form name) given last (front ∷ []) before.streams after.streams answer) →
    (length front ≤ file.limit) ⊎ ((file.limit < length front) × (answer ≡ Err fault.TextTooLong) × (last ≡ given) × Untouched before after) →
    ((other : List ℕ) → after.shelf.faults other ≡ before.shelf.faults other) → Does (command_on kind flags form name) given last before after answer
front_does kind flags form name given last before after file front answer read answers (inl few) same =
    text_does (command_on kind flags form name) name given last before after front answer (one_name kind flags form name)
    (told_front file.limit (before.shelf.texts name) front read few) (answers few) file same
front_does kind flags form name given last before after file front answer read answers (inr (many, is, kept, none)) same =
    rw (is, kept) (long_does kind flags form name given before after file (long_front file.limit (before.shelf.texts name) front read many) none same)

-- where neither stream was touched
pub untouched_by : {I O A B C D : Type 0} (in_seen : I → SourceSeen) (out_seen : O → SinkSeen) (old new : I) (out_old out_new : O) →
    A ⊎ (B × C × D × (new ≡ old) × (out_new ≡ out_old)) →
    A ⊎ (B × C × D × (streams (in_seen new) (out_seen out_new) ≡ streams (in_seen old) (out_seen out_old)))
untouched_by in_seen out_seen old new out_old out_new (inl a) = inl a
untouched_by in_seen out_seen old new out_old out_new (inr (b, c, d, i, o)) = inr (b, c, d, rw (i, o) refl)

-- a command that reads no file
pub fileless_does : (c : Command) (given last : List Told) (before after : Outside) (answer : Result (Unit {0}) Fault) → names_of c ≡ [] →
    AnswersOn c given last [] before.streams after.streams answer → after.shelf ≡ before.shelf → Does c given last before after answer
fileless_does c given last before after answer none h same =
    let fetches : after.shelf.fetches ≡ before.shelf.fetches = ap (λ s. s.fetches) same in
    let bytes : after.shelf.given ≡ before.shelf.given = ap (λ s. s.given) same in
    let ends : after.shelf.ends ≡ before.shelf.ends = ap (λ s. s.ends) same in record {
      files = [];
      told = subst (λ ns. AreTexts before.shelf.texts ns []) (sym none) tt;
      passed = h.passed;
      spared = h.spared;
      ends = h.ends;
      blames = record {
        files = λ _ name. ap (λ s. s.faults name) same;
        file = λ i. absurd (h.not_file i);
        others = λ i. absurd (h.not_file i);
        input = h.input;
        out = h.out;
      };
      frugal = record {
        fetches = rw none (omega (arith, fetches));
        file = inl (ap (λ s. s.left) same);
        given = rw none (omega (arith, bytes));
        ends = rw none (omega (arith, ends));
        input = h.sparing;
      };
    }

-- there are texts under these names, as far as they are told
some_texts : (texts : List ℕ → Option (List ℕ)) (names : List (List ℕ)) → (files : List (List ℕ)) × AreTexts texts names files
some_texts texts [] = ([], tt)
some_texts texts (name ∷ names) =
    let more = some_texts texts names in (left_of (texts name) ∷ more.0, (left_told (texts name), more.1))

-- memory ran out before anything was done
not_of_a_file : failed fault.NoMemory ≡ Err fault.File → ⊥
not_of_a_file e = cc

pub nothing_answers : (command : Option Command) (given : List Told) (before : Outside) → Answers command given given before before (Err fault.NoMemory)
nothing_answers None given before = (inr refl, refl, refl)
nothing_answers (Some c) given before =
    let texts = some_texts before.shelf.texts (names_of c) in record {
      files = texts.0;
      told = texts.1;
      passed = unpassed (calls_passes c) given;
      spared = λ f r. refl;
      ends = inr refl;
      blames = record {
        files = λ _ name. refl;
        file = λ i. absurd (not_of_a_file i);
        others = λ i. absurd (not_of_a_file i);
        input = no_fault before.streams.input.faults before.streams.input.faults (λ i. cc) refl;
        out = no_fault before.streams.out.faults before.streams.out.faults (λ i. cc) refl;
      };
      frugal = record {
        fetches = omega arith;
        file = inl refl;
        given = omega arith;
        ends = omega arith;
        input = nothing_read _ before.streams.input;
      };
    }

-- where nothing was done, whatever was asked
pub none_asked : {A : Type 0} (command : Option Command) (input : A) → IfSome command (λ c. reads_input c ≡ false → input ≡ input)
none_asked None input = tt
none_asked (Some c) input = λ e. refl

pub none_fetched : {A : Type 0} (command : Option Command) (shelf : A) → IfSome command (λ c. names_of c ≡ [] → shelf ≡ shelf)
none_fetched None shelf = tt
none_fetched (Some c) shelf = λ e. refl

pub none_in_order : (command : Option Command) (shelf : ShelfSeen) → IfSome command (λ c. IsInOrder c shelf shelf NoMemory)
none_in_order None shelf = tt
none_in_order (Some (verify file steps)) shelf = source_alone (omega arith) (λ e. cc)
none_in_order (Some c) shelf = tt

-- a command on one file reads no second one
pub file_in_order : (kind : CommandKind) (flags : Flags) (form : ReplyForm) (name : List ℕ) (before after : ShelfSeen) (status : Status) →
    IsInOrder (command_on kind flags form name) before after status
file_in_order Compile flags form name before after status = tt
file_in_order Run flags form name before after status = tt
file_in_order Pre flags form name before after status = tt
file_in_order (Check strictness) flags form name before after status = tt
file_in_order Exec flags form name before after status = tt
file_in_order Prove flags form name before after status = tt
file_in_order (Emit e) flags form name before after status = tt
file_in_order Goals flags form name before after status = tt

pub order_of : (command : Option Command) (before after : ShelfSeen) (known status : Status) → status ≡ known →
    IfSome command (λ c. IsInOrder c before after known) → IfSome command (λ c. IsInOrder c before after status)
order_of command before after known status is h = subst (λ s. IfSome command (λ c. IsInOrder c before after s)) (sym is) h
