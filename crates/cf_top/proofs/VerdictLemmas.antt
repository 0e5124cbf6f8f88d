-- How a call ends where nothing outside failed.
use Rattle.std.proofs.Common.{◌≡◌, ◌∙◌, inl, inr, sym, ap, subst, refl, ℕ, ◌+◌, Bool, true, false, List, [], ◌∷◌, ◌++◌, length, map, Option, Some, None, arith, append-nil, length-append}
use Rattle.std.specs.Prelude.{◌⊎◌, Result, Ok, Err, IfSome, IsSomeAnd, OnOk, OnErr, Contains}
use Rattle.cf_io.specs.Causes.{Rose}
use Rattle.cf_io.specs.Limits.{IsWithin, IsPast}
use Rattle.cf_io.specs.Seen.{SinkSeen}
use Rattle.cf_pass.specs.Passes.{Told}
use Rattle.cf_words.specs.Commands.{Command, compile, prove}
use Rattle.cf_answer.specs.Commands.{names_of, reads_input}
use Rattle.cf_answer.specs.Ends.{Job, Reads, IsReadUp, Wrote, IsDone, Ends, Does, Answers}
use Rattle.cf_answer.specs.Limits.{input_most}
use Rattle.cf_answer.specs.Outside.{Outside, Streams, AreTold, AreTexts}
use Rattle.cf_answer.specs.Refusals.{Refuses, IsAccepted}
use Rattle.cf_answer.specs.Statuses.{fault_status, status_of}
use Rattle.cf_top.specs.Top.{IsShort, IsLong, IsJudged, IsOverfull, IsComplete, Completes, TopAnswer}
use Rattle.cf_answer.specs.declared.fault.Fault.{Fault}
use Rattle.cf_answer.specs.declared.fault.Fault.TheVariants as fault
use Rattle.cf_answer.specs.declared.status.Status.{Status}
use Rattle.cf_answer.specs.declared.status.Status.TheVariants.{Usage, File, Input, Output, InputLong, NoMemory}
use Rattle.cf_answer.proofs.CountLemmas.{rose_once}
use Rattle.cf_answer.proofs.OwedLemmas.{refused_alike, owed_accepted}

-- the texts are those that are told
texts_same : (texts : List ℕ → Option (List ℕ)) (names files other : List (List ℕ)) → map texts names ≡ map Some files → AreTexts texts names other →
    other ≡ files
texts_same texts [] [] [] e h = refl
texts_same texts [] [] (o ∷ other) e h = absurd h
texts_same texts [] (f ∷ files) other e h = cc
texts_same texts (n ∷ names) [] other e h = cc
texts_same texts (n ∷ names) (f ∷ files) [] e h = absurd h
texts_same texts (n ∷ names) (f ∷ files) (o ∷ other) e h =
    let first : texts n ≡ Some f = cc in
    let more : map texts names ≡ map Some files = cc in
    let same : f ≡ o = subst (λ v. AreTold v o) first h.0 in
    rw (texts_same texts names files other more h.1, same) refl

-- what was read of an input that is told
within_not_past : (most : Option ℕ) (count : ℕ) → IsWithin most count → IsPast most count → ⊥
within_not_past None count few many = many
within_not_past (Some most) count few many = omega (arith, few, many)

past_more : (most : Option ℕ) (count more : ℕ) → IsPast most count → IsPast most (count + more)
past_more None count more many = many
past_more (Some most) count more many = omega (arith, many)

none_past : (most : Option ℕ) → IsPast most 0 → ⊥
none_past None many = many
none_past (Some most) many = omega (arith, many)

read_all : (most : Option ℕ) (reading : Bool) (old new : Option (List ℕ)) (front : List ℕ) → Reads reading old new front → IsReadUp reading new →
    IsWithin most (length front) → IsLong most reading old → ⊥
read_all most false old new front r up few long = long
read_all most true None new front r up few (bytes, is, many) = cc
read_all most true (Some xs) None front r up few long = r
read_all most true (Some xs) (Some ys) front r up few (bytes, is, many) =
    let same : xs ≡ bytes = cc in
    let whole : bytes ≡ front = sym same ∙ r ∙ rw (up, append-nil) refl in
    within_not_past most (length front) few (subst (λ v. IsPast most (length v)) whole many)

read_past : (most : Option ℕ) (reading : Bool) (old new : Option (List ℕ)) (front : List ℕ) → Reads reading old new front → IsPast most (length front) →
    IsShort most reading old → ⊥
read_past most false old new front r many short = let none : front ≡ [] = r.1 in none_past most (subst (λ v. IsPast most (length v)) none many)
read_past most true None new front r many (bytes, is, few) = cc
read_past most true (Some xs) None front r many short = r
read_past most true (Some xs) (Some ys) front r many (bytes, is, few) =
    let same : xs ≡ bytes = cc in
    let whole : bytes ≡ front ++ ys = sym same ∙ r in
    within_not_past most (length (front ++ ys)) (subst (λ v. IsWithin most (length v)) whole few)
    (subst (IsPast most) (sym (length-append front ys)) (past_more most (length front) (length ys) many))

-- how a call ends where no file failed
data Settled (command : Command) (files : List (List ℕ)) (input : Option (List ℕ)) (status : Status) : Type 0 where
  no_memory : status ≡ NoMemory → Settled command files input status
  input_failed : IsAccepted command files → status ≡ Input → Settled command files input status
  out_failed : IsAccepted command files → status ≡ Output → Settled command files input status
  stopped : (f : Fault) → Refuses command files f → status ≡ fault_status f → Settled command files input status
  finished : IsAccepted command files → (IsLong (input_most files) (reads_input command) input → ⊥) → IsJudged command files status →
      Settled command files input status
  overfull : IsAccepted command files → IsOverfull command files status → Settled command files input status
  overlong : IsAccepted command files → (IsShort (input_most files) (reads_input command) input → ⊥) → status ≡ InputLong → Settled command files input status

wrote_accepted : (job : Job) (before after : Streams) (Took : Option (List ℕ) → Option (List ℕ) → List ℕ → Type 0) (front : List ℕ) (ls : List (List ℕ))
    (end : List ℕ) →
    Wrote job before after Took front ls end → IsAccepted job.command job.files
wrote_accepted job before after Took front ls end w = owed_accepted job.command job.files job.given job.passes ls w.text w.owed

judged_by : (job : Job) (before after : Streams) (status : Status) (answer : Result (Unit {0}) Fault) → IsDone job before after answer →
    status ≡ status_of answer → Settled job.command job.files before.input.left status
judged_by job before after status answer h is =
    finished (wrote_accepted job before after _ _ _ _ h.3)
    (read_all (input_most job.files) (reads_input job.command) before.input.left after.input.left h.0 h.3.read h.1 h.2) (h.3.text, answer, h.4, is)

settled_by : (job : Job) (before after : Streams) (status : Status) (answer : Result (Unit {0}) Fault) → Ends job before after answer →
    status ≡ status_of answer → (status ≡ File → ⊥) →
    Settled job.command job.files before.input.left status
settled_by job before after status (Ok done) h is nf = judged_by job before after status (Ok tt) h is
settled_by job before after status (Err (fault.AnswersNo n)) h is nf = judged_by job before after status (Err (fault.AnswersNo n)) h is
settled_by job before after status (Err (fault.AnswersUndecided n)) h is nf = judged_by job before after status (Err (fault.AnswersUndecided n)) h is
settled_by job before after status (Err fault.Input) h is nf = input_failed (wrote_accepted job before after _ _ _ _ h.3) is
settled_by job before after status (Err fault.InputTooLong) h is nf =
    overlong (wrote_accepted job before after _ _ _ _ h.2)
    (read_past (input_most job.files) (reads_input job.command) before.input.left after.input.left h.0 h.2.read h.1) is
settled_by job before after status (Err fault.OutputTooLong) h is nf =
    overfull (owed_accepted job.command job.files job.given job.passes [] h.0 h.1)
    (record { is = is; given = job.given; passes = job.passes; text = h.0; owed = h.1; past = h.2 })
settled_by job before after status (Err fault.Output) h is nf = out_failed (wrote_accepted job before after _ _ _ _ h.3) is
settled_by job before after status (Err fault.NoMemory) h is nf = no_memory is
settled_by job before after status (Err fault.File) h is nf = absurd (nf is)
settled_by job before after status (Err f) h is nf = stopped f h.0 is

when_refused : (command : Command) (files : List (List ℕ)) (input : Option (List ℕ)) (status : Status) → Settled command files input status → (f : Fault) →
    Refuses command files f → (status ≡ fault_status f) ⊎ (status ≡ NoMemory)
when_refused command files input status (no_memory is) f h = inr is
when_refused command files input status (input_failed a is) f h = absurd (a f h)
when_refused command files input status (out_failed a is) f h = absurd (a f h)
when_refused command files input status (stopped g i is) f h = inl (is ∙ refused_alike command files g f i h)
when_refused command files input status (finished a n is) f h = absurd (a f h)
when_refused command files input status (overfull a o) f h = absurd (a f h)
when_refused command files input status (overlong a n is) f h = absurd (a f h)

when_short : (command : Command) (files : List (List ℕ)) (input : Option (List ℕ)) (status : Status) → Settled command files input status →
    IsAccepted command files → (status ≡ Input → ⊥) → (status ≡ Output → ⊥) →
    IsShort (input_most files) (reads_input command) input → IsJudged command files status ⊎ (status ≡ NoMemory) ⊎ IsOverfull command files status
when_short command files input status (no_memory is) a ni nout short = inr (inl is)
when_short command files input status (overfull b o) a ni nout short = inr (inr o)
when_short command files input status (input_failed b is) a ni nout short = absurd (ni is)
when_short command files input status (out_failed b is) a ni nout short = absurd (nout is)
when_short command files input status (stopped g i is) a ni nout short = absurd (a g i)
when_short command files input status (finished b n is) a ni nout short = inl is
when_short command files input status (overlong b n is) a ni nout short = absurd (n short)

-- a command with a limit of what it writes reads no input
reads_no_limit : (command : Command) (files : List (List ℕ)) (reading : Bool) (input : Option (List ℕ)) (status : Status) → reads_input command ≡ reading →
    IsOverfull command files status → IsLong (input_most files) reading input → ⊥
reads_no_limit command files false input status e o long = long
reads_no_limit (compile flags file) files true input status e o long = cc
reads_no_limit (prove file) files true input status e o long = cc
reads_no_limit command files true input status e o long = o.past

when_long : (command : Command) (files : List (List ℕ)) (input : Option (List ℕ)) (status : Status) → Settled command files input status →
    IsAccepted command files → (status ≡ Input → ⊥) → (status ≡ Output → ⊥) →
    IsLong (input_most files) (reads_input command) input → (status ≡ InputLong) ⊎ (status ≡ NoMemory)
when_long command files input status (no_memory is) a ni nout long = inr is
when_long command files input status (input_failed b is) a ni nout long = absurd (ni is)
when_long command files input status (out_failed b is) a ni nout long = absurd (nout is)
when_long command files input status (stopped g i is) a ni nout long = absurd (a g i)
when_long command files input status (finished b n is) a ni nout long = absurd (n long)
when_long command files input status (overfull b o) a ni nout long = absurd (reads_no_limit command files (reads_input command) input status refl o long)
when_long command files input status (overlong b n is) a ni nout long = inl is

completed : (command : Command) (files : List (List ℕ)) (input : Option (List ℕ)) (status : Status) → Settled command files input status →
    IsComplete command files input status
completed command files input status s =
    record {
      refused = when_refused command files input status s;
      done = when_short command files input status s;
      too_long =
          when_long command files input status s;
    }

does_complete : (c : Command) (given last : List Told) (before after : Outside) (status : Status) (answer : Result (Unit {0}) Fault) →
    Does c given last before after answer → status ≡ status_of answer →
    (files : List (List ℕ)) → map before.shelf.texts (names_of c) ≡ map Some files → (status ≡ File → ⊥) → IsComplete c files before.streams.input.left status
does_complete c given last before after status answer d is files told nf =
    let same : d.files ≡ files = texts_same before.shelf.texts (names_of c) files d.files told d.told in
    subst (λ v. IsComplete c v before.streams.input.left status) same
    (completed c d.files before.streams.input.left status
    (settled_by (record { command = c; files = d.files; given = given; passes = last }) before.streams after.streams status answer d.ends is nf))

pub completes : (command : Option Command) (given : List Told) (before after : Outside) (errors_before errors_after : SinkSeen) (status : Status) →
    TopAnswer command given before after errors_before errors_after status → IfSome command (λ c. Completes c before status)
completes None given before after errors_before errors_after status t = tt
completes (Some c) given before after errors_before errors_after status t = does_complete c given t.passes before after status t.answer t.answers t.is

-- words that are no command are refused, or memory ran out
pub no_command : (command : Option Command) (given last : List Told) (before after : Outside) (answer : Result (Unit {0}) Fault) (status : Status) →
    command ≡ None →
    Answers command given last before after answer → status ≡ status_of answer → (status ≡ Usage) ⊎ (status ≡ NoMemory)
no_command None given last before after answer status none h is =
    elim h.0 [ inl usage ↦ inl (is ∙ ap status_of usage) | inr memory ↦ inr (is ∙ ap status_of memory) ]
no_command (Some c) given last before after answer status none h is = cc

-- which object failed
pub file_rose : (command : Option Command) (given last : List Told) (before after : Outside) (answer : Result (Unit {0}) Fault) →
    Answers command given last before after answer → answer ≡ Err fault.File →
    IsSomeAnd command (λ c. (name : List ℕ) × Contains (names_of c) name × Rose (before.shelf.faults name) (after.shelf.faults name))
file_rose None given last before after answer h e = elim h.0 [ inl usage ↦ cc | inr memory ↦ cc ]
file_rose (Some c) given last before after answer h e = let f = h.blames.file e in (f.0, f.1, rose_once (before.shelf.faults f.0) (after.shelf.faults f.0) f.2)

pub input_rose : (command : Option Command) (given last : List Told) (before after : Outside) (answer : Result (Unit {0}) Fault) →
    Answers command given last before after answer → answer ≡ Err fault.Input → Rose before.streams.input.faults after.streams.input.faults
input_rose None given last before after answer h e = elim h.0 [ inl usage ↦ cc | inr memory ↦ cc ]
input_rose (Some c) given last before after answer h e = rose_once before.streams.input.faults after.streams.input.faults (h.blames.input.rose e)

pub out_rose : (command : Option Command) (given last : List Told) (before after : Outside) (answer : Result (Unit {0}) Fault) →
    Answers command given last before after answer → answer ≡ Err fault.Output → Rose before.streams.out.faults after.streams.out.faults
out_rose None given last before after answer h e = elim h.0 [ inl usage ↦ cc | inr memory ↦ cc ]
out_rose (Some c) given last before after answer h e = rose_once before.streams.out.faults after.streams.out.faults (h.blames.out.rose e)

-- all was written, or the sink of errors failed once
pub told_or_rose : {A B C E : Type 0} (r : Result (Unit {0}) E) → OnOk r A → OnOk r C → OnErr r B → B ⊎ (A × C)
told_or_rose (Ok done) a c b = inr (a, c)
told_or_rose (Err e) a c b = inl b
