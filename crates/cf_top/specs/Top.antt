-- What the top call answers and tells.
use Rattle.std.specs.Prelude.{◌≡◌, ◌⊎◌, ℕ, Bool, true, false, List, [], ◌++◌, length, map, Option, Some, Result}
use Rattle.std.specs.Io.KnownBytes.{Appends}
use Rattle.cf_io.specs.Bytes.{TookPrefix}
use Rattle.cf_io.specs.Causes.{one_more}
use Rattle.cf_io.specs.Limits.{IsWithin, IsPast}
use Rattle.cf_io.specs.Seen.{SinkSeen}
use Rattle.cf_pass.specs.Passes.{Told}
use Rattle.cf_words.specs.Commands.{Command}
use Rattle.cf_answer.specs.Commands.{names_of, reads_input, output_most}
use Rattle.cf_answer.specs.Ends.{Answers}
use Rattle.cf_answer.specs.Limits.{edition_for, input_most}
use Rattle.cf_answer.specs.Outside.{Outside}
use Rattle.cf_answer.specs.Owed.{Owes, Judges}
use Rattle.cf_answer.specs.Passes.{closing}
use Rattle.cf_answer.specs.Refusals.{Refuses, IsAccepted}
use Rattle.cf_answer.specs.Statuses.{fault_status, status_of}
use Rattle.cf_answer.specs.Written.{IsWrittenBy}
use Rattle.cf_answer.specs.declared.fault.Fault.{Fault}
use Rattle.cf_answer.specs.declared.status.Status.{Status}
use Rattle.cf_answer.specs.declared.status.Status.TheVariants.{File, Input, Output, Limit, InputLong, NoMemory}

-- it took a prefix of these bytes, and all of them unless it failed, once
pub record IsTold (before after : SinkSeen) (text : List ℕ) : Type 0 where
  pub prefix : TookPrefix before.held after.held text
  pub whole : (after.faults ≡ one_more before.faults) ⊎ (Appends before.held after.held text × (after.faults ≡ before.faults))

-- an answer to the words, with passes that told this before; what they told last, its status, and what is written of it
pub record TopAnswer (command : Option Command) (given : List Told) (before after : Outside) (errors_before errors_after : SinkSeen) (status : Status) : Type 0
  where
    pub answer : Result (Unit {0}) Fault
    pub passes : List Told
    pub is : status ≡ status_of answer
    pub answers : Answers command given passes before after answer
    pub line : List ℕ
    pub written : IsWrittenBy command before.shelf.texts answer line
    pub told : IsTold errors_before errors_after line

-- an input that is read is told, and within its limit; told, and past it
abbrev pub IsShort : Option ℕ → Bool → Option (List ℕ) → Type 0
IsShort most true input = (bytes : List ℕ) × (input ≡ Some bytes) × IsWithin most (length bytes)
IsShort most false input = Unit {0}

abbrev pub IsLong : Option ℕ → Bool → Option (List ℕ) → Type 0
IsLong most true input = (bytes : List ℕ) × (input ≡ Some bytes) × IsPast most (length bytes)
IsLong most false input = ⊥

-- what it is to write on these files is past the limit of what is written
pub record IsOverfull (command : Command) (files : List (List ℕ)) (status : Status) : Type 0 where
  pub is : status ≡ Limit
  pub given : List Told
  pub passes : List Told
  pub text : List ℕ
  pub owed : Owes command files given passes [] text
  pub past : IsPast (output_most command (edition_for files)) (length (text ++ closing command passes))

-- the status is that to which a command comes on these files: that it is done, or for a strict `check` that of its answers
abbrev pub IsJudged : Command → List (List ℕ) → Status → Type 0
IsJudged command files status = (text : List ℕ) × (answer : Result (Unit {0}) Fault) × Judges command files text answer × (status ≡ status_of answer)

-- A command that is refused on its files has the status of that fault, whatever the input and `out` did. One that is not is done, or ends by its answers, where
-- neither of them failed, unless the input is too long, or what it is to write. Or memory ran out.
pub record IsComplete (command : Command) (files : List (List ℕ)) (input : Option (List ℕ)) (status : Status) : Type 0 where
  pub refused : (f : Fault) → Refuses command files f → (status ≡ fault_status f) ⊎ (status ≡ NoMemory)
  pub done : IsAccepted command files → (status ≡ Input → ⊥) → (status ≡ Output → ⊥) → IsShort (input_most files) (reads_input command) input →
      IsJudged command files status ⊎ (status ≡ NoMemory) ⊎ IsOverfull command files status
  pub too_long : IsAccepted command files → (status ≡ Input → ⊥) → (status ≡ Output → ⊥) → IsLong (input_most files) (reads_input command) input →
      (status ≡ InputLong) ⊎ (status ≡ NoMemory)

-- the same where the texts of its files are told and no file failed
abbrev pub Completes : Command → Outside → Status → Type 0
Completes command before status =
    (files : List (List ℕ)) → map before.shelf.texts (names_of command) ≡ map Some files → (status ≡ File → ⊥) →
    IsComplete command files before.streams.input.left status
