-- How a command ends.
use Rattle.std.specs.Prelude.{◌≡◌, ◌⊎◌, ℕ, ◌+◌, ◌≤◌, Bool, true, false, List, []}
use Rattle.std.specs.Prelude.{◌++◌, length, if◌then◌else◌, Option, Some, None, Result, Ok, Err}
use Rattle.std.specs.Io.KnownBytes.{Appends, Consumes, IsAtEnd}
use Rattle.cf_io.specs.Bytes.{TookPrefix}
use Rattle.cf_io.specs.Causes.{Rose}
use Rattle.cf_io.specs.Cut.{within}
use Rattle.cf_io.specs.Limits.{is_within, IsWithin, IsPast}
use Rattle.cf_io.specs.Lines.{lines, ended}
use Rattle.cf_io.specs.Seen.{ShelfSeen}
use Rattle.cf_pass.specs.Passes.{Told}
use Rattle.cf_program.specs.Checked.{TypedTree}
use Rattle.cf_words.specs.Commands.{Command, verify}
use Rattle.cf_answer.specs.Commands.{names_of, reads_input, calls_passes, text_most, output_most}
use Rattle.cf_answer.specs.Limits.{edition_for, input_most}
use Rattle.cf_answer.specs.Outside.{Outside, Streams, Taken, AreTold, AreTexts, Counts, Blames, IsFrugal, IsSparing}
use Rattle.cf_answer.specs.Owed.{Owes, Judges}
use Rattle.cf_answer.specs.Passes.{ArePassed, closing}
use Rattle.cf_answer.specs.Refusals.{Refuses}
use Rattle.cf_answer.specs.Sources.{IsTypedSource}
use Rattle.cf_answer.specs.declared.fault.Fault.{Fault}
use Rattle.cf_answer.specs.declared.fault.Fault.TheVariants as fault
use Rattle.cf_answer.specs.declared.status.Status.{Status}
use Rattle.cf_answer.specs.declared.status.Status.TheVariants.{File}

-- the input as far as the command reads it
abbrev pub input_for : Command → List ℕ → List ℕ
input_for command input = if reads_input command then input else []

-- the lines that are answered: all, or where the input is past its limit those whose line feed stands within the limit
abbrev pub answered_lines : Option ℕ → List ℕ → List (List ℕ)
answered_lines most input = if is_within most (length input) then lines input else ended (within most input)

-- what stands behind the answers: the closing, or where the input is past its limit nothing
abbrev pub behind_lines : Option ℕ → List ℕ → List ℕ → List ℕ
behind_lines most input end = if is_within most (length input) then end else []

-- these first bytes of the input were read, and none by a command that reads no input
abbrev pub Reads : Bool → Option (List ℕ) → Option (List ℕ) → List ℕ → Type 0
Reads true old new front = Consumes old new front
Reads false old new front = (new ≡ old) × (front ≡ [])

-- the input was read to its end, if it is read
abbrev pub IsReadUp : Bool → Option (List ℕ) → Type 0
IsReadUp true new = IsAtEnd new
IsReadUp false new = Unit {0}

-- what there was to do: a command on files of these texts, with passes that told this before, and tell this last
pub record Job : Type 0 where
  pub command : Command
  pub files : List (List ℕ)
  pub given : List Told
  pub passes : List Told

-- so much of the input was read, and `out` took what is owed for these lines and then `end`, which is within the limit of what is written, as far as Took says
pub record Wrote (job : Job) (before after : Streams) (Took : Option (List ℕ) → Option (List ℕ) → List ℕ → Type 0) (front : List ℕ) (ls : List (List ℕ))
    (end : List ℕ) : Type 0 where
  pub text : List ℕ
  pub read : Reads (reads_input job.command) before.input.left after.input.left front
  pub owed : Owes job.command job.files job.given job.passes ls text
  pub fits : IsWithin (output_most job.command (edition_for job.files)) (length (text ++ end))
  pub took : Took before.out.held after.out.held (text ++ end)

-- what a command that is done writes behind all else
abbrev pub closing_of : Job → List ℕ
closing_of job = closing job.command job.passes

-- `out` took a prefix of all that is owed for this input
abbrev pub IsStopped : Job → Streams → Streams → Type 0
IsStopped job before after =
    (front : List ℕ) × (rest : List ℕ) × AreTold after.input.left rest
    × Wrote job before after TookPrefix front (answered_lines (input_most job.files) (input_for job.command (front ++ rest)))
    (behind_lines (input_most job.files) (input_for job.command (front ++ rest)) (closing_of job))

-- all was read, and all that is owed was written, which comes to this answer
abbrev pub IsDone : Job → Streams → Streams → Result (Unit {0}) Fault → Type 0
IsDone job before after answer =
    (front : List ℕ) × IsReadUp (reads_input job.command) after.input.left × IsWithin (input_most job.files) (length front)
    × (wrote : Wrote job before after Appends front (lines front) (closing_of job)) × Judges job.command job.files wrote.text answer

-- Done, or answers of a strict `check` are no or undecided: all was read, and all that is owed was written. The input failed: the lines were answered whose line feed was read. The input is too long: those
-- were whose line feed stands within the limit. What is owed is past the limit of what is written: nothing was written. `out` failed, or memory ran out:
-- a prefix was written of what is owed. The file failed: nothing was written,
-- and no pass was called. It is refused: nothing was written.
abbrev pub Ends : Job → Streams → Streams → Result (Unit {0}) Fault → Type 0
Ends job before after (Ok done) = IsDone job before after (Ok tt)
Ends job before after (Err (fault.AnswersNo n)) = IsDone job before after (Err (fault.AnswersNo n))
Ends job before after (Err (fault.AnswersUndecided n)) = IsDone job before after (Err (fault.AnswersUndecided n))
Ends job before after (Err fault.Input) =
    (front : List ℕ) × (reads_input job.command ≡ true) × IsWithin (input_most job.files) (length front) × Wrote job before after Appends front (ended front) []
Ends job before after (Err fault.InputTooLong) =
    (front : List ℕ) × IsPast (input_most job.files) (length front) × Wrote job before after Appends front (ended (within (input_most job.files) front)) []
Ends job before after (Err fault.OutputTooLong) =
    (text : List ℕ) × Owes job.command job.files job.given job.passes [] text
    × IsPast (output_most job.command (edition_for job.files)) (length (text ++ closing_of job)) × (after.out.held ≡ before.out.held)
Ends job before after (Err fault.Output) = IsStopped job before after
Ends job before after (Err fault.NoMemory) = IsStopped job before after ⊎ (after.out.held ≡ before.out.held)
Ends job before after (Err fault.File) = (after.out.held ≡ before.out.held) × (job.passes ≡ job.given)
Ends job before after (Err f) = Refuses job.command job.files f × (after.out.held ≡ before.out.held)

-- no pass is called for texts that are refused, whatever comes of it
abbrev pub AreSpared : Command → List (List ℕ) → List Told → List Told → Type 0
AreSpared command files given last = (f : Fault) → Refuses command files f → last ≡ given

-- What comes of a command on files of these texts, with passes that told `given` before and tell `last`: how it ends, whatever the names of the files, how
-- much of the input was read, and which stream failed. The answer names neither the words nor a file.
pub record AnswersOn (command : Command) (given last : List Told) (files : List (List ℕ)) (before after : Streams) (answer : Result (Unit {0}) Fault) : Type 0
  where
    pub passed : ArePassed (calls_passes command) given last
    pub spared : AreSpared command files given last
    pub ends : Ends (record { command = command; files = files; given = given; passes = last }) before after answer
    pub sparing : IsSparing (input_most files) before.input after.input
    pub input : Counts (answer ≡ Err fault.Input) before.input.faults after.input.faults
    pub out : Counts (answer ≡ Err fault.Output) before.out.faults after.out.faults
    pub not_usage : answer ≡ Err fault.Usage → ⊥
    pub not_file : answer ≡ Err fault.File → ⊥

-- how much a command may take with these files
abbrev pub taken_by : Command → List (List ℕ) → Taken
taken_by command files = record { text = text_most command (edition_for files); input = input_most files }

-- The texts of the files, as far as they are told; what the passes told before and last; how it ends, which object failed, and what was taken of the files
-- and of the input.
pub record Does (command : Command) (given last : List Told) (before after : Outside) (answer : Result (Unit {0}) Fault) : Type 0 where
  pub files : List (List ℕ)
  pub told : AreTexts before.shelf.texts (names_of command) files
  pub passed : ArePassed (calls_passes command) given last
  pub spared : AreSpared command files given last
  pub ends : Ends (record { command = command; files = files; given = given; passes = last }) before.streams after.streams answer
  pub blames : Blames (names_of command) before after answer
  pub frugal : IsFrugal (taken_by command files) (names_of command) before after

-- What the words ask. Where they are no command, they are refused, or memory ran out while they were read, and nothing is done.
abbrev pub Answers : Option Command → List Told → List Told → Outside → Outside → Result (Unit {0}) Fault → Type 0
Answers None given last before after answer = ((answer ≡ Err fault.Usage) ⊎ (answer ≡ Err fault.NoMemory)) × (after ≡ before) × (last ≡ given)
Answers (Some command) given last before after answer = Does command given last before after answer

-- How `verify` fetches its files. The source is the one that it fetched, and where a file failed, this one did. Or no rule is broken in the source, and
-- where a file failed, it is the steps file.
pub data AreFetched (file steps : List ℕ) (before after : ShelfSeen) (status : Status) : Type 0 where
  source_alone : after.fetches ≤ before.fetches + 1 → (status ≡ File → Rose (before.faults file) (after.faults file)) →
      AreFetched file steps before after status
  steps_too : (source : List ℕ) (typed : TypedTree) → AreTold (before.texts file) source → IsTypedSource source typed →
      (status ≡ File → Rose (before.faults steps) (after.faults steps)) → AreFetched file steps before after status

-- the steps file is fetched only behind a source that was read, and in which no rule is broken
abbrev pub IsInOrder : Command → ShelfSeen → ShelfSeen → Status → Type 0
IsInOrder (verify file steps) before after status = AreFetched file steps before after status
IsInOrder command before after status = Unit {0}
