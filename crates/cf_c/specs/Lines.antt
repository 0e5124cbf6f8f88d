-- What the calls on a program that C keeps answer.
use Rattle.std.specs.Prelude.{◌≡◌, ℕ, false, List, [], ◌∷◌, length, nat_le, nat_lt, Option, Some, None, Result, Ok, Err}
use Rattle.cf_io.specs.Seen.{ShelfSeen, SinkSeen}
use Rattle.cf_pass.specs.Passes.{Told}
use Rattle.cf_words.specs.Commands.{Command}
use Rattle.cf_words.specs.Words.{command_of}
use Rattle.cf_answer.specs.Owed.{AreReplies}
use Rattle.cf_answer.specs.Statuses.{code_of, status_of}
use Rattle.cf_answer.specs.Steps.{replier_of}
use Rattle.cf_answer.specs.Written.{line_of}
use Rattle.cf_answer.specs.declared.answerer.Replier.{Replier}
use Rattle.cf_answer.specs.declared.ended.Ended.{Ended}
use Rattle.cf_answer.specs.declared.status.Status.{Status}
use Rattle.cf_answer.specs.declared.status.Status.TheVariants.{Done, Usage}
use Rattle.cf_lines.specs.Opening.{IsOpen, IsShutBy}
use Rattle.cf_memory.specs.Files.{fresh_files}
use Rattle.cf_memory.specs.Held.{fresh_sink}
use Rattle.cf_memory.specs.declared.file.File.{File}
use Rattle.cf_top.specs.Top.{IsTold}
use Rattle.cf_tree.specs.declared.memory.NoMemory.{NoMemory}
use Rattle.cf_c.specs.Answered.{IsFilled, IsNoText, called_code, ended_code, no_memory}
use Rattle.cf_c.specs.declared.opening.Opened.{Opened}
use Rattle.cf_c.specs.declared.opening.Opened.TheVariants.{Program, Shut}
use Rattle.cf_c.specs.declared.words.Uncalled.{Uncalled}
use Rattle.cf_c.specs.declared.words.Uncalled.TheVariants as uncalled

-- the command of the words is opened, by some passes, and nothing is told to the errors
pub record Opens (command : Option Command) (shelf : ShelfSeen) (before errors : SinkSeen) (r : Replier) : Type 0 where
  pub given : List Told
  pub last : List Told
  pub opens : IsOpen command given last shelf.texts (replier_of r)
  pub silent : errors ≡ before

-- it is not; this is its status, and its line was told to the errors
pub record Shuts (command : Option Command) (shelf : ShelfSeen) (before errors : SinkSeen) (status : Status) : Type 0 where
  pub after : ShelfSeen
  pub how : Ended
  pub shut : IsShutBy command shelf after how
  pub is : status ≡ status_of how.answer
  pub told : IsTold before errors (line_of how)

abbrev pub IsOpenedBy : Option Command → ShelfSeen → SinkSeen → SinkSeen → Opened → Type 0
IsOpenedBy command shelf before errors (Program r) = Opens command shelf before errors r.value
IsOpenedBy command shelf before errors (Shut status) = Shuts command shelf before errors status

-- the status of what was opened, and what is kept of it
abbrev pub status_by : Opened → Status
status_by (Program r) = Done
status_by (Shut status) = status

abbrev pub held_by : Opened → Option Replier
held_by (Program r) = Some r.value
held_by (Shut status) = None

-- the same where it may not have come to that
abbrev pub ended_by : Result Opened Uncalled → Result Status Uncalled
ended_by (Ok o) = Ok (status_by o)
ended_by (Err fault) = Err fault

abbrev pub kept_by : Result Opened Uncalled → Option Replier
kept_by (Ok o) = held_by o
kept_by (Err fault) = None

-- How opening ended: what is kept answers lines; or nothing is kept, and the status and the errors say why; or a word is no text, or memory ran out, and the
-- errors are empty.
pub data OpenEnded (words : List (List ℕ)) (files : List File) (errors : SinkSeen) (kept : Option Replier) (how : Result Status Uncalled) : Type 0 where
  opened : (r : Replier) → kept ≡ Some r → how ≡ Ok Done → Opens (command_of words) (fresh_files files) fresh_sink errors r →
      OpenEnded words files errors kept how
  shut : (status : Status) → kept ≡ None → how ≡ Ok status → Shuts (command_of words) (fresh_files files) fresh_sink errors status →
      OpenEnded words files errors kept how
  no_text : kept ≡ None → how ≡ Err uncalled.NoText → IsNoText words → errors ≡ fresh_sink → OpenEnded words files errors kept how
  out_of_memory : kept ≡ None → how ≡ Err uncalled.NoMemory → errors ≡ fresh_sink → OpenEnded words files errors kept how

-- A call that opens these words. The buffer got what the errors hold, as far as it fits, and the number tells how it ended.
pub record IsOpened (words : List (List ℕ)) (files : List File) (kept : Option Replier) (err_old err_new : List ℕ) (err_size number : ℕ) : Type 0 where
  pub errors : SinkSeen
  pub told : List ℕ
  pub how : Result Status Uncalled
  pub ended : OpenEnded words files errors kept how
  pub err_held : errors.held ≡ Some told
  pub err_filled : IsFilled err_old err_new err_size told
  pub code : number ≡ ended_code how (nat_lt 0 errors.faults) (nat_le (length told) (length err_old))

-- how a line was answered: by the reply to it with its line feed; or by nothing, since memory ran out, or since nothing is kept
pub data LineEnded (kept : Option Replier) (line reply room : List ℕ) (number : ℕ) : Type 0 where
  replied : (r : Replier) → kept ≡ Some r → AreReplies (replier_of r) (line ∷ []) reply →
      number ≡ called_code Done false (nat_le (length reply) (length room)) → LineEnded kept line reply room number
  unreplied : reply ≡ [] → number ≡ no_memory → LineEnded kept line reply room number
  closed : kept ≡ None → reply ≡ [] → number ≡ code_of Usage → LineEnded kept line reply room number

-- A call that answers a line. What is kept stays, and the buffer got the reply, as far as it fits.
pub record IsLineAnswered (kept_old kept_new : Option Replier) (line out_old out_new : List ℕ) (out_size number : ℕ) : Type 0 where
  pub same : kept_new ≡ kept_old
  pub reply : List ℕ
  pub filled : IsFilled out_old out_new out_size reply
  pub ended : LineEnded kept_old line reply out_old number

-- ---- within the crate
-- what is handed back of a reply, or of none
abbrev pub IsHandedBack : Result (List ℕ) NoMemory → List ℕ → List ℕ → ℕ → ℕ → Type 0
IsHandedBack (Ok reply) out_old out_new out_size number =
    IsFilled out_old out_new out_size reply × (number ≡ called_code Done false (nat_le (length reply) (length out_old)))
IsHandedBack (Err fault) out_old out_new out_size number = IsFilled out_old out_new out_size [] × (number ≡ no_memory)
