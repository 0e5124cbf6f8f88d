-- What becomes of words that are opened.
use Rattle.std.specs.Prelude.{◌≡◌, ◌⊎◌, ℕ, ◌+◌, ◌≤◌, ◌<◌, Bool, true, false, not, List, [], ◌∷◌, length, take, Option, Some, IfSome, Contains, Result, Ok, Err}
use Rattle.cf_io.specs.Causes.{Rose}
use Rattle.cf_io.specs.Seen.{ShelfSeen}
use Rattle.cf_tree.specs.declared.base.Edition.TheVariants.{Two}
use Rattle.cf_pass.specs.Passes.{Told}
use Rattle.cf_words.specs.Commands.{Command, run, exec, file_command}
use Rattle.cf_words.specs.declared.command.FileCommand.{FileCommand}
use Rattle.cf_answer.specs.Commands.{names_of, text_most}
use Rattle.cf_answer.specs.Outside.{AreTold, AreTexts}
use Rattle.cf_answer.specs.Owed.{Replier, AreReplies, Owes}
use Rattle.cf_answer.specs.Refusals.{Refuses}
use Rattle.cf_answer.specs.Steps.{replier_of}
use Rattle.cf_answer.specs.Written.{IsWrittenBy, IsWrittenOf, line_of, linearity_of, source_of}
use Rattle.cf_answer.specs.declared.answerer.Replier.{Replier as DeclaredReplier}
use Rattle.cf_answer.specs.declared.ended.Ended.{Ended}
use Rattle.cf_answer.specs.declared.fault.Fault.{Fault}
use Rattle.cf_answer.specs.declared.fault.Fault.TheVariants as fault

-- whether a command answers lines, and writes nothing behind all replies
abbrev pub answers_lines : Command → Bool
answers_lines (run flags form file) = not flags.stats
answers_lines (exec form file) = true
answers_lines command = false

-- its replies to lines are what a command owes for these lines on files of these texts, with passes that told `given` before and tell `last`
abbrev pub RepliesFor : Command → List (List ℕ) → List Told → List Told → Replier → Type 0
RepliesFor command files given last r = (ls : List (List ℕ)) (text : List ℕ) → AreReplies r ls text → Owes command files given last ls text

-- what is opened: it answers as the command does on its files, as far as their texts are told
pub record IsOpen (command : Option Command) (given last : List Told) (texts : List ℕ → Option (List ℕ)) (r : Replier) : Type 0 where
  pub asked : Command
  pub is : command ≡ Some asked
  pub lines : answers_lines asked ≡ true
  pub files : List (List ℕ)
  pub told : AreTexts texts (names_of asked) files
  pub replies : RepliesFor asked files given last r

-- Why nothing is opened: the words are no command that answers lines; its file failed; its text is refused; or memory ran out.
pub data IsShut (command : Option Command) (before after : ShelfSeen) (f : Fault) : Type 0 where
  no_lines : f ≡ fault.Usage → IfSome command (λ c. answers_lines c ≡ false) → IsShut command before after f
  no_file : (c : Command) (name : List ℕ) → f ≡ fault.File → command ≡ Some c → Contains (names_of c) name → Rose (before.faults name) (after.faults name) →
      IsShut command before after f
  refused : (c : Command) (files : List (List ℕ)) → command ≡ Some c → AreTexts before.texts (names_of c) files → Refuses c files f →
      IsShut command before after f
  out_of_memory : f ≡ fault.NoMemory → IsShut command before after f

-- the same of how it ended, with what is written of it
pub record IsShutBy (command : Option Command) (before after : ShelfSeen) (e : Ended) : Type 0 where
  pub why : Fault
  pub is : e.answer ≡ Err why
  pub shut : IsShut command before after why
  pub written : IsWrittenBy command before.texts e.answer (line_of e)

-- what comes of words of this command, with a shelf that told `before` and tells `after`
abbrev pub IsOpening : Option Command → List Told → List Told → ShelfSeen → ShelfSeen → Result DeclaredReplier Ended → Type 0
IsOpening command given last before after (Ok r) = IsOpen command given last before.texts (replier_of r)
IsOpening command given last before after (Err e) = IsShutBy command before after e

-- ---- within the crate
-- why words give no command that answers lines
abbrev pub IsUnasked : Option Command → Fault → Type 0
IsUnasked command fault.Usage = IfSome command (λ c. answers_lines c ≡ false)
IsUnasked command fault.NoMemory = Unit {0}
IsUnasked command f = ⊥

-- the command of the words, where it answers lines; or why there is none
abbrev pub IsAsked : Option Command → Result FileCommand Fault → Type 0
IsAsked command (Ok c) = (command ≡ Some (file_command c)) × (answers_lines (file_command c) ≡ true)
IsAsked command (Err f) = IsUnasked command f

-- why as much of a text as may be read is not opened: it is refused as the whole text, it is too long, or memory ran out
pub data IsUnread (command : Command) (front : List ℕ) (f : Fault) : Type 0 where
  bad : length front ≤ text_most command Two → Refuses command (front ∷ []) f → IsUnread command front f
  long : f ≡ fault.TextTooLong → text_most command Two < length front → IsUnread command front f
  lost : f ≡ fault.NoMemory → IsUnread command front f

-- what comes of as much of a text as may be read
abbrev pub Reads : Command → List Told → List Told → List ℕ → Result DeclaredReplier Fault → Type 0
Reads command given last front (Ok r) = (length front ≤ text_most command Two) × RepliesFor command (front ∷ []) given last (replier_of r)
Reads command given last front (Err f) = IsUnread command front f × ((f ≡ fault.TextTooLong) ⊎ (length front ≤ text_most command Two))

pub record IsRead (command : Command) (given last : List Told) (front : List ℕ) (r : Result DeclaredReplier Fault) : Type 0 where
  pub is : Reads command given last front r

-- why nothing is opened of it, with what is written where a text of this name begins so
abbrev pub IsShutFront : FileCommand → List ℕ → Ended → Type 0
IsShutFront c front e =
    (f : Fault) × (e.answer ≡ Err f) × IsUnread (file_command c) front f
    × ((texts : List ℕ → Option (List ℕ)) (whole : List ℕ) → AreTold (texts c.file.now) whole → front ≡ take (text_most (file_command c) Two + 1) whole →
    IsWrittenOf (source_of (file_command c)) (linearity_of (file_command c)) texts e.answer (line_of e))

-- what is opened of it, or why nothing is
abbrev pub IsOpenedFront : FileCommand → List Told → List Told → List ℕ → Result DeclaredReplier Ended → Type 0
IsOpenedFront c given last front (Ok r) = IsRead (file_command c) given last front (Ok r)
IsOpenedFront c given last front (Err e) = IsShutFront c front e
