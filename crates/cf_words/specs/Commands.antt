-- The commands.
use Rattle.std.specs.Prelude.{◌≤◌, ⊤, ℕ, Bool, List}
use Rattle.cf_print.specs.declared.language.Language.{Language}
use Rattle.cf_words.specs.declared.command.Command as declared
use Rattle.cf_words.specs.declared.command.Command.TheVariants.{OnFile, Verify, Gen, Help, Version}
use Rattle.cf_words.specs.declared.command.CommandKind.{CommandKind}
use Rattle.cf_words.specs.declared.command.CommandKind.TheVariants.{Compile, Run, Pre, Check, Exec, Prove, Emit, Goals}
use Rattle.cf_words.specs.declared.command.Emitting as declared_emitting
use Rattle.cf_words.specs.declared.command.FileCommand.{FileCommand}
use Rattle.cf_words.specs.declared.command.Flags.{Flags}
use Rattle.cf_words.specs.declared.command.ReplyForm.{ReplyForm}
use Rattle.cf_words.specs.declared.command.Strictness.{Strictness}

-- in which language a program is written, whether as a filter of lines too, and the name of its function
pub record Emitting : Type 0 where
  pub language : Language
  pub has_main : Bool
  pub name : List ℕ

pub data Command : Type 0 where
  compile : Flags → List ℕ → Command
  run : Flags → ReplyForm → List ℕ → Command
  pre : List ℕ → Command
  check : Strictness → List ℕ → Command
  exec : ReplyForm → List ℕ → Command
  prove : List ℕ → Command
  emit : Emitting → List ℕ → Command
  goals : List ℕ → Command
  verify : List ℕ → List ℕ → Command
  gen : ℕ → Command
  help : Command
  version : Command

abbrev pub plain_emitting : declared_emitting.Emitting → Emitting
plain_emitting e = record { language = e.language; has_main = e.has_main; name = e.name.now }

-- the command of a kind on a file, with what is asked of the passes and of the replies where the kind has these
abbrev pub command_on : CommandKind → Flags → ReplyForm → List ℕ → Command
command_on Compile flags form file = compile flags file
command_on Run flags form file = run flags form file
command_on Pre flags form file = pre file
command_on (Check strictness) flags form file = check strictness file
command_on Exec flags form file = exec form file
command_on Prove flags form file = prove file
command_on (Emit e) flags form file = emit (plain_emitting e) file
command_on Goals flags form file = goals file

abbrev pub file_command : FileCommand → Command
file_command c = command_on c.kind c.flags c.form c.file.now

-- a command of the program, without where its words lie in memory
abbrev pub plain_command : declared.Command → Command
plain_command (OnFile c) = file_command c
plain_command (Verify file steps) = verify file.now steps.now
plain_command (Gen n) = gen n
plain_command Help = help
plain_command Version = version

-- a workload has a size from 1 to 100
abbrev pub HasSize : declared.Command → Type 0
HasSize (OnFile c) = ⊤
HasSize (Verify file steps) = ⊤
HasSize (Gen n) = (1 ≤ n) × (n ≤ 100)
HasSize Help = ⊤
HasSize Version = ⊤
