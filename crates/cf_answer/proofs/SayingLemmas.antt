-- From the message that is made to what is said of a refused source.
use Rattle.std.proofs.Common.{◌≡◌, ℕ, ◌≤◌, ◌<◌, ◌+◌, ◌-◌, ◌^◌, List, Result, arith}
use Rattle.std.specs.Prelude.{IfOk, Ok, Err}
use Rattle.cf_tree.specs.declared.base.Edition.TheVariants.{Two}
use Rattle.cf_words.specs.Commands.{command_on}
use Rattle.cf_words.specs.declared.command.CommandKind.{CommandKind}
use Rattle.cf_words.specs.declared.command.CommandKind.TheVariants.{Compile, Run, Pre, Check, Exec, Prove, Emit, Goals}
use Rattle.cf_words.specs.declared.command.Flags.{Flags}
use Rattle.cf_words.specs.declared.command.ReplyForm.{ReplyForm}
use Rattle.cf_answer.specs.Commands.{text_most}
use Rattle.cf_answer.specs.Limits.{text_limit, written_limit}

-- the tokens of a source have places
pub small_text : (n : ℕ) → n ≤ text_limit → n < 2 ^ 32 - 1
unfolding text_limit
small_text n h = omega (arith, h)

pub small_front : (n : ℕ) → n ≤ text_limit + 1 → n < 2 ^ 32 - 1
unfolding text_limit
small_front n h = omega (arith, h)

-- no command reads more of its file
pub small_file : (kind : CommandKind) (flags : Flags) (form : ReplyForm) (file : List ℕ) (n : ℕ) → n ≤ text_most (command_on kind flags form file) Two + 1 →
    n < 2 ^ 32 - 1
unfolding text_limit written_limit
small_file Compile flags form file n h = omega (arith, h)
small_file Run flags form file n h = omega (arith, h)
small_file Pre flags form file n h = omega (arith, h)
small_file (Check strictness) flags form file n h = omega (arith, h)
small_file Exec flags form file n h = omega (arith, h)
small_file Prove flags form file n h = omega (arith, h)
small_file (Emit e) flags form file n h = omega (arith, h)
small_file Goals flags form file n h = omega (arith, h)

-- what holds of a message holds of it where it was made
pub when_made : {A E : Type 0} (P Q : A → Type 0) (made : Result A E) → ((m : A) → P m → Q m) → IfOk made P → IfOk made Q
when_made P Q (Ok m) f h = f m h
when_made P Q (Err e) f h = tt
