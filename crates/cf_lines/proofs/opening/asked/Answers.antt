use Rattle.std.proofs.Common.{refl, sym, subst, map, string_bytes}
use Rattle.cf_words.specs.Words.{command_of}
use Rattle.cf_lines.specs.Opening.{IsAsked}
use Rattle.cf_lines.proofs.OpenLemmas.{none_asked, nothing_asked}
use Rattle.cf_lines.proofs.opening.asked.Goals as goal

pub returns-in-Ok-OnFile : goal.returns-in-Ok-OnFile
returns-in-Ok-OnFile c =
    subst (λ o. IsAsked o c.answering.result) (sym (rw c.in-Ok-OnFile.field-0-is at c.in-Ok-OnFile.ensures.answer)) c.answering.ensures

pub returns-in-Ok-Verify : goal.returns-in-Ok-Verify
returns-in-Ok-Verify c = none_asked (command_of (map string_bytes c.args.words.now)) _ (rw c.in-Ok-Verify.field-0-is at c.in-Ok-Verify.ensures.answer) refl

pub returns-in-Ok-Gen : goal.returns-in-Ok-Gen
returns-in-Ok-Gen c = none_asked (command_of (map string_bytes c.args.words.now)) _ (rw c.in-Ok-Gen.field-0-is at c.in-Ok-Gen.ensures.answer) refl

pub returns-in-Ok-Help : goal.returns-in-Ok-Help
returns-in-Ok-Help c = none_asked (command_of (map string_bytes c.args.words.now)) _ (rw c.in-Ok-Help.field-0-is at c.in-Ok-Help.ensures.answer) refl

pub returns-in-Ok-Version : goal.returns-in-Ok-Version
returns-in-Ok-Version c = none_asked (command_of (map string_bytes c.args.words.now)) _ (rw c.in-Ok-Version.field-0-is at c.in-Ok-Version.ensures.answer) refl

pub returns-in-Err-Usage : goal.returns-in-Err-Usage
returns-in-Err-Usage c = nothing_asked (command_of (map string_bytes c.args.words.now)) (rw c.in-Err-Usage.field-0-is at c.in-Err-Usage.ensures.answer)
